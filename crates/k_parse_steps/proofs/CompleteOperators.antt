-- Operands of one token, and operators: each is read where its operands are.
use Rattle.std.proofs.Common.{ℕ, zero, suc, ℤ, ◌≡◌, ◌+◌, ◌≤◌, max, false, cond, IsTrue, List, [], ◌∷◌, ◌++◌, length, Some, sym, ap, ◌∙◌, subst₂, refl, arith}
use Rattle.k_num.specs.declared.numbers.Kind.{Kind}
use Rattle.k_parse_steps.specs.Types.{Place, Token, Mark, Expr, Binding, Term, Open, Site, Reading}
use Rattle.k_tree.specs.declared.tokens.TokenKind.TheVariants as token
use Rattle.k_tree.specs.declared.tokens.mark.Mark.TheVariants as mark
use Rattle.k_tree.specs.declared.tree.expression.Expr.TheVariants as expr
use Rattle.k_tree.specs.Bare.{bare_expr, bare_expr_step, nowhere}
use Rattle.k_tree.proofs.Folds.{expr_Assign, expr_Binary, expr_Char, expr_Comma, expr_Name, expr_Number, expr_Str}
use Rattle.k_tree.specs.Nesting.{expr_depth, expr_depth_step}
use Rattle.k_tree.specs.Ranked.{binary_rank, is_assignment}
use Rattle.k_tree.specs.Spelling.{Spelled, spell_expr, spell_expr_step, the_mark}
use Rattle.k_parse_steps.specs.Operators.{binding, own_rank}
use Rattle.k_parse_steps.specs.Level.{plus}
use Rattle.k_parse_steps.specs.Expressions.{feed, operand, named, value, hole, plug, Opens, goes, level, leaf, term, infix_made, infix_tree}
use Rattle.k_parse_steps.specs.declared.expression.Open.TheVariants as open_
use Rattle.k_parse_steps.specs.declared.expression.ExpressionStage.TheVariants as now
use Rattle.k_parse_steps.specs.declared.expression.plug.Plugged.TheVariants as plugged
use Rattle.k_parse_steps.proofs.CompleteLeads.{token_at, Leads, Step, leads-then, leads-more}
use Rattle.k_parse_steps.proofs.CompleteHolds.{Feeds, reading, awaits, Holds, Guards, Reads, closed, taken, taken_by, below_by}
use Rattle.k_parse_steps.proofs.CompleteSteps.{reach_low, above-both, bind, Infixes, comma_infixes, binary_infixes, assignment_infixes, binary_bounds, binary_binding, assignment_binding, own_bound, infix_hole, infix_opens, infix_plugs}
use Rattle.k_parse_steps.specs.Tokens.{token_is_mark}

-- a construct by its spelling and its depth
pub reads_by : (k : ℕ) (e : Expr) (xs : Spelled) (d : ℕ) → spell_expr e ≡ xs → expr_depth e ≡ d
    → ((least : ℕ) (g : Site) (s : Opens) → hole g s ≤ k → Guards least k
    → Leads Feeds (g.level + length s + d) xs (awaits g s) (Holds least g s k e))
    → Reads k e
reads_by k e xs d spelled deep f = λ least g s h q.
    subst₂ (λ ys m. Leads Feeds (g.level + length s + m) ys (awaits g s) (Holds least g s k e)) (sym spelled) (sym deep) (f least g s h q)

-- a value that was just made
pub holds_value : (least : ℕ) (g : Site) (s : Opens) (k : ℕ) (e : Expr) (a : Term)
    → k ≤ a.rank → a.height ≡ (expr_depth e) → bare_expr a.tree ≡ bare_expr e → Holds least g s k e (reading g s (now.Value a))
unfolding feed
holds_value least g s k e a r h b = record { a = a; next = λ t below. refl; ranked = r; high = h; same = b }

-- a construct that ends with its operand
pub holds_over : (least : ℕ) (g : Site) (o : Open) (s : Opens) (j k : ℕ) (b e : Expr) (r : Reading) (h : Holds least g (o ∷ s) j b r) (c : Term)
    → plug o h.a ≡ plugged.Whole c → least ≤ hole g (o ∷ s)
    → k ≤ c.rank → c.height ≡ (expr_depth e) → bare_expr c.tree ≡ bare_expr e → Holds least g s k e r
holds_over least g o s j k b e r h c whole le rank high same = record {
  a = c;
  next = λ t below. h.next t below ∙ closed g o s h.a c t (below.1 (hole g (o ∷ s)) h.a.rank le) whole;
  ranked = rank;
  high = high;
  same = same;
}

-- operands of one token
leaf_step : (least : ℕ) (g : Site) (s : Opens) (k : ℕ) (e made : Expr) (t : Token) → k ≤ 16
    → feed (awaits g s) t ≡ leaf g s made → expr_depth e ≡ 1 → bare_expr made ≡ bare_expr e
    → Step Feeds (g.level + length s + 1) (awaits g s) t (Holds least g s k e)
leaf_step least g s k e made t le fed_by deep same = record {
  next = reading g s (now.Value (term made 16 1));
  reach = level g s;
  goes = fed_by;
  low = omega arith;
  there = holds_value least g s k e (term made 16 1) le (sym deep) same;
}

pub reads_number : (k : ℕ) (p : Place) (kind : Kind) (n : ℕ) → k ≤ 16 → Reads k (expr.Number p kind n)
unfolding feed operand
reads_number k p kind n le =
    reads_by k (expr.Number p kind n) _ 1 (expr_Number Spelled spell_expr_step p kind n) (expr_Number ℕ expr_depth_step p kind n)
    (λ least g s h q at. leaf_step least g s k (expr.Number p kind n) (expr.Number at kind n) _ le refl
    (expr_Number ℕ expr_depth_step p kind n)
    (expr_Number Expr bare_expr_step at kind n ∙ sym (expr_Number Expr bare_expr_step p kind n)))

pub reads_character : (k : ℕ) (p : Place) (z : ℤ) → k ≤ 16 → Reads k (expr.Char p z)
unfolding feed operand
reads_character k p z le =
    reads_by k (expr.Char p z) _ 1 (expr_Char Spelled spell_expr_step p z) (expr_Char ℕ expr_depth_step p z)
    (λ least g s h q at. leaf_step least g s k (expr.Char p z) (expr.Char at z) _ le refl
    (expr_Char ℕ expr_depth_step p z)
    (expr_Char Expr bare_expr_step at z ∙ sym (expr_Char Expr bare_expr_step p z)))

pub reads_string : (k : ℕ) (p : Place) (bytes : List ℕ) → k ≤ 16 → Reads k (expr.Str p bytes)
unfolding feed operand
reads_string k p bytes le =
    reads_by k (expr.Str p bytes) _ 1 (expr_Str Spelled spell_expr_step p bytes) (expr_Str ℕ expr_depth_step p bytes)
    (λ least g s h q at. leaf_step least g s k (expr.Str p bytes) (expr.Str at bytes) _ le refl
    (expr_Str ℕ expr_depth_step p bytes)
    (expr_Str Expr bare_expr_step at bytes ∙ sym (expr_Str Expr bare_expr_step p bytes)))

-- a name, which no `(` follows
named_next : (g : Site) (s : Opens) (p : Place) (x : List ℕ) (t : Token) → token_is_mark t.what mark.LeftParen ≡ false
    → feed (reading g s (now.Named p x)) t ≡ value g s (term (expr.Name p x) 16 1) t
unfolding feed named
named_next g s p x t h = ap (λ v. cond v (goes g (open_.Call p x [] 0 ∷ s) now.Operand 0) (value g s (term (expr.Name p x) 16 1) t)) h

pub reads_name : (k : ℕ) (p : Place) (x : List ℕ) → k ≤ 16 → Reads k (expr.Name p x)
unfolding feed operand
reads_name k p x le =
    reads_by k (expr.Name p x) _ 1 (expr_Name Spelled spell_expr_step p x) (expr_Name ℕ expr_depth_step p x)
    (λ least g s h q at. record {
      next = reading g s (now.Named at x);
      reach = level g s;
      goes = refl;
      low = omega arith;
      there = record {
        a = term (expr.Name at x) 16 1;
        next = λ t below. named_next g s at x t below.0;
        ranked = le;
        high = sym (expr_Name ℕ expr_depth_step p x);
        same = expr_Name Expr bare_expr_step at x ∙ sym (expr_Name Expr bare_expr_step p x);
      };
    })

-- an operator between two operands
infix_step : (g : Site) (s : Opens) (k j : ℕ) (a : Expr) (r : Reading) (op : Mark) (b : Binding) (h : Holds (b.own + 1) g s j a r) (p : Place)
    → Infixes op → binding op ≡ Some b → hole g s ≤ b.own → b.left ≤ h.a.rank
    → feed r (token_at p (token.Mark op)) ≡ goes g (open_.Infix p op h.a ∷ s) now.Operand (plus (level g s) h.a.height)
infix_step g s k j a r op b h p shape binds low high =
    h.next (token_at p (token.Mark op)) (below_by (b.own + 1) op b shape.name_stands binds (omega arith))
    ∙ (taken g s h.a p op (taken_by (hole g s) h.a.rank op b binds low high)
    ∙ infix_opens g s h.a op p shape)

pub reads_infix : (k left own right : ℕ) (op : Mark) (a b e : Expr) → Infixes op → binding op ≡ Some (bind left own right)
    → k ≤ own → own ≤ left → Guards (own + 1) left
    → ((least : ℕ) → Guards least k → Guards least right × (least ≤ right))
    → spell_expr e ≡ spell_expr a ++ (the_mark op ++ spell_expr b)
    → expr_depth e ≡ 1 + max (expr_depth a) (expr_depth b)
    → ((p : Place) (c d : Expr) → bare_expr c ≡ bare_expr a → bare_expr d ≡ bare_expr b → bare_expr (infix_tree own p op c d) ≡ bare_expr e)
    → Reads left a → Reads right b → Reads k e
unfolding infix_made
reads_infix k left own right op a b e shape binds le up guards more spelled deep same f n =
    reads_by k e (spell_expr a ++ (the_mark op ++ spell_expr b)) (1 + max (expr_depth a) (expr_depth b)) spelled deep
    (λ least g s low q.
    leads-then Feeds (g.level + length s + expr_depth a) (g.level + length s + (1 + max (expr_depth a) (expr_depth b)))
    (spell_expr a) (the_mark op ++ spell_expr b) (awaits g s) (Holds (own + 1) g s left a) (Holds least g s k e) (omega arith)
    (f (own + 1) g s (omega arith) guards)
    (λ r h p. record {
      next = awaits g (open_.Infix p op h.a ∷ s);
      reach = plus (level g s) h.a.height;
      goes = infix_step g s k left a r op (bind left own right) h p shape binds (omega arith) h.ranked;
      low = let m : plus (level g s) h.a.height ≤ g.level + length s + expr_depth a = reach_low g s h.a.height (expr_depth a) h.high in omega arith;
      there =
          let at : hole g (open_.Infix p op h.a ∷ s) ≡ right = infix_hole g s p op h.a (bind left own right) binds in
          let guard : Guards least right × (least ≤ right) = more least q in
          leads-more Feeds (g.level + length (open_.Infix p op h.a ∷ s) + expr_depth b) (g.level + length s + (1 + max (expr_depth a) (expr_depth b)))
          (spell_expr b) (awaits g (open_.Infix p op h.a ∷ s)) (Holds least g (open_.Infix p op h.a ∷ s) right b) (Holds least g s k e) (omega arith)
          (n least g (open_.Infix p op h.a ∷ s) (omega arith) guard.0)
          (λ z i. holds_over least g (open_.Infix p op h.a) s right k b e z i (infix_made p op h.a i.a) (infix_plugs p op h.a i.a)
          (let low : least ≤ right = guard.1 in omega arith)
          (let own_is : own_rank op ≡ own = own_bound op (bind left own right) binds in omega arith)
          (above-both h.a.height i.a.height (expr_depth a) (expr_depth b) h.high i.high ∙ sym deep)
          (ap (λ m. bare_expr (infix_tree m p op h.a.tree i.a.tree)) (own_bound op (bind left own right) binds) ∙ same p h.a.tree i.a.tree h.same i.same));
    }))

binary_tree : (n : ℕ) (p : Place) (op : Mark) (a b : Expr) → 3 ≤ n → infix_tree n p op a b ≡ expr.Binary p op a b
binary_tree zero p op a b h = absurd (omega arith)
binary_tree (suc zero) p op a b h = absurd (omega arith)
binary_tree (suc (suc n)) p op a b h = refl

under_right : (k n least : ℕ) → k ≤ n → 3 ≤ n → n ≤ 12 → Guards least k → least ≤ n + 1
under_right k n least le low high q = let h : least ≤ k + 1 = q.2 (omega arith) in omega arith

pub reads_binary : (k : ℕ) (p : Place) (op : Mark) (n : ℕ) (a b : Expr) → k ≤ n → binary_rank op ≡ Some n
    → Reads n a → Reads (n + 1) b → Reads k (expr.Binary p op a b)
reads_binary k p op n a b le e f x =
    let bounds : (3 ≤ n) × (n ≤ 12) = binary_bounds op n e in
    let low : 3 ≤ n = bounds.0 in
    let high : n ≤ 12 = bounds.1 in
    reads_infix k n n (n + 1) op a b (expr.Binary p op a b) (binary_infixes op n e) (binary_binding op n e) le (omega arith)
    ((λ h. omega arith), (λ h. omega arith), (λ h. omega arith), (λ h. omega arith))
    (λ least q. let under : least ≤ n + 1 = under_right k n least le low high q in
    (((λ h. omega arith), (λ h. omega arith), (λ h. omega arith), (λ h. omega arith)), under))
    (expr_Binary Spelled spell_expr_step p op a b) (expr_Binary ℕ expr_depth_step p op a b)
    (λ q c d i j. ap (λ t. bare_expr t) (binary_tree n q op c d low)
    ∙ (expr_Binary Expr bare_expr_step q op c d
    ∙ (ap (λ t. expr.Binary nowhere op t (bare_expr d)) i
    ∙ (ap (λ t. expr.Binary nowhere op (bare_expr a) t) j
    ∙ sym (expr_Binary Expr bare_expr_step p op a b)))))
    f x

pub reads_assignment : (k : ℕ) (p : Place) (op : Mark) (a b : Expr) → k ≤ 1 → IsTrue (is_assignment op)
    → Reads 14 a → Reads 1 b → Reads k (expr.Assign p op a b)
reads_assignment k p op a b le e f x =
    reads_infix k 14 1 1 op a b (expr.Assign p op a b) (assignment_infixes op e) (assignment_binding op e) le (omega arith)
    ((λ h. omega arith), (λ h. omega arith), (λ h. omega arith), (λ h. omega arith))
    (λ least q. let under : least ≤ 1 = q.0 le in
    (((λ h. omega arith), (λ h. omega arith), (λ h. omega arith), (λ h. omega arith)), under))
    (expr_Assign Spelled spell_expr_step p op a b) (expr_Assign ℕ expr_depth_step p op a b)
    (λ q c d i j. expr_Assign Expr bare_expr_step q op c d
    ∙ (ap (λ t. expr.Assign nowhere op t (bare_expr d)) i
    ∙ (ap (λ t. expr.Assign nowhere op (bare_expr a) t) j
    ∙ sym (expr_Assign Expr bare_expr_step p op a b))))
    f x

pub reads_comma : (k : ℕ) (p : Place) (a b : Expr) → k ≤ 0 → Reads 0 a → Reads 1 b → Reads k (expr.Comma p a b)
unfolding binding
reads_comma k p a b le f x =
    reads_infix k 0 0 1 mark.Comma a b (expr.Comma p a b) comma_infixes refl le (omega arith)
    ((λ h. omega arith), (λ h. omega arith), (λ h. omega arith), (λ h. omega arith))
    (λ least q. let under : least ≤ 1 = q.0 (omega arith) in
    (((λ h. omega arith), (λ h. omega arith), (λ h. omega arith), (λ h. omega arith)), under))
    (expr_Comma Spelled spell_expr_step p a b) (expr_Comma ℕ expr_depth_step p a b)
    (λ q c d i j. expr_Comma Expr bare_expr_step q c d
    ∙ (ap (λ t. expr.Comma nowhere t (bare_expr d)) i
    ∙ (ap (λ t. expr.Comma nowhere (bare_expr a) t) j
    ∙ sym (expr_Comma Expr bare_expr_step p a b))))
    f x
