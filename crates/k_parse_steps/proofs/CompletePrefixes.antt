-- Operators before an operand, and `sizeof` of an expression.
use Rattle.std.proofs.Common.{ℕ, ◌≡◌, ◌+◌, ◌<◌, ◌≤◌, true, false, cond, IsTrue, ◌∷◌, length, sym, ap, ◌∙◌, subst, refl, arith}
use Rattle.std.proofs.lemmas.Bool.{or_left, or_right}
use Rattle.k_parse_steps.specs.Types.{Place, TokenKind, Mark, Expr, Term, Open, Site}
use Rattle.k_tree.specs.declared.tokens.TokenKind.TheVariants as token
use Rattle.k_tree.specs.declared.tokens.mark.Mark.TheVariants as mark
use Rattle.k_tree.specs.declared.tokens.word.Word.TheVariants as word
use Rattle.k_tree.specs.declared.tree.expression.Expr.TheVariants as expr
use Rattle.k_tree.specs.Bare.{bare_expr, bare_expr_step, nowhere}
use Rattle.k_tree.proofs.Folds.{expr_Pre, expr_SizeofExpr, expr_Unary}
use Rattle.k_tree.specs.Nesting.{expr_depth, expr_depth_step}
use Rattle.k_tree.specs.Ranked.{is_step, is_unary}
use Rattle.k_tree.specs.Spelling.{Spelled, spell_expr, spell_expr_step}
use Rattle.k_parse_steps.specs.Operators.{is_step_mark, is_prefix_mark}
use Rattle.k_parse_steps.specs.Level.{plus, above}
use Rattle.k_parse_steps.specs.Expressions.{hole, plug, Opens, level, term, prefix_rank, prefixed}
use Rattle.k_parse_steps.specs.declared.expression.Open.TheVariants as open_
use Rattle.k_parse_steps.specs.declared.expression.plug.Plugged.TheVariants as plugged
use Rattle.k_parse_steps.proofs.CompleteLeads.{token_at, Leads, Step, leads-more}
use Rattle.k_parse_steps.proofs.CompleteHolds.{Feeds, awaits, Holds, Guards, Reads}
use Rattle.k_parse_steps.proofs.CompleteSteps.{above-one, prefix_opens, sizeof_opens}
use Rattle.k_parse_steps.proofs.CompleteOperators.{reads_by, holds_over}

-- a token that opens a construct which ends with its operand
pub reads_before : (k least rank own : ℕ) (g : Site) (s : Opens) (kind : TokenKind) (made : Place → Open) (a e : Expr) (c : Term → Place → Term)
    → ((p : Place) → Step Feeds (g.level + length s + 2) (awaits g s) (token_at p kind) (λ next. next ≡ awaits g (made p ∷ s)))
    → ((p : Place) → hole g (made p ∷ s) ≡ rank) → least ≤ rank → Guards least rank
    → ((p : Place) (v : Term) → plug (made p) v ≡ plugged.Whole (c v p)) → k ≤ own
    → ((p : Place) (v : Term) → (c v p).rank ≡ own) → ((p : Place) (v : Term) → (c v p).height ≡ above v.height 0)
    → expr_depth e ≡ 1 + expr_depth a → 1 ≤ expr_depth a
    → ((p : Place) (v : Term) → bare_expr v.tree ≡ bare_expr a → bare_expr (c v p).tree ≡ bare_expr e)
    → Reads rank a
    → Leads Feeds (g.level + length s + (1 + expr_depth a)) (kind ∷ spell_expr a) (awaits g s) (Holds least g s k e)
reads_before k least rank own g s kind made a e c opens at low guards plugs le rank_is high deep positive same f = λ p.
    let o : Step Feeds (g.level + length s + 2) (awaits g s) (token_at p kind) (λ next. next ≡ awaits g (made p ∷ s)) = opens p in
    record {
      next = o.next;
      reach = o.reach;
      goes = o.goes;
      low = let h : o.reach < g.level + length s + 2 = o.low in omega arith;
      there =
          subst (λ r. Leads Feeds (g.level + length s + (1 + expr_depth a)) (spell_expr a) r (Holds least g s k e)) (sym o.there)
          (leads-more Feeds (g.level + length (made p ∷ s) + expr_depth a) (g.level + length s + (1 + expr_depth a)) (spell_expr a)
          (awaits g (made p ∷ s)) (Holds least g (made p ∷ s) rank a) (Holds least g s k e) (omega arith)
          (f least g (made p ∷ s) (let h : hole g (made p ∷ s) ≡ rank = at p in omega arith) guards)
          (λ r h. holds_over least g (made p) s rank k a e r h (c h.a p) (plugs p h.a)
          (let i : hole g (made p ∷ s) ≡ rank = at p in omega arith)
          (let i : (c h.a p).rank ≡ own = rank_is p h.a in omega arith)
          (high p h.a ∙ (above-one h.a.height (expr_depth a) h.high ∙ sym deep))
          (same p h.a h.same)));
    }

-- an operator before an operand
prefix_step : (g : Site) (s : Opens) (op : Mark) (p : Place) → is_prefix_mark op ≡ true
    → Step Feeds (g.level + length s + 2) (awaits g s) (token_at p (token.Mark op)) (λ next. next ≡ awaits g (open_.Prefix p op ∷ s))
prefix_step g s op p h = record {
  next = awaits g (open_.Prefix p op ∷ s);
  reach = plus (level g s) 1;
  goes = prefix_opens g s op p h;
  low = omega arith;
  there = refl;
}

step_is_prefix : (op : Mark) → IsTrue (is_step op) → is_prefix_mark op ≡ true
unfolding is_prefix_mark
step_is_prefix op h = or_left (is_step op) (is_unary op) h

unary_is_prefix : (op : Mark) → IsTrue (is_unary op) → is_prefix_mark op ≡ true
unfolding is_prefix_mark
unary_is_prefix op h = or_right (is_step op) (is_unary op) h

unary_is_no_step : (op : Mark) → IsTrue (is_unary op) → is_step_mark op ≡ false
unfolding is_step_mark
unary_is_no_step mark.PlusPlus h = cc
unary_is_no_step mark.MinusMinus h = cc
unary_is_no_step op h = refl

step_hole : (g : Site) (s : Opens) (op : Mark) (p : Place) → IsTrue (is_step op) → hole g (open_.Prefix p op ∷ s) ≡ 14
unfolding hole prefix_rank is_step_mark
step_hole g s op p h = ap (λ b. cond b 14 13) h

unary_hole : (g : Site) (s : Opens) (op : Mark) (p : Place) → IsTrue (is_unary op) → hole g (open_.Prefix p op ∷ s) ≡ 13
unfolding hole prefix_rank
unary_hole g s op p h = ap (λ b. cond b 14 13) (unary_is_no_step op h)

prefix_plugs : (op : Mark) (p : Place) (v : Term) → plug (open_.Prefix p op) v ≡ plugged.Whole (prefixed p op v)
unfolding plug
prefix_plugs op p v = refl

prefixed_rank : (op : Mark) (p : Place) (v : Term) → (prefixed p op v).rank ≡ 14
unfolding prefixed
prefixed_rank op p v = refl

prefixed_height : (op : Mark) (p : Place) (v : Term) → (prefixed p op v).height ≡ above v.height 0
unfolding prefixed
prefixed_height op p v = refl

step_tree : (op : Mark) (p : Place) (v : Term) → IsTrue (is_step op) → (prefixed p op v).tree ≡ expr.Pre p op v.tree
unfolding prefixed is_step_mark
step_tree op p v h = ap (λ b. cond b (expr.Pre p op v.tree) (expr.Unary p op v.tree)) h

unary_tree : (op : Mark) (p : Place) (v : Term) → IsTrue (is_unary op) → (prefixed p op v).tree ≡ expr.Unary p op v.tree
unfolding prefixed
unary_tree op p v h = ap (λ b. cond b (expr.Pre p op v.tree) (expr.Unary p op v.tree)) (unary_is_no_step op h)

pub reads_prefix : (k : ℕ) (p : Place) (op : Mark) (a : Expr) → k ≤ 14 → IsTrue (is_step op) → 1 ≤ expr_depth a
    → Reads 14 a → Reads k (expr.Pre p op a)
reads_prefix k p op a le h positive f =
    reads_by k (expr.Pre p op a) _ (1 + expr_depth a) (expr_Pre Spelled spell_expr_step p op a) (expr_Pre ℕ expr_depth_step p op a)
    (λ least g s low q. let under : least ≤ 13 = q.3 le in
    reads_before k least 14 14 g s (token.Mark op) (λ at. open_.Prefix at op) a (expr.Pre p op a) (λ v at. prefixed at op v)
    (λ at. prefix_step g s op at (step_is_prefix op h)) (λ at. step_hole g s op at h) (omega arith)
    ((λ i. omega arith), (λ i. omega arith), (λ i. omega arith), (λ i. under))
    (prefix_plugs op) le (prefixed_rank op) (prefixed_height op) (expr_Pre ℕ expr_depth_step p op a) positive
    (λ at v e. ap (λ t. bare_expr t) (step_tree op at v h)
    ∙ (expr_Pre Expr bare_expr_step at op v.tree ∙ (ap (λ t. expr.Pre nowhere op t) e ∙ sym (expr_Pre Expr bare_expr_step p op a))))
    f)

pub reads_unary : (k : ℕ) (p : Place) (op : Mark) (a : Expr) → k ≤ 14 → IsTrue (is_unary op) → 1 ≤ expr_depth a
    → Reads 13 a → Reads k (expr.Unary p op a)
reads_unary k p op a le h positive f =
    reads_by k (expr.Unary p op a) _ (1 + expr_depth a) (expr_Unary Spelled spell_expr_step p op a) (expr_Unary ℕ expr_depth_step p op a)
    (λ least g s low q. let under : least ≤ 13 = q.3 le in
    reads_before k least 13 14 g s (token.Mark op) (λ at. open_.Prefix at op) a (expr.Unary p op a) (λ v at. prefixed at op v)
    (λ at. prefix_step g s op at (unary_is_prefix op h)) (λ at. unary_hole g s op at h) (omega arith)
    ((λ i. omega arith), (λ i. omega arith), (λ i. omega arith), (λ i. under))
    (prefix_plugs op) le (prefixed_rank op) (prefixed_height op) (expr_Unary ℕ expr_depth_step p op a) positive
    (λ at v e. ap (λ t. bare_expr t) (unary_tree op at v h)
    ∙ (expr_Unary Expr bare_expr_step at op v.tree ∙ (ap (λ t. expr.Unary nowhere op t) e ∙ sym (expr_Unary Expr bare_expr_step p op a))))
    f)

-- `sizeof` before an operand
sizeof_step : (g : Site) (s : Opens) (p : Place)
    → Step Feeds (g.level + length s + 2) (awaits g s) (token_at p (token.Word word.Sizeof)) (λ next. next ≡ awaits g (open_.Sizeof p ∷ s))
sizeof_step g s p = record {
  next = awaits g (open_.Sizeof p ∷ s);
  reach = level g s;
  goes = sizeof_opens g s p;
  low = omega arith;
  there = refl;
}

sizeof_hole : (g : Site) (s : Opens) (p : Place) → hole g (open_.Sizeof p ∷ s) ≡ 14
unfolding hole
sizeof_hole g s p = refl

abbrev sized : Term → Place → Term
sized v p = term (expr.SizeofExpr p v.tree) 14 (above v.height 0)

sizeof_plugs : (p : Place) (v : Term) → plug (open_.Sizeof p) v ≡ plugged.Whole (sized v p)
unfolding plug
sizeof_plugs p v = refl

pub reads_sizeof : (k : ℕ) (p : Place) (a : Expr) → k ≤ 14 → 1 ≤ expr_depth a → Reads 14 a → Reads k (expr.SizeofExpr p a)
reads_sizeof k p a le positive f =
    reads_by k (expr.SizeofExpr p a) _ (1 + expr_depth a) (expr_SizeofExpr Spelled spell_expr_step p a) (expr_SizeofExpr ℕ expr_depth_step p a)
    (λ least g s low q. let under : least ≤ 13 = q.3 le in
    reads_before k least 14 14 g s (token.Word word.Sizeof) (λ at. open_.Sizeof at) a (expr.SizeofExpr p a) sized
    (sizeof_step g s) (sizeof_hole g s) (omega arith)
    ((λ i. omega arith), (λ i. omega arith), (λ i. omega arith), (λ i. under))
    sizeof_plugs le (λ at v. refl) (λ at v. refl) (expr_SizeofExpr ℕ expr_depth_step p a) positive
    (λ at v e. expr_SizeofExpr Expr bare_expr_step at v.tree
    ∙ (ap (λ t. expr.SizeofExpr nowhere t) e ∙ sym (expr_SizeofExpr Expr bare_expr_step p a)))
    f)
