-- What a mark of its own ends: parentheses, an index, a postfix operator; and the conditional operator.
use Rattle.std.proofs.Common.{ℕ, ◌≡◌, ◌+◌, ◌<◌, ◌≤◌, max, Bool, true, false, cond, IsTrue, ◌∷◌, ◌++◌, length, Some, sym, ap, ◌∙◌, refl, arith}
use Rattle.k_parse_steps.specs.Types.{Place, Mark, Expr, Term, Open, Site, Reading}
use Rattle.k_tree.specs.declared.tokens.TokenKind.TheVariants as token
use Rattle.k_tree.specs.declared.tokens.mark.Mark.TheVariants as mark
use Rattle.k_tree.specs.declared.tree.expression.Expr.TheVariants as expr
use Rattle.k_tree.specs.Bare.{bare_expr, bare_expr_step, nowhere}
use Rattle.k_tree.proofs.Folds.{expr_Cond, expr_Index, expr_Paren, expr_Post}
use Rattle.k_tree.specs.Nesting.{expr_depth, expr_depth_step}
use Rattle.k_tree.specs.Ranked.{is_step}
use Rattle.k_tree.specs.Spelling.{Spelled, spell_expr, spell_expr_step, the_mark}
use Rattle.k_parse_steps.specs.Operators.{binding, is_step_mark}
use Rattle.k_parse_steps.specs.Level.{plus, above}
use Rattle.k_num.specs.Top.{top}
use Rattle.k_parse_steps.specs.Expressions.{then_ends, paren_ends, index_ends, feed, hole, plug, Opens, goes, level, enclose, enclosed, indexed, posted, conditional, take_operator, is_sizeof_open, operator_opens}
use Rattle.k_parse_steps.specs.declared.expression.Open.TheVariants as open_
use Rattle.k_parse_steps.specs.declared.expression.ExpressionStage.TheVariants as now
use Rattle.k_parse_steps.specs.declared.expression.plug.Plugged.TheVariants as plugged
use Rattle.k_parse_steps.proofs.CompleteLeads.{token_at, leads-then, leads-more}
use Rattle.k_parse_steps.proofs.CompleteHolds.{Feeds, reading, awaits, Below, Holds, Guards, Reads, parted, taken, taken_by, below_by}
use Rattle.k_parse_steps.proofs.CompleteSteps.{reach_low, above-both, above-one, bind, paren_opens, step_binding, step_is_no_paren}
use Rattle.k_parse_steps.proofs.CompleteOperators.{reads_by, holds_value, holds_over}
use Rattle.k_parse_steps.proofs.CompleteReadings.{paren_below, bracket_below, colon_below}
use Rattle.k_parse_steps.specs.Tokens.{is_mark}

-- the construct around a value meets a mark that no operand goes on with
pub encloses : (least : ℕ) (g : Site) (o : Open) (s : Opens) (k : ℕ) (e : Expr) (r : Reading) (h : Holds least g (o ∷ s) k e r) (m : Mark) (p : Place)
    → Below least (token.Mark m) → least ≤ hole g (o ∷ s) → plug o h.a ≡ plugged.Part o h.a
    → feed r (token_at p (token.Mark m)) ≡ enclose g s o h.a m
encloses least g o s k e r h m p below le part =
    h.next (token_at p (token.Mark m)) below ∙ parted g o s h.a (token_at p (token.Mark m)) (below.1 (hole g (o ∷ s)) h.a.rank le) part

-- the least rank that serves in parentheses
guards_low : Guards 0 0
guards_low = ((λ h. omega arith), (λ h. omega arith), (λ h. omega arith), (λ h. omega arith))

-- parentheses
paren_hole : (g : Site) (s : Opens) (p : Place) → hole g (open_.Paren p ∷ s) ≡ 0
unfolding hole
paren_hole g s p = refl

paren_parts : (p : Place) (v : Term) → plug (open_.Paren p) v ≡ plugged.Part (open_.Paren p) v
unfolding plug
paren_parts p v = refl

paren_closes : (g : Site) (s : Opens) (p : Place) (v : Term) → enclose g s (open_.Paren p) v mark.RightParen ≡ goes g s (now.Value (enclosed p v)) 0
unfolding enclose then_ends paren_ends index_ends
paren_closes g s p v = refl

-- how deep `(` reaches: no deeper than what stands behind it
pub opened_low : (g : Site) (s : Opens) (b : Bool) (d : ℕ) → 1 ≤ d → cond b 0 (plus (level g s) 1) < g.level + length s + (1 + d)
opened_low g s true d h = omega arith
opened_low g s false d h = omega arith

pub reads_paren : (k : ℕ) (p : Place) (a : Expr) → k ≤ 16 → 1 ≤ expr_depth a → Reads 0 a → Reads k (expr.Paren p a)
reads_paren k p a le positive f =
    reads_by k (expr.Paren p a) _ (1 + expr_depth a) (expr_Paren Spelled spell_expr_step p a) (expr_Paren ℕ expr_depth_step p a)
    (λ least g s low q at. record {
      next = awaits g (open_.Paren at ∷ s);
      reach = cond (is_sizeof_open (top s)) 0 (plus (level g s) 1);
      goes = paren_opens g s at;
      low = opened_low g s (is_sizeof_open (top s)) (expr_depth a) positive;
      there =
          leads-then Feeds (g.level + length (open_.Paren at ∷ s) + expr_depth a) (g.level + length s + (1 + expr_depth a))
          (spell_expr a) (the_mark mark.RightParen) (awaits g (open_.Paren at ∷ s)) (Holds 0 g (open_.Paren at ∷ s) 0 a) (Holds least g s k (expr.Paren p a)) (omega arith)
          (f 0 g (open_.Paren at ∷ s) (let h : hole g (open_.Paren at ∷ s) ≡ 0 = paren_hole g s at in omega arith) guards_low)
          (λ r h to. record {
            next = reading g s (now.Value (enclosed at h.a));
            reach = 0;
            goes = encloses 0 g (open_.Paren at) s 0 a r h mark.RightParen to (paren_below 0) (omega arith) (paren_parts at h.a) ∙ paren_closes g s at h.a;
            low = omega arith;
            there = holds_value least g s k (expr.Paren p a) (enclosed at h.a) le
                (above-one h.a.height (expr_depth a) h.high ∙ sym (expr_Paren ℕ expr_depth_step p a))
                (expr_Paren Expr bare_expr_step at h.a.tree ∙ (ap (λ t. expr.Paren nowhere t) h.same ∙ sym (expr_Paren Expr bare_expr_step p a)));
          });
    })

-- a token that goes on with an operand of rank 15
postfix_guards : Guards 16 15
postfix_guards = ((λ h. omega arith), (λ h. omega arith), (λ h. omega arith), (λ h. omega arith))

bracket_opens : (g : Site) (s : Opens) (a : Term) (p : Place)
    → take_operator g s a mark.LeftBracket p ≡ goes g (open_.Index p a ∷ s) now.Operand (plus (level g s) a.height)
unfolding take_operator is_step_mark is_mark
bracket_opens g s a p = refl

bracket_binding : binding mark.LeftBracket ≡ Some (bind 15 15 0)
unfolding binding
bracket_binding = refl

index_hole : (g : Site) (s : Opens) (p : Place) (a : Term) → hole g (open_.Index p a ∷ s) ≡ 0
unfolding hole
index_hole g s p a = refl

index_parts : (p : Place) (a v : Term) → plug (open_.Index p a) v ≡ plugged.Part (open_.Index p a) v
unfolding plug
index_parts p a v = refl

index_closes : (g : Site) (s : Opens) (p : Place) (a v : Term)
    → enclose g s (open_.Index p a) v mark.RightBracket ≡ goes g s (now.Value (indexed p a v)) 0
unfolding enclose then_ends paren_ends index_ends
index_closes g s p a v = refl

pub reads_index : (k : ℕ) (p : Place) (a b : Expr) → k ≤ 15 → Reads 15 a → Reads 0 b → Reads k (expr.Index p a b)
unfolding is_mark
reads_index k p a b le f n =
    reads_by k (expr.Index p a b) _ (1 + max (expr_depth a) (expr_depth b)) (expr_Index Spelled spell_expr_step p a b) (expr_Index ℕ expr_depth_step p a b)
    (λ least g s low q.
    leads-then Feeds (g.level + length s + expr_depth a) (g.level + length s + (1 + max (expr_depth a) (expr_depth b)))
    (spell_expr a) (the_mark mark.LeftBracket ++ (spell_expr b ++ the_mark mark.RightBracket)) (awaits g s) (Holds 16 g s 15 a) (Holds least g s k (expr.Index p a b)) (omega arith)
    (f 16 g s (omega arith) postfix_guards)
    (λ r h at. record {
      next = awaits g (open_.Index at h.a ∷ s);
      reach = plus (level g s) h.a.height;
      goes = h.next (token_at at (token.Mark mark.LeftBracket)) (below_by 16 mark.LeftBracket (bind 15 15 0) refl bracket_binding (omega arith))
          ∙ (taken g s h.a at mark.LeftBracket (taken_by (hole g s) h.a.rank mark.LeftBracket (bind 15 15 0) bracket_binding (omega arith) h.ranked)
          ∙ bracket_opens g s h.a at);
      low = let m : plus (level g s) h.a.height ≤ g.level + length s + expr_depth a = reach_low g s h.a.height (expr_depth a) h.high in omega arith;
      there =
          leads-then Feeds (g.level + length (open_.Index at h.a ∷ s) + expr_depth b) (g.level + length s + (1 + max (expr_depth a) (expr_depth b)))
          (spell_expr b) (the_mark mark.RightBracket) (awaits g (open_.Index at h.a ∷ s)) (Holds 0 g (open_.Index at h.a ∷ s) 0 b) (Holds least g s k (expr.Index p a b)) (omega arith)
          (n 0 g (open_.Index at h.a ∷ s) (let i : hole g (open_.Index at h.a ∷ s) ≡ 0 = index_hole g s at h.a in omega arith) guards_low)
          (λ z i to. record {
            next = reading g s (now.Value (indexed at h.a i.a));
            reach = 0;
            goes = encloses 0 g (open_.Index at h.a) s 0 b z i mark.RightBracket to (bracket_below 0) (omega arith) (index_parts at h.a i.a) ∙ index_closes g s at h.a i.a;
            low = omega arith;
            there = holds_value least g s k (expr.Index p a b) (indexed at h.a i.a) le
                (above-both h.a.height i.a.height (expr_depth a) (expr_depth b) h.high i.high ∙ sym (expr_Index ℕ expr_depth_step p a b))
                (expr_Index Expr bare_expr_step at h.a.tree i.a.tree
                ∙ (ap (λ t. expr.Index nowhere t (bare_expr i.a.tree)) h.same
                ∙ (ap (λ t. expr.Index nowhere (bare_expr a) t) i.same
                ∙ sym (expr_Index Expr bare_expr_step p a b))));
          });
    }))

-- `++` and `--` behind an operand
post_goes : (g : Site) (s : Opens) (a : Term) (op : Mark) (p : Place) → IsTrue (is_step op)
    → take_operator g s a op p ≡ goes g s (now.Value (posted p op a)) (plus (level g s) a.height)
unfolding take_operator is_step_mark is_mark
post_goes g s a op p h =
    ap (λ v. cond v (goes g s (now.Value (posted p op a)) (plus (level g s) a.height)) (goes g (operator_opens op a p ∷ s) now.Operand (plus (level g s) a.height))) h

pub reads_postfix : (k : ℕ) (p : Place) (op : Mark) (a : Expr) → k ≤ 15 → IsTrue (is_step op) → Reads 15 a → Reads k (expr.Post p op a)
reads_postfix k p op a le step f =
    reads_by k (expr.Post p op a) _ (1 + expr_depth a) (expr_Post Spelled spell_expr_step p op a) (expr_Post ℕ expr_depth_step p op a)
    (λ least g s low q.
    leads-then Feeds (g.level + length s + expr_depth a) (g.level + length s + (1 + expr_depth a))
    (spell_expr a) (the_mark op) (awaits g s) (Holds 16 g s 15 a) (Holds least g s k (expr.Post p op a)) (omega arith)
    (f 16 g s (omega arith) postfix_guards)
    (λ r h at. record {
      next = reading g s (now.Value (posted at op h.a));
      reach = plus (level g s) h.a.height;
      goes = h.next (token_at at (token.Mark op)) (below_by 16 op (bind 15 15 0) (step_is_no_paren op step) (step_binding op step) (omega arith))
          ∙ (taken g s h.a at op (taken_by (hole g s) h.a.rank op (bind 15 15 0) (step_binding op step) (omega arith) h.ranked)
          ∙ post_goes g s h.a op at step);
      low = let m : plus (level g s) h.a.height ≤ g.level + length s + expr_depth a = reach_low g s h.a.height (expr_depth a) h.high in omega arith;
      there = holds_value least g s k (expr.Post p op a) (posted at op h.a) le
          (above-one h.a.height (expr_depth a) h.high ∙ sym (expr_Post ℕ expr_depth_step p op a))
          (expr_Post Expr bare_expr_step at op h.a.tree ∙ (ap (λ t. expr.Post nowhere op t) h.same ∙ sym (expr_Post Expr bare_expr_step p op a)));
    }))

-- the conditional operator
question_binding : binding mark.Question ≡ Some (bind 3 2 2)
unfolding binding
question_binding = refl

question_opens : (g : Site) (s : Opens) (a : Term) (p : Place)
    → take_operator g s a mark.Question p ≡ goes g (open_.Then p a ∷ s) now.Operand (plus (level g s) a.height)
unfolding take_operator is_step_mark is_mark
question_opens g s a p = refl

then_hole : (g : Site) (s : Opens) (p : Place) (a : Term) → hole g (open_.Then p a ∷ s) ≡ 0
unfolding hole
then_hole g s p a = refl

then_parts : (p : Place) (a v : Term) → plug (open_.Then p a) v ≡ plugged.Part (open_.Then p a) v
unfolding plug
then_parts p a v = refl

then_goes : (g : Site) (s : Opens) (p : Place) (a v : Term)
    → enclose g s (open_.Then p a) v mark.Colon ≡ goes g (open_.Other p a v ∷ s) now.Operand 0
unfolding enclose then_ends paren_ends index_ends
then_goes g s p a v = refl

other_hole : (g : Site) (s : Opens) (p : Place) (a b : Term) → hole g (open_.Other p a b ∷ s) ≡ 2
unfolding hole
other_hole g s p a b = refl

other_plugs : (p : Place) (a b v : Term) → plug (open_.Other p a b) v ≡ plugged.Whole (conditional p a b v)
unfolding plug
other_plugs p a b v = refl

conditional_high : (h i j d e f : ℕ) → h ≡ d → i ≡ e → j ≡ f → above h (max i j) ≡ (1 + max d (max e f))
conditional_high h i j d e f x y z = omega arith

pub reads_conditional : (k : ℕ) (p : Place) (a b c : Expr) → k ≤ 2 → Reads 3 a → Reads 0 b → Reads 2 c → Reads k (expr.Cond p a b c)
unfolding is_mark
reads_conditional k p a b c le f n m =
    let d : ℕ = 1 + max (expr_depth a) (max (expr_depth b) (expr_depth c)) in
    reads_by k (expr.Cond p a b c) _ d (expr_Cond Spelled spell_expr_step p a b c) (expr_Cond ℕ expr_depth_step p a b c)
    (λ least g s low q.
    leads-then Feeds (g.level + length s + expr_depth a) (g.level + length s + d)
    (spell_expr a) (the_mark mark.Question ++ (spell_expr b ++ (the_mark mark.Colon ++ spell_expr c))) (awaits g s) (Holds 3 g s 3 a) (Holds least g s k (expr.Cond p a b c)) (omega arith)
    (f 3 g s (omega arith) ((λ h. omega arith), (λ h. omega arith), (λ h. omega arith), (λ h. omega arith)))
    (λ r h at. record {
      next = awaits g (open_.Then at h.a ∷ s);
      reach = plus (level g s) h.a.height;
      goes = h.next (token_at at (token.Mark mark.Question)) (below_by 3 mark.Question (bind 3 2 2) refl question_binding (omega arith))
          ∙ (taken g s h.a at mark.Question (taken_by (hole g s) h.a.rank mark.Question (bind 3 2 2) question_binding (omega arith) h.ranked)
          ∙ question_opens g s h.a at);
      low = let v : plus (level g s) h.a.height ≤ g.level + length s + expr_depth a = reach_low g s h.a.height (expr_depth a) h.high in omega arith;
      there =
          leads-then Feeds (g.level + length (open_.Then at h.a ∷ s) + expr_depth b) (g.level + length s + d)
          (spell_expr b) (the_mark mark.Colon ++ spell_expr c) (awaits g (open_.Then at h.a ∷ s)) (Holds 0 g (open_.Then at h.a ∷ s) 0 b) (Holds least g s k (expr.Cond p a b c)) (omega arith)
          (n 0 g (open_.Then at h.a ∷ s) (let i : hole g (open_.Then at h.a ∷ s) ≡ 0 = then_hole g s at h.a in omega arith) guards_low)
          (λ z i to. record {
            next = awaits g (open_.Other at h.a i.a ∷ s);
            reach = 0;
            goes = encloses 0 g (open_.Then at h.a) s 0 b z i mark.Colon to (colon_below 0) (omega arith) (then_parts at h.a i.a) ∙ then_goes g s at h.a i.a;
            low = omega arith;
            there =
                let under : least ≤ 2 = q.1 le in
                let stands : hole g (open_.Other at h.a i.a ∷ s) ≡ 2 = other_hole g s at h.a i.a in
                leads-more Feeds (g.level + length (open_.Other at h.a i.a ∷ s) + expr_depth c) (g.level + length s + d)
                (spell_expr c) (awaits g (open_.Other at h.a i.a ∷ s)) (Holds least g (open_.Other at h.a i.a ∷ s) 2 c) (Holds least g s k (expr.Cond p a b c)) (omega arith)
                (m least g (open_.Other at h.a i.a ∷ s) (omega arith) ((λ v. omega arith), (λ v. under), (λ v. omega arith), (λ v. omega arith)))
                (λ y j. holds_over least g (open_.Other at h.a i.a) s 2 k c (expr.Cond p a b c) y j (conditional at h.a i.a j.a) (other_plugs at h.a i.a j.a)
                (omega arith) le
                (conditional_high h.a.height i.a.height j.a.height (expr_depth a) (expr_depth b) (expr_depth c) h.high i.high j.high
                ∙ sym (expr_Cond ℕ expr_depth_step p a b c))
                (expr_Cond Expr bare_expr_step at h.a.tree i.a.tree j.a.tree
                ∙ (ap (λ t. expr.Cond nowhere t (bare_expr i.a.tree) (bare_expr j.a.tree)) h.same
                ∙ (ap (λ t. expr.Cond nowhere (bare_expr a) t (bare_expr j.a.tree)) i.same
                ∙ (ap (λ t. expr.Cond nowhere (bare_expr a) (bare_expr b) t) j.same
                ∙ sym (expr_Cond Expr bare_expr_step p a b c))))));
          });
    }))
