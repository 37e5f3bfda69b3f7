-- Calls, argument by argument.
use Rattle.std.proofs.Common.{ℕ, ◌≡◌, ◌+◌, ◌≤◌, max, List, [], ◌∷◌, ◌++◌, map, length, sym, ap, ◌∙◌, subst, refl, arith, append_assoc}
use Rattle.k_parse_steps.specs.Types.{Place, Expr, Term, Site, Reading}
use Rattle.k_tree.specs.declared.tokens.TokenKind.TheVariants as token
use Rattle.k_tree.specs.declared.tokens.mark.Mark.TheVariants as mark
use Rattle.k_tree.specs.declared.tree.expression.Expr.TheVariants as expr
use Rattle.k_tree.specs.Bare.{bare_expr, bare_expr_step, nowhere}
use Rattle.k_tree.proofs.Folds.{expr_Call}
use Rattle.k_tree.specs.Nesting.{expr_depth, expr_depth_step, deepest}
use Rattle.k_tree.specs.Spelling.{Spelled, spell_expr, spell_expr_step, the_mark, behind_commas, with_commas}
use Rattle.k_parse_steps.specs.Operators.{is_prefix_mark}
use Rattle.k_parse_steps.specs.Level.{plus}
use Rattle.k_parse_steps.specs.Expressions.{then_ends, paren_ends, index_ends, feed, operand, named, hole, plug, Opens, goes, level, term, mark_operand, no_arguments, enclose, argued}
use Rattle.k_parse_steps.specs.declared.expression.Open.TheVariants as open_
use Rattle.k_parse_steps.specs.declared.expression.ExpressionStage.TheVariants as now
use Rattle.k_parse_steps.specs.declared.expression.plug.Plugged.TheVariants as plugged
use Rattle.k_parse_steps.proofs.CompleteLeads.{token_at, Leads, leads-then}
use Rattle.k_parse_steps.proofs.CompleteHolds.{Feeds, reading, awaits, Holds, Guards, Reads}
use Rattle.k_parse_steps.proofs.CompleteOperators.{reads_by, holds_value}
use Rattle.k_parse_steps.proofs.CompleteEnclosed.{encloses}
use Rattle.k_parse_steps.proofs.Rows.{one_more}
use Rattle.k_parse_steps.proofs.CompleteReadings.{comma_below, paren_below}
use Rattle.k_parse_steps.specs.Tokens.{is_mark}

-- the arguments are read one by one
abbrev pub EachReads : List Expr → Type 0
EachReads [] = Unit {0}
EachReads (a ∷ args) = Reads 1 a × EachReads args

deepest-append : (xs ys : List Expr) → deepest (map expr_depth (xs ++ ys)) ≡ max (deepest (map expr_depth xs)) (deepest (map expr_depth ys))
deepest-append [] ys = omega arith
deepest-append (x ∷ xs) ys = let e : deepest (map expr_depth (xs ++ ys)) ≡ max (deepest (map expr_depth xs)) (deepest (map expr_depth ys)) = deepest-append xs ys in omega arith

call_hole : (g : Site) (s : Opens) (p : Place) (x : List ℕ) (args : List Expr) (height : ℕ) → hole g (open_.Call p x args height ∷ s) ≡ 1
unfolding hole
call_hole g s p x args height = refl

call_parts : (p : Place) (x : List ℕ) (args : List Expr) (height : ℕ) (v : Term) → plug (open_.Call p x args height) v ≡ plugged.Part (open_.Call p x args height) v
unfolding plug
call_parts p x args height v = refl

comma_goes : (g : Site) (s : Opens) (p : Place) (x : List ℕ) (args : List Expr) (height : ℕ) (v : Term)
    → enclose g s (open_.Call p x args height) v mark.Comma ≡ goes g (open_.Call p x (args ++ v.tree ∷ []) (max height v.height) ∷ s) now.Operand 0
unfolding enclose argued then_ends paren_ends index_ends
comma_goes g s p x args height v = refl

abbrev called : Place → List ℕ → List Expr → ℕ → Term → Term
called p x args height v = term (expr.Call p x (args ++ v.tree ∷ [])) 15 (plus (max height v.height) 1)

call_closes : (g : Site) (s : Opens) (p : Place) (x : List ℕ) (args : List Expr) (height : ℕ) (v : Term)
    → enclose g s (open_.Call p x args height) v mark.RightParen ≡ goes g s (now.Value (called p x args height v)) 0
unfolding enclose argued then_ends paren_ends index_ends
call_closes g s p x args height v = refl

call_opens : (g : Site) (s : Opens) (p : Place) (x : List ℕ) (at : Place)
    → feed (reading g s (now.Named p x)) (token_at at (token.Mark mark.LeftParen)) ≡ goes g (open_.Call p x [] 0 ∷ s) now.Operand 0
unfolding feed named is_mark
call_opens g s p x at = refl

call_empty : (g : Site) (s : Opens) (p : Place) (x : List ℕ) (at : Place)
    → feed (awaits g (open_.Call p x [] 0 ∷ s)) (token_at at (token.Mark mark.RightParen)) ≡ goes g s (now.Value (term (expr.Call p x []) 15 1)) 0
unfolding feed operand mark_operand no_arguments is_mark is_prefix_mark
call_empty g s p x at = refl

argument_guards : Guards 1 1
argument_guards = ((λ h. omega arith), (λ h. omega arith), (λ h. omega arith), (λ h. omega arith))

higher : (height h d e f : ℕ) → height ≡ d → h ≡ e → f ≡ max d (max e 0) → max height h ≡ f
higher height h d e f x y z = omega arith

highest : (height f : ℕ) → height ≡ f → plus height 1 ≡ (1 + f)
highest height f x = omega arith

arguments_lead : (bound least k : ℕ) (g : Site) (s : Opens) (p at : Place) (x : List ℕ) (args : List Expr) → EachReads args → k ≤ 15
    → g.level + length s + (1 + deepest (map expr_depth args)) ≤ bound
    → (a : Expr) (seen done : List Expr) (height : ℕ) → map bare_expr done ≡ map bare_expr seen → height ≡ (deepest (map expr_depth seen))
    → (r : Reading) → Holds 1 g (open_.Call at x done height ∷ s) 1 a r
    → Leads Feeds bound (behind_commas (map spell_expr args) ++ the_mark mark.RightParen) r (Holds least g s k (expr.Call p x (seen ++ a ∷ args)))
arguments_lead bound least k g s p at x [] f le low a seen done height same high r h = λ to.
    let d : deepest (map expr_depth (seen ++ a ∷ [])) ≡ max (deepest (map expr_depth seen)) (max (expr_depth a) 0) = deepest-append seen (a ∷ []) in
    record {
      next = reading g s (now.Value (called at x done height h.a));
      reach = 0;
      goes = encloses 1 g (open_.Call at x done height) s 1 a r h mark.RightParen to (paren_below 1)
          (let i : hole g (open_.Call at x done height ∷ s) ≡ 1 = call_hole g s at x done height in omega arith) (call_parts at x done height h.a)
          ∙ call_closes g s at x done height h.a;
      low = omega arith;
      there = holds_value least g s k (expr.Call p x (seen ++ a ∷ [])) (called at x done height h.a) le
          (highest (max height h.a.height) (deepest (map expr_depth (seen ++ a ∷ [])))
          (higher height h.a.height (deepest (map expr_depth seen)) (expr_depth a) (deepest (map expr_depth (seen ++ a ∷ []))) high h.high d)
          ∙ sym (expr_Call ℕ expr_depth_step p x (seen ++ a ∷ [])))
          (expr_Call Expr bare_expr_step at x (done ++ h.a.tree ∷ [])
          ∙ (ap (λ t. expr.Call nowhere x t) (one_more bare_expr done seen h.a.tree a same h.same)
          ∙ sym (expr_Call Expr bare_expr_step p x (seen ++ a ∷ []))));
    }
arguments_lead bound least k g s p at x (b ∷ args) f le low a seen done height same high r h = λ to.
    let d : deepest (map expr_depth (seen ++ a ∷ [])) ≡ max (deepest (map expr_depth seen)) (max (expr_depth a) 0) = deepest-append seen (a ∷ []) in
    let more : List Expr = done ++ h.a.tree ∷ [] in
    let tall : ℕ = max height h.a.height in
    let o : Opens = open_.Call at x more tall ∷ s in
    record {
      next = awaits g o;
      reach = 0;
      goes = encloses 1 g (open_.Call at x done height) s 1 a r h mark.Comma to comma_below
          (let i : hole g (open_.Call at x done height ∷ s) ≡ 1 = call_hole g s at x done height in omega arith) (call_parts at x done height h.a)
          ∙ comma_goes g s at x done height h.a;
      low = omega arith;
      there =
          subst (λ kinds. Leads Feeds bound kinds (awaits g o) (Holds least g s k (expr.Call p x (seen ++ a ∷ (b ∷ args)))))
          (sym (append_assoc (spell_expr b) (behind_commas (map spell_expr args)) (the_mark mark.RightParen)))
          (leads-then Feeds (g.level + length o + expr_depth b) bound (spell_expr b) (behind_commas (map spell_expr args) ++ the_mark mark.RightParen) (awaits g o)
          (Holds 1 g o 1 b) (Holds least g s k (expr.Call p x (seen ++ a ∷ (b ∷ args)))) (omega arith)
          (f.0 1 g o (let i : hole g o ≡ 1 = call_hole g s at x more tall in omega arith) argument_guards)
          (λ z i. subst (λ all. Leads Feeds bound (behind_commas (map spell_expr args) ++ the_mark mark.RightParen) z (Holds least g s k (expr.Call p x all)))
          (append_assoc seen (a ∷ []) (b ∷ args))
          (arguments_lead bound least k g s p at x args f.1 le (omega arith) b (seen ++ a ∷ []) more tall
          (one_more bare_expr done seen h.a.tree a same h.same)
          (higher height h.a.height (deepest (map expr_depth seen)) (expr_depth a) (deepest (map expr_depth (seen ++ a ∷ []))) high h.high d)
          z i)));
    }

-- what stands between the parentheses
between : (bound least k : ℕ) (g : Site) (s : Opens) (p at : Place) (x : List ℕ) (args : List Expr) → EachReads args → k ≤ 15
    → g.level + length s + (1 + deepest (map expr_depth args)) ≤ bound
    → Leads Feeds bound (with_commas (map spell_expr args) ++ the_mark mark.RightParen) (awaits g (open_.Call at x [] 0 ∷ s)) (Holds least g s k (expr.Call p x args))
between bound least k g s p at x [] f le low = λ to. record {
  next = reading g s (now.Value (term (expr.Call at x []) 15 1));
  reach = 0;
  goes = call_empty g s at x to;
  low = omega arith;
  there = holds_value least g s k (expr.Call p x []) (term (expr.Call at x []) 15 1) le
      (sym (expr_Call ℕ expr_depth_step p x []))
      (expr_Call Expr bare_expr_step at x [] ∙ sym (expr_Call Expr bare_expr_step p x []));
}
between bound least k g s p at x (a ∷ args) f le low =
    let o : Opens = open_.Call at x [] 0 ∷ s in
    subst (λ kinds. Leads Feeds bound kinds (awaits g o) (Holds least g s k (expr.Call p x (a ∷ args))))
    (sym (append_assoc (spell_expr a) (behind_commas (map spell_expr args)) (the_mark mark.RightParen)))
    (leads-then Feeds (g.level + length o + expr_depth a) bound (spell_expr a) (behind_commas (map spell_expr args) ++ the_mark mark.RightParen) (awaits g o)
    (Holds 1 g o 1 a) (Holds least g s k (expr.Call p x (a ∷ args))) (omega arith)
    (f.0 1 g o (let i : hole g o ≡ 1 = call_hole g s at x [] 0 in omega arith) argument_guards)
    (λ z i. arguments_lead bound least k g s p at x args f.1 le (omega arith) a [] [] 0 refl refl z i))

pub reads_call : (k : ℕ) (p : Place) (x : List ℕ) (args : List Expr) → k ≤ 15 → EachReads args → Reads k (expr.Call p x args)
unfolding feed operand
reads_call k p x args le f =
    let d : ℕ = 1 + deepest (map expr_depth args) in
    reads_by k (expr.Call p x args) _ d (expr_Call Spelled spell_expr_step p x args) (expr_Call ℕ expr_depth_step p x args)
    (λ least g s low q at. record {
      next = reading g s (now.Named at x);
      reach = level g s;
      goes = refl;
      low = omega arith;
      there = λ from. record {
        next = awaits g (open_.Call at x [] 0 ∷ s);
        reach = 0;
        goes = call_opens g s at x from;
        low = omega arith;
        there = between (g.level + length s + d) least k g s p at x args f le (omega arith);
      };
    })
