-- A value that is read, around which constructs may still be open: what the next token does there.
use Rattle.std.proofs.Common.{ℕ, ◌≡◌, ◌+◌, ◌<◌, ◌≤◌, true, false, cond, ◌&&◌, nat_le, [], ◌∷◌, length, Some, None, ap, ◌∙◌, arith, le-leb}
use Rattle.std.proofs.lemmas.Bool.{lt-leb}
use Rattle.k_parse_steps.specs.Types.{Place, Token, TokenKind, Mark, Expr, Binding, Term, Open, ExpressionStage, Site, Reading}
use Rattle.k_tree.specs.declared.tokens.TokenKind.TheVariants as token
use Rattle.k_tree.specs.Bare.{bare_expr}
use Rattle.k_tree.specs.Nesting.{expr_depth}
use Rattle.k_tree.specs.Spelling.{spell_expr}
use Rattle.k_parse_steps.specs.Operators.{binding, takes, takes_by}
use Rattle.k_parse_steps.specs.Expressions.{feed, value, hole, plug, Opens, takes_token, take_operator, enclose_by, closed_by, take_token}
use Rattle.k_parse_steps.specs.declared.expression.ExpressionStage.TheVariants as now
use Rattle.k_parse_steps.specs.declared.turn.Turn.TheVariants as turn
use Rattle.k_parse_steps.specs.declared.expression.plug.Plugged.TheVariants as plugged
use Rattle.k_parse_steps.proofs.CompleteLeads.{token_at, Moves, Leads}
use Rattle.k_parse_steps.specs.Tokens.{token_is_mark}
use Rattle.k_tree.specs.declared.tokens.mark.Mark.TheVariants as mark

abbrev pub reading : Site → Opens → ExpressionStage → Reading
reading g s n = record { site = g; opens = s; stage = n }

-- how the machine of expressions moves
abbrev pub Feeds : Moves Reading
Feeds r t next reach = feed r t ≡ turn.Goes next reach

-- an operand is awaited
abbrev pub awaits : Site → Opens → Reading
awaits g s = reading g s now.Operand

-- a token that goes on with no operand in a place of this least rank or a higher one
abbrev pub Below : ℕ → TokenKind → Type 0
Below least kind =
    (token_is_mark kind mark.LeftParen ≡ false) × ((place rank : ℕ) → least ≤ place → takes_token place rank kind ≡ false)

-- the tree is read over these open constructs: a token below `least` finds it there, of rank k or above
pub record Holds (least : ℕ) (g : Site) (s : Opens) (k : ℕ) (e : Expr) (r : Reading) : Type 0 where
  pub a : Term
  pub next : (t : Token) → Below least t.what → feed r t ≡ value g s a t
  pub ranked : k ≤ a.rank
  pub high : a.height ≡ (expr_depth e)
  pub same : bare_expr a.tree ≡ bare_expr e

-- how high the places lie that pass an operator by which a tree of rank k goes on
abbrev pub Guards : ℕ → ℕ → Type 0
Guards least k = (k ≤ 1 → least ≤ 1) × (k ≤ 2 → least ≤ 2) × (k ≤ 12 → least ≤ k + 1) × (k ≤ 14 → least ≤ 13)

-- the tokens of an expression lead to a reading that holds it, from each place that takes its rank
abbrev pub Reads : ℕ → Expr → Type 0
Reads k e = (least : ℕ) (g : Site) (s : Opens) → hole g s ≤ k → Guards least k
    → Leads Feeds (g.level + length s + expr_depth e) (spell_expr e) (awaits g s) (Holds least g s k e)

-- the value goes into the construct around it
pub closed : (g : Site) (o : Open) (s : Opens) (a b : Term) (t : Token)
    → takes_token (hole g (o ∷ s)) a.rank t.what ≡ false → plug o a ≡ plugged.Whole b → value g (o ∷ s) a t ≡ value g s b t
unfolding value
closed g o s a b t passed whole =
    ap (λ v. cond v (take_token g (o ∷ s) a t.what t.place) (closed_by g s (plug o a) t.what (λ b. value g s b t))) passed
    ∙ ap (λ w. closed_by g s w t.what (λ b. value g s b t)) whole

-- the construct around the value goes on with a token of its own
pub parted : (g : Site) (o : Open) (s : Opens) (a : Term) (t : Token)
    → takes_token (hole g (o ∷ s)) a.rank t.what ≡ false → plug o a ≡ plugged.Part o a → value g (o ∷ s) a t ≡ enclose_by g s o a t.what
unfolding value
parted g o s a t passed part =
    ap (λ v. cond v (take_token g (o ∷ s) a t.what t.place) (closed_by g s (plug o a) t.what (λ b. value g s b t))) passed
    ∙ ap (λ w. closed_by g s w t.what (λ b. value g s b t)) part

-- nothing is around the value
pub ended : (g : Site) (a : Term) (t : Token)
    → takes_token (hole g []) a.rank t.what ≡ false → value g [] a t ≡ turn.Done a.tree
unfolding value
ended g a t passed = ap (λ v. cond v (take_token g [] a t.what t.place) (turn.Done a.tree)) passed

-- an operator goes on with the value
pub taken : (g : Site) (s : Opens) (a : Term) (p : Place) (op : Mark)
    → takes (hole g s) a.rank op ≡ true → value g s a (token_at p (token.Mark op)) ≡ take_operator g s a op p
unfolding value
taken g [] a p op takes_it = ap (λ v. cond v (take_token g [] a (token.Mark op) p) (turn.Done a.tree)) takes_it
taken g (o ∷ s) a p op takes_it =
    ap (λ v. cond v (take_token g (o ∷ s) a (token.Mark op) p) (closed_by g s (plug o a) (token.Mark op) (λ b. value g s b (token_at p (token.Mark op))))) takes_it

-- an operator goes on where its ranks say so
pub taken_by : (place rank : ℕ) (op : Mark) (b : Binding) → binding op ≡ Some b → place ≤ b.own → b.left ≤ rank → takes place rank op ≡ true
unfolding takes
taken_by place rank op b e low high = ap (takes_by place rank) e ∙ (ap (λ v. v && nat_le b.left rank) (le-leb place b.own low) ∙ le-leb b.left rank high)

-- and not in a place that is higher than what it makes
pub below_by : (least : ℕ) (op : Mark) (b : Binding) → token_is_mark (token.Mark op) mark.LeftParen ≡ false → binding op ≡ Some b → b.own < least → Below least (token.Mark op)
unfolding takes
below_by least op b passed e lt = (passed, λ place rank le. ap (takes_by place rank) e ∙ ap (λ v. v && nat_le b.left rank) (lt-leb place b.own (omega arith)))

-- what is no operator goes on with nothing
pub below_none : (least : ℕ) (op : Mark) → token_is_mark (token.Mark op) mark.LeftParen ≡ false → binding op ≡ None → Below least (token.Mark op)
unfolding takes
below_none least op passed e = (passed, λ place rank le. ap (takes_by place rank) e)
