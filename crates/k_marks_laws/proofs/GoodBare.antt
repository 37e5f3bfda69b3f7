-- What typing says at the top of an expression without its numbers, it says of the expression.
use Rattle.std.proofs.Common.{◌≡◌, ℕ, List, [], ◌∷◌, map, Option, Some, None, Bool, true, false, ◌&&◌, refl, sym, ◌∙◌, ap, subst}
use Rattle.std.specs.Prelude.{IsSome}
use Rattle.k_num.specs.declared.numbers.Kind.{Kind}
use Rattle.k_types_meaning.specs.declared.tree.expression.Change.{Change}
use Rattle.k_types_meaning.specs.declared.tree.expression.Change.TheVariants as change
use Rattle.k_types_meaning.specs.declared.tree.expression.Node.{Node}
use Rattle.k_types_meaning.specs.declared.tree.expression.TExpr.{TExpr, out-TExpr}
use Rattle.k_types_meaning.specs.declared.tree.expression.TExpr.TheOpen.{TExpr-F}
use Rattle.k_types_meaning.specs.Bare.{bare_node, bare_expr, bare_option}
use Rattle.k_marks_meaning.specs.declared.uses.Group.{Group}
use Rattle.k_marks_meaning.specs.Uses.{Used, used}
use Rattle.k_marks_meaning.specs.Reductions.{group_of, variable_step, variable_of, read_step, read_of, unconverted_step, unconverted}
use Rattle.k_marks_meaning.specs.Loops.{reads}
use Rattle.k_marks_laws.specs.Contributions.{Reducing, reducing_by, simple_by}
use Rattle.k_marks_laws.specs.Counted.{IsTypedChange, IsTypedSide}
use Rattle.k_marks_laws.specs.Reduced.{IsTypedOperation, IsTypedRight}
use Rattle.k_marks_laws.proofs.Bared.{bare_of, bare_out, used_bare}
use Rattle.k_marks_laws.proofs.Good.{ChangesWell, GoodAt, Good, GoodOption, AllGood}

-- CHANGES
change_bare : (kind : Kind) (node : Node) (by : Change) → IsTypedChange kind (bare_node node) by → IsTypedChange kind node by
change_bare kind node (change.Number op wide) h = h
change_bare kind node change.Forward h = tt
change_bare kind node change.Back h = tt

changes_bare : (K : ℕ → Kind → Type 0) (node : Node) (by : Change) (itself : Option ℕ) → ChangesWell K (bare_node node) by itself → ChangesWell K node by itself
changes_bare K node by None h = tt
changes_bare K node by (Some n) h = λ kind is. change_bare kind node by (h kind is)

change_of : (K : ℕ → Kind → Type 0) (node : Node) (by : Change) (e : TExpr) → ChangesWell K (bare_node node) by (used (bare_expr e)).itself → ChangesWell K node by (used e).itself
change_of K node by e h = changes_bare K node by (used e).itself (subst (λ (u : Used). ChangesWell K (bare_node node) by u.itself) (used_bare e) h)

-- SIDES
side_at : (wide : Kind) (y : TExpr-F TExpr) → IsTypedSide wide (bare_of y) → IsTypedSide wide y
side_at wide (TExpr-F.Convert node e) h = h
side_at wide _ h = tt

side_bare : (wide : Kind) (e : TExpr) → IsTypedSide wide (out-TExpr (bare_expr e)) → IsTypedSide wide (out-TExpr e)
side_bare wide e h = side_at wide (out-TExpr e) (subst (IsTypedSide wide) (bare_out e) h)

-- RIGHT SIDES of assignments
operation_at : (kind : Kind) (y : TExpr-F TExpr) → IsTypedOperation kind (bare_of y) → IsTypedOperation kind y
operation_at kind (TExpr-F.Binary node op wide left right) h = (h.0, side_bare wide left h.1)
operation_at kind _ h = tt

operation_bare : (kind : Kind) (e : TExpr) → IsTypedOperation kind (out-TExpr (bare_expr e)) → IsTypedOperation kind (out-TExpr e)
operation_bare kind e h = operation_at kind (out-TExpr e) (subst (IsTypedOperation kind) (bare_out e) h)

right_at : (kind : Kind) (y : TExpr-F TExpr) → IsTypedRight kind (bare_of y) → IsTypedRight kind y
right_at kind (TExpr-F.Convert node e) h = (h.0, operation_bare kind e h.1)
right_at kind (TExpr-F.Binary node op wide left right) h = (h.0, side_bare wide left h.1)
right_at kind _ h = tt

right_bare : (kind : Kind) (e : TExpr) → IsTypedRight kind (out-TExpr (bare_expr e)) → IsTypedRight kind (out-TExpr e)
right_bare kind e h = right_at kind (out-TExpr e) (subst (IsTypedRight kind) (bare_out e) h)

-- WHAT READS A VARIABLE
variable_at : (n : ℕ) (y : TExpr-F TExpr) → reads n (variable_step (bare_of y)) ≡ reads n (variable_step y)
variable_at n (TExpr-F.Variable node m) = refl
variable_at n _ = refl

variable_bare : (n : ℕ) (e : TExpr) → reads n (variable_of (bare_expr e)) ≡ reads n (variable_of e)
variable_bare n e = ap (λ (y : TExpr-F TExpr). reads n (variable_step y)) (bare_out e) ∙ variable_at n (out-TExpr e)

read_at : (n : ℕ) (y : TExpr-F TExpr) → reads n (read_step (bare_of y)) ≡ reads n (read_step y)
read_at n (TExpr-F.Variable node m) = refl
read_at n (TExpr-F.Convert node e) = variable_bare n e
read_at n _ = refl

read_bare : (n : ℕ) (e : TExpr) → reads n (read_of (bare_expr e)) ≡ reads n (read_of e)
read_bare n e = ap (λ (y : TExpr-F TExpr). reads n (read_step y)) (bare_out e) ∙ read_at n (out-TExpr e)

unconverted_at : (whole : TExpr) (y : TExpr-F TExpr) → unconverted_step (bare_expr whole) (bare_of y) ≡ bare_expr (unconverted_step whole y)
unconverted_at whole (TExpr-F.Convert node e) = refl
unconverted_at whole _ = refl

unconverted_bare : (e : TExpr) → unconverted (bare_expr e) ≡ bare_expr (unconverted e)
unconverted_bare e = ap (unconverted_step (bare_expr e)) (bare_out e) ∙ unconverted_at e (out-TExpr e)

-- WHAT REDUCES IT
reducing_alike : (b : Bool) (g : Option Group) (r q : Reducing) → IsSome (reducing_by b g r) → IsSome (reducing_by b g q)
reducing_alike false g r q some = absurd cc
reducing_alike true None r q some = absurd cc
reducing_alike true (Some g) r q some = refl

simple_at : (n : ℕ) (here : Bool) (y : TExpr-F TExpr) → IsSome (simple_by n here y) → IsSome (simple_by n here (bare_of y))
simple_at n here (TExpr-F.Binary node op kind left right) some =
    subst (λ (b : Bool). IsSome (reducing_by (here && b) (group_of op) (record { op = op; before = Some (bare_expr left); other = bare_expr right })))
    (sym (read_bare n left))
    (reducing_alike (here && reads n (read_of left)) (group_of op) (record { op = op; before = Some left; other = right })
    (record { op = op; before = Some (bare_expr left); other = bare_expr right }) some)
simple_at n here _ some = absurd cc

simple_bare : (n : ℕ) (left right : TExpr) → IsSome (simple_by n (reads n (variable_of left)) (out-TExpr (unconverted right)))
    → IsSome (simple_by n (reads n (variable_of (bare_expr left))) (out-TExpr (unconverted (bare_expr right))))
simple_bare n left right some =
    subst (λ (b : Bool). IsSome (simple_by n b (out-TExpr (unconverted (bare_expr right))))) (sym (variable_bare n left))
    (subst (λ (e : TExpr). IsSome (simple_by n (reads n (variable_of left)) (out-TExpr e))) (sym (unconverted_bare right))
    (subst (λ (y : TExpr-F TExpr). IsSome (simple_by n (reads n (variable_of left)) y)) (sym (bare_out (unconverted right)))
    (simple_at n (reads n (variable_of left)) (out-TExpr (unconverted right)) some)))

-- ALL OF IT
good_at : (K : ℕ → Kind → Type 0) (y : TExpr-F TExpr) → GoodAt K (bare_of y) → GoodAt K y
good_at K (TExpr-F.Post node by e) h = change_of K node by e h
good_at K (TExpr-F.Pre node by e) h = change_of K node by e h
good_at K (TExpr-F.AssignBy node by left right) h = change_of K node by left h
good_at K (TExpr-F.Assign node left right) h = λ n kind of some. right_bare kind right (h n kind of (simple_bare n left right some))
good_at K (TExpr-F.Binary node op wide left right) h = side_bare wide left h
good_at K _ h = tt

pub good_bare : (K : ℕ → Kind → Type 0) (e : TExpr) → Good K (bare_expr e) → Good K e
good_bare K e h = good_at K (out-TExpr e) (subst (GoodAt K) (bare_out e) h)

pub option_good_bare : (K : ℕ → Kind → Type 0) (e : Option TExpr) → GoodOption K (bare_option e) → GoodOption K e
option_good_bare K None h = tt
option_good_bare K (Some e) h = good_bare K e h

pub all_good_bare : (K : ℕ → Kind → Type 0) (es : List TExpr) → AllGood K (map bare_expr es) → AllGood K es
all_good_bare K [] h = tt
all_good_bare K (e ∷ es) h = (good_bare K e h.0, all_good_bare K es h.1)
