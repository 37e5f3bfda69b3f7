-- What typing says at the top of an expression, where its variables are of these kinds; and what the laws of loops ask of it.
use Rattle.std.proofs.Common.{◌≡◌, ℕ, List, [], ◌∷◌, Option, Some, None, Bool, true, false, ◌&&◌, refl, ◌∙◌, ap, subst}
use Rattle.std.specs.Prelude.{IsSome}
use Rattle.std.proofs.lemmas.Bool.{eqb-true}
use Rattle.k_num.specs.declared.numbers.Kind.{Kind}
use Rattle.k_types_meaning.specs.declared.tree.expression.Change.{Change}
use Rattle.k_types_meaning.specs.declared.tree.expression.Change.TheVariants as change
use Rattle.k_types_meaning.specs.declared.tree.expression.Node.{Node}
use Rattle.k_types_meaning.specs.declared.tree.expression.TExpr.{TExpr, out-TExpr}
use Rattle.k_types_meaning.specs.declared.tree.expression.TExpr.TheOpen.{TExpr-F}
use Rattle.k_marks_meaning.specs.declared.uses.Group.{Group}
use Rattle.k_marks_meaning.specs.declared.uses.Read.{Read}
use Rattle.k_marks_meaning.specs.Uses.{Used, used}
use Rattle.k_marks_meaning.specs.Reductions.{group_of, variable_of}
use Rattle.k_marks_meaning.specs.Loops.{adds, is_nonzero, read_if, counter, counter_step, reads}
use Rattle.k_marks_laws.specs.Contributions.{Reducing, reducing_by, compound_by, reducing_step}
use Rattle.k_marks_laws.specs.Counted.{IsTypedChange, IsTypedStepAt, IsTypedStep, IsTypedSide, IsTypedTestAt, IsTypedTest}
use Rattle.k_marks_laws.specs.Reduced.{IsTypedRight, IsTypedAssignment, AreTyped}
use Rattle.k_marks_laws.proofs.Conditions.{read_there}
use Rattle.k_marks_laws.proofs.OneVariable.{IsRead, variable_is}

-- what a change says of the variable that it changes, if it is one: it is typed for each kind that the variable has
abbrev pub ChangesWell : (ℕ → Kind → Type 0) → Node → Change → Option ℕ → Type 0
ChangesWell K node by None = Unit {0}
ChangesWell K node by (Some n) = (kind : Kind) → K n kind → IsTypedChange kind node by

-- what typing says at the top of an expression
abbrev pub GoodAt : (ℕ → Kind → Type 0) → TExpr-F TExpr → Type 0
GoodAt K (TExpr-F.Post node by e) = ChangesWell K node by (used e).itself
GoodAt K (TExpr-F.Pre node by e) = ChangesWell K node by (used e).itself
GoodAt K (TExpr-F.AssignBy node by left right) = ChangesWell K node by (used left).itself
GoodAt K (TExpr-F.Assign node left right) =
    (n : ℕ) (kind : Kind) → K n kind → IsSome (reducing_step n (TExpr-F.Assign node left right)) → IsTypedRight kind (out-TExpr right)
GoodAt K (TExpr-F.Binary node op wide left right) = IsTypedSide wide (out-TExpr left)
GoodAt K _ = Unit {0}

abbrev pub Good : (ℕ → Kind → Type 0) → TExpr → Type 0
Good K e = GoodAt K (out-TExpr e)

abbrev pub GoodOption : (ℕ → Kind → Type 0) → Option TExpr → Type 0
GoodOption K None = Unit {0}
GoodOption K (Some e) = Good K e

abbrev pub AllGood : (ℕ → Kind → Type 0) → List TExpr → Type 0
AllGood K [] = Unit {0}
AllGood K (e ∷ es) = Good K e × AllGood K es

-- TESTS
test_at : (K : ℕ → Kind → Type 0) (y : TExpr-F TExpr) → GoodAt K y → IsTypedTestAt y
test_at K (TExpr-F.Binary node op wide left right) h = h
test_at K _ h = tt

pub good_test : (K : ℕ → Kind → Type 0) (e : Option TExpr) → GoodOption K e → IsTypedTest e
good_test K None h = tt
good_test K (Some e) h = test_at K (out-TExpr e) h

-- STEPS
itself_is : (e : TExpr) (i : Read) → variable_of e ≡ Some i → (used e).itself ≡ Some i.variable
itself_is e i is = ap (λ (u : Used). u.itself) (subst (λ (r : Option Read). IsRead r (used e)) is (variable_is e))

module _ (K : ℕ → Kind → Type 0) (i : Read) (kind : Kind) (of : K i.variable kind) where
  change_of : (node : Node) (by : Change) (b : Bool) (e : TExpr) → read_if b e ≡ Some i → ChangesWell K node by (used e).itself → IsTypedChange kind node by
  change_of node by b e is h = subst (ChangesWell K node by) (itself_is e i (read_there b e i is)) h kind of

  step_at : (y : TExpr-F TExpr) → counter_step y ≡ Some i → GoodAt K y → IsTypedStepAt kind y
  step_at (TExpr-F.Post node by e) is h = change_of node by (adds by) e is h
  step_at (TExpr-F.Pre node by e) is h = change_of node by (adds by) e is h
  step_at (TExpr-F.AssignBy node by left right) is h = change_of node by (adds by && is_nonzero right) left is h
  step_at _ is h = absurd cc

  pub good_step : (e : Option TExpr) → counter e ≡ Some i → GoodOption K e → IsTypedStep kind e
  good_step None is h = tt
  good_step (Some e) is h = step_at (out-TExpr e) is h

-- REDUCTIONS
-- what is read as this variable is it
read_is_it : (n : ℕ) (r : Option Read) (u : Used) → IsRead r u → reads n r ≡ true → u.itself ≡ Some n
read_is_it n None u is same = absurd cc
read_is_it n (Some r) u is same = ap (λ (v : Used). v.itself) is ∙ ap Some (eqb-true r.variable n same)

-- nothing reduces but where the variable is read
by_read : (b : Bool) (g : Option Group) (r : Reducing) → IsSome (reducing_by b g r) → b ≡ true
by_read true g r some = refl
by_read false g r some = absurd cc

compound_read : (b : Bool) (by : Change) (e : TExpr) → IsSome (compound_by b by e) → b ≡ true
compound_read b (change.Number op kind) e some = by_read b (group_of op) (record { op = op; before = None; other = e }) some
compound_read b change.Forward e some = absurd cc
compound_read b change.Back e some = absurd cc

module _ (K : ℕ → Kind → Type 0) (n : ℕ) (kind : Kind) (of : K n kind) where
  assignment_at : (y : TExpr-F TExpr) → GoodAt K y → IsSome (reducing_step n y) → IsTypedAssignment kind y
  assignment_at (TExpr-F.AssignBy node by left right) h some =
      subst (ChangesWell K node by)
      (read_is_it n (variable_of left) (used left) (variable_is left) (compound_read (reads n (variable_of left)) by right some)) h kind of
  assignment_at (TExpr-F.Assign node left right) h some = h n kind of some
  assignment_at _ h some = tt

  pub good_reductions : (es : List TExpr) → AllGood K es → AreTyped kind n es
  good_reductions [] h = tt
  good_reductions (e ∷ es) h = (assignment_at (out-TExpr e) h.0, good_reductions es h.1)
