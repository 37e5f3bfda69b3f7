-- Believed with a public law.
-- WHAT TYPING SAYS of the loops of a whole source.
use Rattle.std.specs.Prelude.{ℕ, ◌≡◌, Some, slice_get}
use Rattle.k_num.specs.declared.numbers.Kind.{Kind}
use Rattle.k_tree.specs.declared.tree.unit.Unit as source
use Rattle.k_types_meaning.specs.declared.tree.unit.TFunc.{TFunc}
use Rattle.k_types_meaning.specs.declared.tree.unit.TUnit.{TUnit}
use Rattle.k_types_meaning.specs.Bare.{IsTyped}
use Rattle.k_marks_meaning.specs.declared.uses.Read.{Read}
use Rattle.k_marks_meaning.specs.Loops.{counter}
use Rattle.k_marks_laws.specs.Turns.{TLoop}
use Rattle.k_marks_laws.specs.Counted.{IsOfKind, IsTypedLoop}
use Rattle.k_marks_laws.specs.Reduced.{AreTyped, expressions_in}
use Rattle.k_marks_laws.specs.Standing.{StandsIn}

-- the loop stands in the function of this number of a source with this typed tree
pub record IsLoopOf (unit : source.Unit) (typed : TUnit) (number : ℕ) (f : TFunc) (l : TLoop) : Type 0 where
  pub typed_tree : IsTyped unit typed
  pub there : slice_get typed.functions number ≡ Some f
  pub stands : StandsIn l f

-- each loop whose step changes a variable of a kind is typed as the laws of induction ask
abbrev pub LoopsAreTyped : Type 0
LoopsAreTyped =
    (unit : source.Unit) (typed : TUnit) (number : ℕ) (f : TFunc) (l : TLoop) (i : Read) (kind : Kind)
    → IsLoopOf unit typed number f l
    → counter l.step ≡ Some i
    → IsOfKind f.variables i.variable kind
    → IsTypedLoop kind l

-- each reduction of a variable of a kind in the body of a loop is typed as the law of reduction asks
abbrev pub ReductionsAreTyped : Type 0
ReductionsAreTyped =
    (unit : source.Unit) (typed : TUnit) (number : ℕ) (f : TFunc) (l : TLoop) (n : ℕ) (kind : Kind)
    → IsLoopOf unit typed number f l
    → IsOfKind f.variables n kind
    → AreTyped kind n (expressions_in l.body)
