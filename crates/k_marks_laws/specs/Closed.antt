-- Believed with a public law.
-- INDUCTION AND REDUCTION in each source that has a typed tree: what `k_marks_laws` says of a loop, without a premise on its typing.
use Rattle.std.specs.Prelude.{ℕ, Bool, true, ◌≡◌, ℤ, List, Option, Some}
use Rattle.std.specs.List.{fold}
use Rattle.std.specs.List.Sorted.{IsPermutation}
use Rattle.k_num.specs.declared.numbers.Kind.{Kind}
use Rattle.k_num.specs.Combining.{combined}
use Rattle.k_tree.specs.declared.tree.unit.Unit as source
use Rattle.k_types_meaning.specs.declared.tree.unit.TFunc.{TFunc}
use Rattle.k_marks_meaning.specs.declared.uses.Group.{Group}
use Rattle.k_marks_meaning.specs.declared.uses.Read.{Read}
use Rattle.k_marks_meaning.specs.Loops.{counter, bound_of, is_counted, is_reduced}
use Rattle.k_world.specs.declared.value.Held.{Held}
use Rattle.k_world.specs.declared.value.Value.{Value}
use Rattle.k_world.specs.declared.value.Value.TheVariants.{Number}
use Rattle.k_evaluation.specs.declared.flow.Flow.{Flow}
use Rattle.k_evaluation.specs.declared.flow.Flow.TheVariants.{Normal}
use Rattle.k_evaluation.specs.Calls.{within, calls}
use Rattle.k_evaluation.specs.Loops.{source_loop, starts}
use Rattle.k_evaluation.specs.Meanings.{holds}
use Rattle.k_evaluation.specs.States.{Program, State, Goes}
use Rattle.k_evaluation.specs.Statements.{does}
use Rattle.k_marks_laws.specs.Contributions.{adds_loop, giving}
use Rattle.k_marks_laws.specs.Counted.{IsOfKind, HasValue, counted, step_of}
use Rattle.k_marks_laws.specs.Ended.{EndedAfter, compared}
use Rattle.k_marks_laws.specs.Reduced.{combining}
use Rattle.k_marks_laws.specs.Turns.{TLoop, marked, parts_of, IsBeforeTest, HoldsNumber}
use Rattle.k_marks_laws.specs.Laws.{IsLoopOf}

-- a counted loop in the function of this number, by a variable of a kind
pub record IsCountedOf (unit : source.Unit) (program : Program) (number : ℕ) (f : TFunc) (l : TLoop) (i : Read) (kind : Kind) : Type 0 where
  pub loop : IsLoopOf unit program.unit number f l
  pub is : is_counted f.variables (marked l) ≡ true
  pub step : counter l.step ≡ Some i
  pub of : IsOfKind f.variables i.variable kind

-- INDUCTION: the variable of a counted loop before the k-th test
abbrev pub VariableIsCountedInSources : Type 0
VariableIsCountedInSources =
    (unit : source.Unit) (program : Program) (depth number : ℕ) (f : TFunc) (l : TLoop) (i : Read) (kind : Kind)
    → IsCountedOf unit program number f l i kind
    → (let w = within program (calls depth program) number f in
    (before : Option ℕ) (k : ℕ) (s t : State) (x : ℤ)
    → HoldsNumber s i.variable x
    → IsBeforeTest (parts_of w l) before k s t
    → HoldsNumber t i.variable (counted kind (step_of l.step) x k))

-- its bound has the same value before each test where it has one
abbrev pub BoundIsSameInSources : Type 0
BoundIsSameInSources =
    (unit : source.Unit) (program : Program) (depth number : ℕ) (f : TFunc) (l : TLoop) (i : Read) (kind : Kind)
    → IsCountedOf unit program number f l i kind
    → (let w = within program (calls depth program) number f in
    (before : Option ℕ) (k : ℕ) (s t : State) (x y : Value)
    → IsBeforeTest (parts_of w l) before k s t
    → HasValue w (bound_of i.variable l.test) s x
    → HasValue w (bound_of i.variable l.test) t y
    → x ≡ y)

-- each test is one on variable and bound
abbrev pub TestsAreOnBothInSources : Type 0
TestsAreOnBothInSources =
    (unit : source.Unit) (program : Program) (depth number : ℕ) (f : TFunc) (l : TLoop) (i : Read) (kind : Kind)
    → IsCountedOf unit program number f l i kind
    → (let w = within program (calls depth program) number f in
    (before : Option ℕ) (s t : State) (x : ℤ) (test : Held)
    → HoldsNumber s i.variable x
    → starts (parts_of w l) before (parts_of w l).test s ≡ Goes test t
    → (y : ℤ) × HasValue w (bound_of i.variable l.test) s (Number y) × (holds test ≡ compared l.test x y))

-- the number of turns of a counted loop that ended is the least for which the test is false
abbrev pub TurnsAreLeastInSources : Type 0
TurnsAreLeastInSources =
    (unit : source.Unit) (program : Program) (depth number : ℕ) (f : TFunc) (l : TLoop) (i : Read) (kind : Kind)
    → IsCountedOf unit program number f l i kind
    → (let w = within program (calls depth program) number f in
    (s t : State) (flow : Flow) (x : ℤ)
    → HoldsNumber s i.variable x
    → source_loop w l.spot l.number l.test l.step (does w l.body) true s ≡ Goes flow t
    → (flow ≡ Normal) × (turns : ℕ) × EndedAfter w l i kind x s turns)

-- REDUCTION: a variable that a loop of a source reduces is behind it what it was before, combined with what the body contributes
abbrev pub ReductionsCombineInSources : Type 0
ReductionsCombineInSources =
    (unit : source.Unit) (program : Program) (depth number : ℕ) (f : TFunc) (l : TLoop) (n : ℕ) (group : Group) (kind : Kind)
    → IsLoopOf unit program.unit number f l
    → is_reduced f.variables (marked l) n group ≡ true
    → IsOfKind f.variables n kind
    → (let w = within program (calls depth program) number f in
    (tested : Bool) (s t : State) (flow : Flow) (x : ℤ)
    → HoldsNumber s n x
    → source_loop w l.spot l.number l.test l.step (does w l.body) tested s ≡ Goes flow t
    → (zs : List ℤ) → IsPermutation (adds_loop w l.spot l.number l.test l.step (giving w n l.body) tested s) zs
    → HoldsNumber t n (fold (combined (combining group) kind) x zs))
