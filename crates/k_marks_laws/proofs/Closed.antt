-- The laws of `k_marks_laws` with what typing says of a whole source.
use Rattle.std.proofs.Common.{ℕ}
use Rattle.k_num.specs.declared.numbers.Kind.{Kind}
use Rattle.k_tree.specs.declared.tree.unit.Unit as source
use Rattle.k_types_meaning.specs.declared.tree.unit.TFunc.{TFunc}
use Rattle.k_marks_meaning.specs.declared.uses.Read.{Read}
use Rattle.k_evaluation.specs.States.{Program}
use Rattle.k_marks_laws.specs.Counted.{IsTypedLoop}
use Rattle.k_marks_laws.specs.Turns.{TLoop}
use Rattle.k_marks_laws.proofs.Adding.{reductions_combine}
use Rattle.k_marks_laws.proofs.BoundLaw.{bound_is_same}
use Rattle.k_marks_laws.proofs.Induction.{variable_is_counted}
use Rattle.k_marks_laws.proofs.Least.{turns_are_least}
use Rattle.k_marks_laws.proofs.OnBoth.{tests_are_on_both}
use Rattle.k_marks_laws.specs.Closed.{IsCountedOf, VariableIsCountedInSources, BoundIsSameInSources, TestsAreOnBothInSources, TurnsAreLeastInSources, ReductionsCombineInSources}
use Rattle.k_marks_laws.proofs.Sources.{loops_are_typed, reductions_are_typed}

-- what typing says of a counted loop
typed_of : (unit : source.Unit) (program : Program) (number : ℕ) (f : TFunc) (l : TLoop) (i : Read) (kind : Kind) → IsCountedOf unit program number f l i kind → IsTypedLoop kind l
typed_of unit program number f l i kind c = loops_are_typed unit program.unit number f l i kind c.loop c.step c.of

pub variable_is_counted_in_sources : VariableIsCountedInSources
variable_is_counted_in_sources unit program depth number f l i kind c before k s t x there turns =
    variable_is_counted program depth number f l i kind c.is c.step c.of (typed_of unit program number f l i kind c) before k s t x there turns

pub bound_is_same_in_sources : BoundIsSameInSources
bound_is_same_in_sources unit program depth number f l i kind c before k s t x y turns first second =
    bound_is_same program depth number f l i kind c.is c.step (typed_of unit program number f l i kind c) before k s t x y turns first second

pub tests_are_on_both_in_sources : TestsAreOnBothInSources
tests_are_on_both_in_sources unit program depth number f l i kind c before s t x test there made =
    tests_are_on_both program depth number f l i kind c.is c.step (typed_of unit program number f l i kind c) before s t x test there made

pub turns_are_least_in_sources : TurnsAreLeastInSources
turns_are_least_in_sources unit program depth number f l i kind c s t flow x there ended =
    turns_are_least program depth number f l i kind c.is c.step c.of (typed_of unit program number f l i kind c) s t flow x there ended

pub reductions_combine_in_sources : ReductionsCombineInSources
reductions_combine_in_sources unit program depth number f l n group kind loop is of tested s t flow x there ended zs same =
    reductions_combine program depth number f l n group kind is of (reductions_are_typed unit program.unit number f l n kind loop of) tested s t flow x there ended zs same
