-- For contracts between crates: nobody has to believe it.
-- Operations of two operands that are known but for these, tests that are known but for their targets, and tests with what stands under them.
use Rattle.std.specs.Prelude.{ℕ, Bool, true, false, Option, Some}
use Rattle.k_optab.specs.declared.class.Class.TheVariants as class
use Rattle.k_types_meaning.specs.declared.types.TType.{TType}
use Rattle.k_types_meaning.specs.declared.tree.expression.Node.{Node}
use Rattle.k_code.specs.declared.instruction.Arg.{Arg}
use Rattle.k_code.specs.declared.instruction.Arg.TheVariants.{Reg}
use Rattle.k_code.specs.declared.instruction.Do.{Do}
use Rattle.k_code.specs.declared.instruction.Do.TheVariants as act
use Rattle.k_evaluation.specs.Meanings.{scale_of}
use Rattle.k_evaluation.specs.States.{Program}
use Rattle.k_lower_code.specs.Lowered.{Lowered}
use Rattle.k_lower_code.specs.Operators.{arm, binary_on, chooses, compare_on, distance_on, tests_before, truth_of}
use Rattle.k_lower_code.specs.Pieces.{Piece, only, ◌>>>◌}
use Rattle.k_lower_code.specs.Places.{offset, offset_onto}
use Rattle.k_lower_expressions.specs.declared.operators.OnTwo.{OnTwo}
use Rattle.k_lower_expressions.specs.declared.operators.OnTwo.TheVariants as two

-- what is done with two operands, of which the first has this type
abbrev pub on_two_by : Program → Node → TType → OnTwo → ℕ → Arg → Arg → Piece Arg
on_two_by program node of (two.Binary op kind) = binary_on program node.place op kind
on_two_by program node of (two.Compare op) = compare_on program node.place op
on_two_by program node of two.Distance = distance_on program node.place (scale_of of)
on_two_by program node of two.Forward = offset program node.place false (scale_of node.of)
on_two_by program node of two.Onto = offset_onto program node.place (scale_of node.of)
on_two_by program node of two.Back = offset program node.place true (scale_of node.of)

-- a test before instructions that are passed over where this truth was found: the first of them, and the one behind them
abbrev pub test_by : Bool → Arg → ℕ → ℕ → Option ℕ → Do
test_by false a inner behind to = act.Test a inner behind to class.Test
test_by true a inner behind to = act.Test a behind inner to class.Test

-- `&&` and `||` up to where the control source is put back
abbrev pub decided : Program → Node → Bool → Lowered → Lowered → ℕ → Piece Arg
decided program node decides left right r =
    left.value true r >>> λ a. tests_before program node.place decides (Some r) a (truth_of program node right r) >>> λ done. only (Reg r false)

-- `?:` up to there
abbrev pub chosen : Program → Node → Lowered → Lowered → Lowered → ℕ → Piece Arg
chosen program node test one other r =
    test.value true r >>> λ a. chooses program node.place a (arm program node.place node.of r one) (arm program node.place node.of r other)
