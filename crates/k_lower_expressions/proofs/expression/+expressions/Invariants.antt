use Rattle.std.proofs.Common.{◌+◌, ◌*◌, drop, map, max}
use Rattle.k_types_meaning.specs.declared.tree.expression.TExpr.{size-TExpr}
use Rattle.k_lower_code.specs.Lowered.{in_turn}
use Rattle.k_lower_expressions.specs.Arounds.{lowered_in}
use Rattle.k_lower_expressions.proofs.Lists.{Comes}
use Rattle.k_lower_expressions.proofs.expression.+expressions.Given as goal

abbrev pub decreases-value : goal.decreases-value
decreases-value a = 16 * size-TExpr a.e.now + 5

abbrev pub decreases-call_value : goal.decreases-call_value
decreases-call_value a = 16 * size-TExpr a.e.now + 4

abbrev pub decreases-assignment_value : goal.decreases-assignment_value
decreases-assignment_value a = 16 * size-TExpr a.e.now + 3

abbrev pub decreases-binary_value : goal.decreases-binary_value
decreases-binary_value a = 16 * size-TExpr a.e.now + 2

abbrev pub decreases-read : goal.decreases-read
decreases-read a = 16 * size-TExpr a.e.now + 1

abbrev pub decreases-place : goal.decreases-place
decreases-place a = 16 * size-TExpr a.e.now

abbrev pub decreases-boxed_value : goal.decreases-boxed_value
decreases-boxed_value a = 16 * size-TExpr a.e.now + 6

abbrev pub decreases-boxed_place : goal.decreases-boxed_place
decreases-boxed_place a = 16 * size-TExpr a.e.now + 6

abbrev pub decreases-element : goal.decreases-element
decreases-element a = 16 * max (size-TExpr a.base.now) (size-TExpr a.index.now) + 7

abbrev pub decreases-pointed : goal.decreases-pointed
decreases-pointed a = 16 * size-TExpr a.of.now + 7

abbrev pub decreases-address : goal.decreases-address
decreases-address a = 16 * size-TExpr a.of.now + 7

abbrev pub decreases-one : goal.decreases-one
decreases-one a = 16 * size-TExpr a.of.now + 7

abbrev pub decreases-converted : goal.decreases-converted
decreases-converted a = 16 * size-TExpr a.of.now + 7

abbrev pub decreases-unused : goal.decreases-unused
decreases-unused a = 16 * size-TExpr a.of.now + 7

abbrev pub decreases-putchar : goal.decreases-putchar
decreases-putchar a = 16 * size-TExpr a.of.now + 7

abbrev pub decreases-pre : goal.decreases-pre
decreases-pre a = 16 * size-TExpr a.of.now + 7

abbrev pub decreases-post : goal.decreases-post
decreases-post a = 16 * size-TExpr a.of.now + 7

abbrev pub decreases-cast : goal.decreases-cast
decreases-cast a = 16 * size-TExpr a.of.now + 8

abbrev pub decreases-two : goal.decreases-two
decreases-two a = 16 * max (size-TExpr a.left.now) (size-TExpr a.right.now) + 7

abbrev pub decreases-comma : goal.decreases-comma
decreases-comma a = 16 * max (size-TExpr a.left.now) (size-TExpr a.right.now) + 7

abbrev pub decreases-assign : goal.decreases-assign
decreases-assign a = 16 * max (size-TExpr a.left.now) (size-TExpr a.right.now) + 7

abbrev pub decreases-assign_by : goal.decreases-assign_by
decreases-assign_by a = 16 * max (size-TExpr a.left.now) (size-TExpr a.right.now) + 7

abbrev pub decreases-truth : goal.decreases-truth
decreases-truth a = 16 * size-TExpr a.right.now + 7

abbrev pub decreases-under_test : goal.decreases-under_test
decreases-under_test a = 16 * size-TExpr a.right.now + 8

abbrev pub decreases-decide : goal.decreases-decide
decreases-decide a = 16 * max (size-TExpr a.left.now) (size-TExpr a.right.now) + 9

abbrev pub decreases-logic : goal.decreases-logic
decreases-logic a = 16 * max (size-TExpr a.left.now) (size-TExpr a.right.now) + 10

abbrev pub decreases-moved : goal.decreases-moved
decreases-moved a = 16 * size-TExpr a.e.now + 7

abbrev pub decreases-arm : goal.decreases-arm
decreases-arm a = 16 * size-TExpr a.e.now + 8

abbrev pub decreases-arms : goal.decreases-arms
decreases-arms a = 16 * max (size-TExpr a.then.now) (size-TExpr a.other.now) + 9

abbrev pub decreases-choose : goal.decreases-choose
decreases-choose a = 16 * max (size-TExpr a.test.now) (max (size-TExpr a.then.now) (size-TExpr a.other.now)) + 10

abbrev pub decreases-conditional : goal.decreases-conditional
decreases-conditional a = 16 * max (size-TExpr a.test.now) (max (size-TExpr a.then.now) (size-TExpr a.other.now)) + 11

abbrev pub decreases-in_turn : goal.decreases-in_turn
decreases-in_turn a = 16 * goal.size-in_turn a + 6

abbrev pub decreases-call : goal.decreases-call
decreases-call a = 16 * goal.size-call a + 7

abbrev pub decreases-printf : goal.decreases-printf
decreases-printf a = 16 * goal.size-printf a + 7

abbrev pub invariant-in_turn-loop-arg : goal.invariant-in_turn-loop-arg
invariant-in_turn-loop-arg l =
    Comes l.given (in_turn (map (lowered_in l.around) (drop l.arg-index l.arg-items)) l.register) (in_turn (map (lowered_in l.around) l.args) l.fn.r)
    l.fn.out.items l.out.items
