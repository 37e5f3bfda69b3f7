use Rattle.std.proofs.Common.{◌≡◌, ◌+◌, ◌*◌, map, max, drop}
use Rattle.k_types_meaning.specs.declared.tree.expression.TExpr.{size-TExpr}
use Rattle.k_lower_extents.specs.ExpressionSums.{summed, total}
use Rattle.k_lower_extents.proofs.expression.+expressions.Given as goal

abbrev pub invariant-args_size-loop-arg : goal.invariant-args_size-loop-arg
invariant-args_size-loop-arg l =
    l.size + total (map (summed l.variables) (drop l.arg-index l.arg-items)) ≡ total (map (summed l.variables) l.args)

abbrev pub decreases-operands_of : goal.decreases-operands_of
decreases-operands_of a = 8 * size-TExpr a.e.now

abbrev pub decreases-extent : goal.decreases-extent
decreases-extent a = 8 * size-TExpr a.e.now + 1

abbrev pub decreases-boxed : goal.decreases-boxed
decreases-boxed a = 8 * size-TExpr a.e.now + 2

abbrev pub decreases-one_operand : goal.decreases-one_operand
decreases-one_operand a = 8 * size-TExpr a.of.now + 3

abbrev pub decreases-two_operands : goal.decreases-two_operands
decreases-two_operands a = 8 * max (size-TExpr a.left.now) (size-TExpr a.right.now) + 3

abbrev pub decreases-three_operands : goal.decreases-three_operands
decreases-three_operands a = 8 * max (size-TExpr a.test.now) (max (size-TExpr a.then.now) (size-TExpr a.other.now)) + 3

abbrev pub decreases-args_size : goal.decreases-args_size
decreases-args_size a = 8 * goal.size-args_size a + 2

abbrev pub decreases-arguments : goal.decreases-arguments
decreases-arguments a = 8 * goal.size-arguments a + 3
