use Rattle.std.proofs.Common.{◌+◌, ◌*◌, max}
use Rattle.k_types_meaning.specs.declared.tree.expression.TExpr.{size-TExpr}
use Rattle.k_wide.proofs.signs.+expressions.Given as goal

abbrev pub decreases-note_signs : goal.decreases-note_signs
decreases-note_signs a = 2 * size-TExpr a.expr.now

abbrev pub decreases-note_one : goal.decreases-note_one
decreases-note_one a = 2 * size-TExpr a.of.now + 1

abbrev pub decreases-note_two : goal.decreases-note_two
decreases-note_two a = 2 * max (size-TExpr a.left.now) (size-TExpr a.right.now) + 1

abbrev pub decreases-note_three : goal.decreases-note_three
decreases-note_three a = 2 * max (size-TExpr a.test.now) (max (size-TExpr a.first.now) (size-TExpr a.second.now)) + 1
