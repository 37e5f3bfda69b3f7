use Rattle.std.proofs.Common.{◌≡◌, ◌++◌, ◌+◌, ◌*◌, map, max, drop}
use Rattle.k_types_meaning.specs.declared.tree.expression.TExpr.{size-TExpr}
use Rattle.k_pragma_texts.specs.Occurrences.{occurs_in_all, told}
use Rattle.k_pragma_texts.proofs.expressions.+expressions.Given as goal

abbrev pub invariant-note_args-loop-arg : goal.invariant-note_args-loop-arg
invariant-note_args-loop-arg l =
    l.occurs.items ++ occurs_in_all (map told (drop l.arg-index l.arg-items)) ≡ l.fn.occurs.items ++ occurs_in_all (map told l.args)

abbrev pub decreases-note_expr : goal.decreases-note_expr
decreases-note_expr a = 4 * size-TExpr a.expr.now

abbrev pub decreases-note_left : goal.decreases-note_left
decreases-note_left a = 4 * size-TExpr a.expr.now + 1

abbrev pub decreases-note_assigned : goal.decreases-note_assigned
decreases-note_assigned a = 4 * max (size-TExpr a.left.now) (size-TExpr a.right.now) + 2

abbrev pub decreases-note_both : goal.decreases-note_both
decreases-note_both a = 4 * max (size-TExpr a.left.now) (size-TExpr a.right.now) + 1

abbrev pub decreases-note_choice : goal.decreases-note_choice
decreases-note_choice a = 4 * max (size-TExpr a.test.now) (max (size-TExpr a.first.now) (size-TExpr a.second.now)) + 2

abbrev pub decreases-note_args : goal.decreases-note_args
decreases-note_args a = 4 * goal.size-note_args a + 1
