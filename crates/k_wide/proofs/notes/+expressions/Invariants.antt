use Rattle.std.proofs.Common.{◌≡◌, ◌++◌, ◌+◌, ◌*◌, map, drop, max}
use Rattle.k_types_meaning.specs.declared.tree.expression.TExpr.{size-TExpr}
use Rattle.k_wide_meaning.specs.Occurrences.{in_order, occurring}
use Rattle.k_wide.proofs.notes.+expressions.Given as goal

abbrev pub invariant-note_args-loop-arg : goal.invariant-note_args-loop-arg
invariant-note_args-loop-arg l =
    l.found.items ++ in_order (map occurring (drop l.arg-index l.arg-items)) ≡ l.fn.found.items ++ in_order (map occurring l.args)

abbrev pub decreases-note_expr : goal.decreases-note_expr
decreases-note_expr a = 2 * size-TExpr a.expr.now

abbrev pub decreases-note_changed : goal.decreases-note_changed
decreases-note_changed a = 2 * size-TExpr a.of.now + 1

abbrev pub decreases-note_both : goal.decreases-note_both
decreases-note_both a = 2 * max (size-TExpr a.left.now) (size-TExpr a.right.now) + 1

abbrev pub decreases-note_choice : goal.decreases-note_choice
decreases-note_choice a = 2 * max (size-TExpr a.test.now) (max (size-TExpr a.first.now) (size-TExpr a.second.now)) + 1

abbrev pub decreases-note_args : goal.decreases-note_args
decreases-note_args a = 2 * goal.size-note_args a + 1

abbrev pub decreases-note_addressed : goal.decreases-note_addressed
decreases-note_addressed a = 2 * size-TExpr a.of.now + 1
