use Rattle.std.proofs.Common.{◌+◌, ◌*◌, max}
use Rattle.k_types_meaning.specs.declared.tree.expression.TExpr.{TExpr, size-TExpr}
use Rattle.k_types_meaning.specs.Bare.{bare_expr}
use Rattle.k_types_meaning.specs.Numbered.{expr_numbers}
use Rattle.k_types_numbers.proofs.CountingLaws.{SoFar}
use Rattle.k_types_numbers.proofs.expression.+expressions.Given as goal

abbrev pub invariant-number_exprs-loop-expr : goal.invariant-number_exprs-loop-expr
invariant-number_exprs-loop-expr l =
    goal.unvisited-number_exprs-loop-expr l × SoFar TExpr bare_expr expr_numbers l.initial.exprs l.exprs l.expr-index l.initial.counts l.counts

abbrev pub decreases-number_pointers : goal.decreases-number_pointers
decreases-number_pointers l = 10 * size-TExpr l.expr.now

abbrev pub decreases-number_several : goal.decreases-number_several
decreases-number_several l = 10 * size-TExpr l.expr.now + 1

abbrev pub decreases-number_unary : goal.decreases-number_unary
decreases-number_unary l = 10 * size-TExpr l.expr.now + 2

abbrev pub decreases-number_call : goal.decreases-number_call
decreases-number_call l = 10 * size-TExpr l.expr.now + 3

abbrev pub decreases-number_operands : goal.decreases-number_operands
decreases-number_operands l = 10 * size-TExpr l.expr.now + 4

abbrev pub decreases-number_expr : goal.decreases-number_expr
decreases-number_expr l = 10 * size-TExpr l.expr.now + 5

abbrev pub decreases-number_boxed : goal.decreases-number_boxed
decreases-number_boxed l = 10 * size-TExpr l.expr.now + 6

abbrev pub decreases-number_exprs : goal.decreases-number_exprs
decreases-number_exprs l = 10 * goal.size-number_exprs l + 6

abbrev pub decreases-number_pair : goal.decreases-number_pair
decreases-number_pair l = 10 * max (size-TExpr l.left.now) (size-TExpr l.right.now) + 7

abbrev pub decreases-give_one : goal.decreases-give_one
decreases-give_one l = 10 * size-TExpr l.of.now + 7

abbrev pub decreases-give_two : goal.decreases-give_two
decreases-give_two l = 10 * max (size-TExpr l.left.now) (size-TExpr l.right.now) + 8

abbrev pub decreases-give_three : goal.decreases-give_three
decreases-give_three l = 10 * max (size-TExpr l.test.now) (max (size-TExpr l.first.now) (size-TExpr l.second.now)) + 8
