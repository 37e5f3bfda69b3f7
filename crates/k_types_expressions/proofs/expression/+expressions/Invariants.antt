use Rattle.std.proofs.Common.{◌+◌, ◌*◌, map}
use Rattle.k_tree.specs.declared.tree.expression.Expr.{size-Expr}
use Rattle.k_types_meaning.specs.Expressions.{judge}
use Rattle.k_types_meaning.specs.Made.{all_made}
use Rattle.k_types_expressions.proofs.Passing.{Judges}
use Rattle.k_types_expressions.proofs.expression.+expressions.Given as goal

abbrev pub invariant-judge_all-loop-expr : goal.invariant-judge_all-loop-expr
invariant-judge_all-loop-expr l =
    Judges l.names l.all.items l.expr-items l.expr-index (all_made (map (judge l.names) l.exprs)) l.fn.taken l.taken

abbrev pub decreases-judge_infix : goal.decreases-judge_infix
decreases-judge_infix a = 8 * size-Expr a.expr.now

abbrev pub decreases-judge_operator : goal.decreases-judge_operator
decreases-judge_operator a = 8 * size-Expr a.expr.now + 1

abbrev pub decreases-judge : goal.decreases-judge
decreases-judge a = 8 * size-Expr a.expr.now + 2

abbrev pub decreases-judge_all : goal.decreases-judge_all
decreases-judge_all a = 8 * goal.size-judge_all a + 3
