use Rattle.std.proofs.Common.{◌≡◌, ◌++◌, ◌+◌, ◌*◌, map, drop, max}
use Rattle.k_tree.specs.Spelling.{spell_expr, behind_commas, with_commas}
use Rattle.k_tree.specs.declared.tree.expression.Expr.{size-Expr}
use Rattle.k_tree_spelling.proofs.printer.Printer.+expressions.Given as goal

abbrev pub invariant-args-loop-arg : goal.invariant-args-loop-arg
invariant-args-loop-arg l =
    l.self.tokens ++ behind_commas (map spell_expr (drop l.arg-index l.rest))
    ≡ l.fn.self.tokens ++ with_commas (map spell_expr l.args)

abbrev pub decreases-expr : goal.decreases-expr
decreases-expr l = 3 * size-Expr l.expr.now

abbrev pub decreases-expr_in_parens : goal.decreases-expr_in_parens
decreases-expr_in_parens l = 3 * size-Expr l.expr.now + 1

abbrev pub decreases-postfix : goal.decreases-postfix
decreases-postfix l = 3 * size-Expr l.of.now + 1

abbrev pub decreases-behind : goal.decreases-behind
decreases-behind l = 3 * size-Expr l.of.now + 1

abbrev pub decreases-sizeof_expr : goal.decreases-sizeof_expr
decreases-sizeof_expr l = 3 * size-Expr l.of.now + 1

abbrev pub decreases-cast : goal.decreases-cast
decreases-cast l = 3 * size-Expr l.of.now + 1

abbrev pub decreases-args : goal.decreases-args
decreases-args l = 3 * goal.size-args l + 1

abbrev pub decreases-call : goal.decreases-call
decreases-call l = 3 * goal.size-call l + 2

abbrev pub decreases-index : goal.decreases-index
decreases-index l = 3 * max (size-Expr l.base.now) (size-Expr l.index.now) + 2

abbrev pub decreases-joined : goal.decreases-joined
decreases-joined l = 3 * max (size-Expr l.left.now) (size-Expr l.right.now) + 2

abbrev pub decreases-conditional : goal.decreases-conditional
decreases-conditional l = 3 * max (size-Expr l.test.now) (max (size-Expr l.then.now) (size-Expr l.other.now)) + 2
