-- For contracts between crates: nobody has to believe it.
-- Which forms of expressions a step of judging is for.
use Rattle.std.specs.Prelude.{Bool, true, false}
use Rattle.k_tree.specs.declared.tree.expression.Expr.{Expr, out-Expr}
use Rattle.k_tree.specs.declared.tree.expression.Expr.TheOpen.{Expr-F}

-- an operator on operands stands outermost in an expression, by its form
abbrev pub has_operator_at : Expr-F Expr → Bool
has_operator_at (Expr-F.Name p x) = false
has_operator_at (Expr-F.Number p kind n) = false
has_operator_at (Expr-F.Char p z) = false
has_operator_at (Expr-F.Str p bytes) = false
has_operator_at (Expr-F.SizeofType p specs stars) = false
has_operator_at (Expr-F.Paren p a) = false
has_operator_at (Expr-F.Call p f args) = false
has_operator_at x = true

-- an operator on operands stands outermost in an expression
abbrev pub has_operator : Expr → Bool
has_operator e = has_operator_at (out-Expr e)

-- an operator stands between the operands of an expression, by its form
abbrev pub has_infix_at : Expr-F Expr → Bool
has_infix_at (Expr-F.Binary p op a b) = true
has_infix_at (Expr-F.Cond p a b c) = true
has_infix_at (Expr-F.Assign p op a b) = true
has_infix_at (Expr-F.Comma p a b) = true
has_infix_at x = false

-- an operator stands between the operands of an expression
abbrev pub has_infix : Expr → Bool
has_infix e = has_infix_at (out-Expr e)
