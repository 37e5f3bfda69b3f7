-- Believed with a public law.
-- The rank of an expression, by its form alone (C17 6.5).
use Rattle.std.specs.Prelude.{ℕ, Option, Some, None}
use Rattle.k_tree.specs.declared.tree.expression.Expr.{Expr, fold-Expr}
use Rattle.k_tree.specs.declared.tree.expression.Expr.TheOpen.{Expr-F}
use Rattle.k_tree.specs.Ranked.{binary_rank}

-- the rank of an operator, 0 for a mark that is none
abbrev pub rank_or_zero : Option ℕ → ℕ
rank_or_zero None = 0
rank_or_zero (Some n) = n

-- C17 6.5: the highest rank that the form of an expression gives it
abbrev pub rank_step : Expr-F ℕ → ℕ
rank_step (Expr-F.Name place name) = 16
rank_step (Expr-F.Number place kind value) = 16
rank_step (Expr-F.Char place value) = 16
rank_step (Expr-F.Str place bytes) = 16
rank_step (Expr-F.Paren place inner) = 16
rank_step (Expr-F.Index place base index) = 15
rank_step (Expr-F.Call place name args) = 15
rank_step (Expr-F.Post place op operand) = 15
rank_step (Expr-F.Pre place op operand) = 14
rank_step (Expr-F.Unary place op operand) = 14
rank_step (Expr-F.SizeofExpr place operand) = 14
rank_step (Expr-F.SizeofType place specs stars) = 14
rank_step (Expr-F.Cast place specs stars operand) = 13
rank_step (Expr-F.Binary place op left right) = rank_or_zero (binary_rank op)
rank_step (Expr-F.Cond place test chosen other) = 2
rank_step (Expr-F.Assign place op left right) = 1
rank_step (Expr-F.Comma place left right) = 0

-- C17 6.5: the rank of an expression, from 0, the comma, to 16, what needs no parentheses
abbrev pub rank_of : Expr → ℕ
rank_of = fold-Expr ℕ rank_step
