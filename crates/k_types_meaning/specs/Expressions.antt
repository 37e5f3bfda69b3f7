-- Believed with the theorem on the top call.
-- *Typing* of expressions, from their parts up: an operand is judged before the expression that it stands in (C17 6.5).
use Rattle.k_tree.specs.declared.tree.expression.Expr.{Expr, fold-Expr}
use Rattle.k_tree.specs.declared.tree.expression.Expr.TheOpen.{Expr-F}
use Rattle.k_types_meaning.specs.CallRules.{call_rule}
use Rattle.k_types_meaning.specs.Conversions.{Typed}
use Rattle.k_types_meaning.specs.Made.{Made, both, three, then_made, all_made}
use Rattle.k_types_meaning.specs.Names.{Names}
use Rattle.k_types_meaning.specs.Operands.{name_rule, number_rule, char_rule, string_rule, index_rule, unary_rule, post_rule, pre_rule, sizeof_rule, sizeof_type_rule, cast_rule}
use Rattle.k_types_meaning.specs.Operators.{binary_rule, cond_rule, assign_rule, comma_rule}

-- an expression whose operands are judged: their faults, or else its rule
abbrev pub judge_step : Names → Expr-F (Made Typed) → Made Typed
judge_step names (Expr-F.Name p x) = name_rule names p x
judge_step names (Expr-F.Number p kind n) = number_rule p kind n
judge_step names (Expr-F.Char p z) = char_rule p z
judge_step names (Expr-F.Str p bytes) = string_rule p bytes
judge_step names (Expr-F.Paren p e) = e
judge_step names (Expr-F.Index p base index) = both base index (index_rule p)
judge_step names (Expr-F.Call p x args) = then_made (all_made args) (call_rule names p x)
judge_step names (Expr-F.Post p op e) = then_made e (post_rule p op)
judge_step names (Expr-F.Pre p op e) = then_made e (pre_rule p op)
judge_step names (Expr-F.Unary p op e) = then_made e (unary_rule p op)
judge_step names (Expr-F.SizeofExpr p e) = then_made e (sizeof_rule p)
judge_step names (Expr-F.SizeofType p specs stars) = sizeof_type_rule p specs stars
judge_step names (Expr-F.Cast p specs stars e) = then_made e (cast_rule p specs stars)
judge_step names (Expr-F.Binary p op left right) = both left right (binary_rule p op)
judge_step names (Expr-F.Cond p test first second) = three test first second (cond_rule p)
judge_step names (Expr-F.Assign p op left right) = both left right (assign_rule p op)
judge_step names (Expr-F.Comma p left right) = both left right (comma_rule p)

-- an expression where these names are known: what is made of it, or its faults
abbrev pub judge : Names → Expr → Made Typed
judge names = fold-Expr (Made Typed) (judge_step names)
