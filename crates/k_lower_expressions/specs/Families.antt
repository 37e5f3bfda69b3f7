-- For contracts between crates: nobody has to believe it.
-- Families of expressions whose values are emitted by one function after the other.
use Rattle.std.specs.Prelude.{Bool, true, false}
use Rattle.k_types_meaning.specs.declared.tree.expression.TExpr.{TExpr, out-TExpr}
use Rattle.k_types_meaning.specs.declared.tree.expression.TExpr.TheOpen.{TExpr-F}

-- C17 6.5.5 to 6.5.12: a binary operator takes the values of both operands, by the form of an expression
abbrev pub computes_at : TExpr-F TExpr → Bool
computes_at (TExpr-F.Binary node op kind a b) = true
computes_at (TExpr-F.Forward node a b) = true
computes_at (TExpr-F.Onto node a b) = true
computes_at (TExpr-F.Back node a b) = true
computes_at (TExpr-F.PtrCompare node op a b) = true
computes_at (TExpr-F.PtrDistance node a b) = true
computes_at x = false

-- an expression has such an operator
abbrev pub computes : TExpr → Bool
computes e = computes_at (out-TExpr e)

-- C17 6.5.2.4, 6.5.3.1, 6.5.16: or the place of the first operand is written to
abbrev pub assigns_or_computes_at : TExpr-F TExpr → Bool
assigns_or_computes_at (TExpr-F.Post node change a) = true
assigns_or_computes_at (TExpr-F.Pre node change a) = true
assigns_or_computes_at (TExpr-F.Assign node a b) = true
assigns_or_computes_at (TExpr-F.AssignBy node change a b) = true
assigns_or_computes_at x = computes_at x

-- an expression is one of these
abbrev pub assigns_or_computes : TExpr → Bool
assigns_or_computes e = assigns_or_computes_at (out-TExpr e)

-- C17 6.5.2.2: or a function is called, of the source or of the library
abbrev pub calls_or_computes_at : TExpr-F TExpr → Bool
calls_or_computes_at (TExpr-F.Call node f args) = true
calls_or_computes_at (TExpr-F.Getchar node) = true
calls_or_computes_at (TExpr-F.Putchar node a) = true
calls_or_computes_at (TExpr-F.Puts node a) = true
calls_or_computes_at (TExpr-F.Printf node format args) = true
calls_or_computes_at x = assigns_or_computes_at x

-- an expression is one of these
abbrev pub calls_or_computes : TExpr → Bool
calls_or_computes e = calls_or_computes_at (out-TExpr e)
