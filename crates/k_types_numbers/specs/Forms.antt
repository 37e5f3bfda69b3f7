-- For contracts between crates: nobody has to believe it.
-- Which forms of expressions and statements a step of numbering is for.
use Rattle.std.specs.Prelude.{Bool, true, false}
use Rattle.k_types_meaning.specs.declared.tree.expression.TExpr.{TExpr, out-TExpr}
use Rattle.k_types_meaning.specs.declared.tree.expression.TExpr.TheOpen.{TExpr-F}
use Rattle.k_types_meaning.specs.declared.tree.statement.TPart.{TPart}
use Rattle.k_types_meaning.specs.declared.tree.statement.TPart.TheOpen.{TStmt-F}
use Rattle.k_types_meaning.specs.declared.tree.statement.TStmt.{TStmt, out-TStmt}

-- an expression has operands, by its form
abbrev pub has_operands_at : TExpr-F TExpr → Bool
has_operands_at (TExpr-F.Number node value) = false
has_operands_at (TExpr-F.Str node n bytes) = false
has_operands_at (TExpr-F.Object node n) = false
has_operands_at (TExpr-F.Variable node n) = false
has_operands_at (TExpr-F.Getchar node) = false
has_operands_at x = true

-- an expression has operands
abbrev pub has_operands : TExpr → Bool
has_operands e = has_operands_at (out-TExpr e)

-- an expression has operands and is no call, by its form
abbrev pub is_operation_at : TExpr-F TExpr → Bool
is_operation_at (TExpr-F.Number node value) = false
is_operation_at (TExpr-F.Str node n bytes) = false
is_operation_at (TExpr-F.Object node n) = false
is_operation_at (TExpr-F.Variable node n) = false
is_operation_at (TExpr-F.Getchar node) = false
is_operation_at (TExpr-F.Call node f args) = false
is_operation_at (TExpr-F.Printf node format args) = false
is_operation_at (TExpr-F.Putchar node a) = false
is_operation_at (TExpr-F.Puts node a) = false
is_operation_at x = true

-- an expression has operands and is no call
abbrev pub is_operation : TExpr → Bool
is_operation e = is_operation_at (out-TExpr e)

-- an operation has several operands, by its form
abbrev pub has_several_at : TExpr-F TExpr → Bool
has_several_at (TExpr-F.Index node a b) = true
has_several_at (TExpr-F.Binary node op kind a b) = true
has_several_at (TExpr-F.Both node a b) = true
has_several_at (TExpr-F.Either node a b) = true
has_several_at (TExpr-F.Forward node a b) = true
has_several_at (TExpr-F.Onto node a b) = true
has_several_at (TExpr-F.Back node a b) = true
has_several_at (TExpr-F.PtrCompare node op a b) = true
has_several_at (TExpr-F.PtrDistance node a b) = true
has_several_at (TExpr-F.Cond node a b c) = true
has_several_at (TExpr-F.Assign node a b) = true
has_several_at (TExpr-F.AssignBy node change a b) = true
has_several_at (TExpr-F.Comma node a b) = true
has_several_at x = false

-- an operation has several operands
abbrev pub has_several : TExpr → Bool
has_several e = has_several_at (out-TExpr e)

-- an operation on several operands computes with pointers, by its form
abbrev pub is_on_pointers_at : TExpr-F TExpr → Bool
is_on_pointers_at (TExpr-F.Index node a b) = true
is_on_pointers_at (TExpr-F.Forward node a b) = true
is_on_pointers_at (TExpr-F.Onto node a b) = true
is_on_pointers_at (TExpr-F.Back node a b) = true
is_on_pointers_at (TExpr-F.PtrCompare node op a b) = true
is_on_pointers_at (TExpr-F.PtrDistance node a b) = true
is_on_pointers_at x = false

-- an operation on several operands computes with pointers
abbrev pub is_on_pointers : TExpr → Bool
is_on_pointers e = is_on_pointers_at (out-TExpr e)

-- C17 6.8.4, 6.8.5: a statement is a selection or a loop, by its form
abbrev pub selects_or_iterates_at : TStmt-F TPart TStmt → Bool
selects_or_iterates_at (TStmt-F.If spot test a b) = true
selects_or_iterates_at (TStmt-F.Switch spot kind on parts) = true
selects_or_iterates_at (TStmt-F.While spot turns test body) = true
selects_or_iterates_at (TStmt-F.DoWhile spot turns body test) = true
selects_or_iterates_at (TStmt-F.For spot turns start test step body) = true
selects_or_iterates_at x = false

-- C17 6.8.4, 6.8.5: a statement is a selection or a loop
abbrev pub selects_or_iterates : TStmt → Bool
selects_or_iterates e = selects_or_iterates_at (out-TStmt e)

-- C17 6.8.5: a statement is a loop, by its form
abbrev pub iterates_at : TStmt-F TPart TStmt → Bool
iterates_at (TStmt-F.While spot turns test body) = true
iterates_at (TStmt-F.DoWhile spot turns body test) = true
iterates_at (TStmt-F.For spot turns start test step body) = true
iterates_at x = false

-- C17 6.8.5: a statement is a loop
abbrev pub iterates : TStmt → Bool
iterates e = iterates_at (out-TStmt e)
