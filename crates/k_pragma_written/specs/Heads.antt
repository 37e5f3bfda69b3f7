-- Believed with the theorem on the top call.
-- A canonical loop of OpenMP (OpenMP 5.0, 2.9.1), as it is written: the variable that it counts stands bare in its first part, its test and its step.
use Rattle.std.specs.Prelude.{ℕ, nat_eq, Bool, true, false, ◌&&◌, List, [], ◌∷◌, Option, Some, None}
use Rattle.std.specs.Cmp.Lexicographic.{pointwise}
use Rattle.k_tree.specs.declared.tokens.mark.Mark.{Mark}
use Rattle.k_tree.specs.declared.tokens.mark.Mark.TheVariants.{Equal}
use Rattle.k_tree.specs.declared.tree.declaration.Declarator.{Declarator}
use Rattle.k_tree.specs.declared.tree.declaration.Init.{Init, out-Init}
use Rattle.k_tree.specs.declared.tree.declaration.Init.TheOpen.{Init-F}
use Rattle.k_tree.specs.declared.tree.expression.Expr.{Expr, out-Expr}
use Rattle.k_tree.specs.declared.tree.expression.Expr.TheOpen.{Expr-F}
use Rattle.k_tree.specs.declared.tree.statement.First.{First}
use Rattle.k_tree.specs.declared.tree.statement.First.TheVariants as first

-- the expression is this name
abbrev pub name_step : List ℕ → Expr-F Expr → Bool
name_step name (Expr-F.Name place it) = pointwise nat_eq it name
name_step name _ = false

-- the expression is this name, without parentheses
abbrev pub is_name : List ℕ → Expr → Bool
is_name name e = name_step name (out-Expr e)

-- a binary expression with this name on the left
abbrev pub test_step : List ℕ → Expr-F Expr → Bool
test_step name (Expr-F.Binary place op left right) = is_name name left
test_step name _ = false

-- the same of an expression
abbrev pub tests : List ℕ → Expr → Bool
tests name e = test_step name (out-Expr e)

-- `i ++`, `i --`, `++ i`, `-- i`, or an assignment to i, of this name i
abbrev pub step_step : List ℕ → Expr-F Expr → Bool
step_step name (Expr-F.Post place op operand) = is_name name operand
step_step name (Expr-F.Pre place op operand) = is_name name operand
step_step name (Expr-F.Assign place op left right) = is_name name left
step_step name _ = false

-- the same of an expression
abbrev pub steps : List ℕ → Expr → Bool
steps name e = step_step name (out-Expr e)

-- THE TEST is `i op e`, of this name i
abbrev pub is_tested : List ℕ → Option Expr → Bool
is_tested name None = false
is_tested name (Some test) = tests name test

-- THE STEP is of this name
abbrev pub is_stepped : List ℕ → Option Expr → Bool
is_stepped name None = false
is_stepped name (Some step) = steps name step

-- test and step are of this name
abbrev pub goes_on : List ℕ → Option Expr → Option Expr → Bool
goes_on name test step = is_tested name test && is_stepped name step

-- an expression is a name of which test and step are
abbrev pub counted_step : Option Expr → Option Expr → Expr-F Expr → Bool
counted_step test step (Expr-F.Name place name) = goes_on name test step
counted_step test step _ = false

-- the same of an expression
abbrev pub counts : Expr → Option Expr → Option Expr → Bool
counts left test step = counted_step test step (out-Expr left)

-- an assignment `=` to such a name
abbrev pub begun_by : Option Expr → Option Expr → Mark → Expr → Bool
begun_by test step Equal left = counts left test step
begun_by test step _ left = false

-- THE FIRST PART is `i = e`
abbrev pub begin_step : Option Expr → Option Expr → Expr-F Expr → Bool
begin_step test step (Expr-F.Assign place op left right) = begun_by test step op left
begin_step test step _ = false

-- the same of an expression
abbrev pub begins : Expr → Option Expr → Option Expr → Bool
begins value test step = begin_step test step (out-Expr value)

-- an initialiser is an expression
abbrev pub value_step : Init-F Init → Bool
value_step (Init-F.One place value) = true
value_step _ = false

-- the same of an initialiser that may be left out
abbrev pub is_value : Option Init → Bool
is_value None = false
is_value (Some init) = value_step (out-Init init)

-- THE FIRST PART is one declarator `i = e`, with no other beside it
abbrev pub declares : List Declarator → Option Expr → Option Expr → Bool
declares (d ∷ []) test step = is_value d.init && goes_on d.name test step
declares _ test step = false

-- THE HEAD OF A `for` is of one variable, which is spelled bare wherever the head speaks of it
abbrev pub is_bare : First → Option Expr → Option Expr → Bool
is_bare first.Nothing test step = false
is_bare (first.Value value) test step = begins value test step
is_bare (first.Declare specs list) test step = declares list test step
