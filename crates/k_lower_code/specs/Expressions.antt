-- Believed with a public law.
-- How expressions are lowered, by how their operands are. Each row is a function of its own: see `Places`, `Operators`, `Assignments` and
-- `Library`.
use Rattle.std.specs.Prelude.{List}
use Rattle.k_types_meaning.specs.declared.tree.expression.TExpr.{TExpr, fold-TExpr}
use Rattle.k_types_meaning.specs.declared.tree.expression.TExpr.TheOpen.{TExpr-F}
use Rattle.k_types_meaning.specs.declared.tree.unit.TVariable.{TVariable}
use Rattle.k_evaluation.specs.States.{Program}
use Rattle.k_lower_code.specs.Assignments.{assign, assign_by, pre, post}
use Rattle.k_lower_code.specs.Library.{getchar, putchar, puts, printf, call}
use Rattle.k_lower_code.specs.Lowered.{Lowered}
use Rattle.k_lower_code.specs.Operators.{plus, unary, convert, cast, binary, compare, distance, both, either, cond, comma}
use Rattle.k_lower_code.specs.Places.{number, string, object, variable, index, deref, address, forward, back, onto}

-- an expression, of whose operands it is known how they are lowered, in a function with these variables
abbrev pub lower_step : Program → List TVariable → TExpr-F Lowered → Lowered
lower_step program vs (TExpr-F.Number node z) = number node z
lower_step program vs (TExpr-F.Str node n bytes) = string program node n bytes
lower_step program vs (TExpr-F.Object node n) = object program node n
lower_step program vs (TExpr-F.Variable node n) = variable program vs node n
lower_step program vs (TExpr-F.Index node a b) = index program node a b
lower_step program vs (TExpr-F.Call node f args) = call program node f args
lower_step program vs (TExpr-F.Getchar node) = getchar program node
lower_step program vs (TExpr-F.Putchar node a) = putchar program node a
lower_step program vs (TExpr-F.Puts node a) = puts program node a
lower_step program vs (TExpr-F.Printf node format args) = printf program node format args
lower_step program vs (TExpr-F.Post node change a) = post program node change a
lower_step program vs (TExpr-F.Pre node change a) = pre program node change a
lower_step program vs (TExpr-F.Address node a) = address node a
lower_step program vs (TExpr-F.Deref node a) = deref program node a
lower_step program vs (TExpr-F.Plus node a) = plus node a
lower_step program vs (TExpr-F.Unary node op kind a) = unary program node op kind a
lower_step program vs (TExpr-F.Convert node a) = convert program node a
lower_step program vs (TExpr-F.Cast node a) = cast program node a
lower_step program vs (TExpr-F.Binary node op kind a b) = binary program node op kind a b
lower_step program vs (TExpr-F.Both node a b) = both program node a b
lower_step program vs (TExpr-F.Either node a b) = either program node a b
lower_step program vs (TExpr-F.Forward node a b) = forward program node a b
lower_step program vs (TExpr-F.Onto node a b) = onto program node a b
lower_step program vs (TExpr-F.Back node a b) = back program node a b
lower_step program vs (TExpr-F.PtrCompare node op a b) = compare program node op a b
lower_step program vs (TExpr-F.PtrDistance node a b) = distance program node a b
lower_step program vs (TExpr-F.Cond node a b c) = cond program node a b c
lower_step program vs (TExpr-F.Assign node a b) = assign program node a b
lower_step program vs (TExpr-F.AssignBy node change a b) = assign_by program node change a b
lower_step program vs (TExpr-F.Comma node a b) = comma node a b

-- how an expression is lowered
abbrev pub lowered : Program → List TVariable → TExpr → Lowered
lowered program vs = fold-TExpr Lowered (lower_step program vs)
