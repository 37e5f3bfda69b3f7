-- Believed with the theorem on the top call.
-- *Evaluation* of expressions: what each means, by what its operands mean (C17 6.5). Each row of the table is a function of its own: see
-- `Places`, `Operators`, `Assignments` and `Library`.
use Rattle.std.specs.Prelude.{ℕ, List}
use Rattle.k_num.specs.declared.place.Place.{Place}
use Rattle.k_types_meaning.specs.declared.tree.expression.Node.{Node}
use Rattle.k_types_meaning.specs.declared.tree.expression.TExpr.{TExpr, fold-TExpr}
use Rattle.k_types_meaning.specs.declared.tree.expression.TExpr.TheOpen.{TExpr-F}
use Rattle.k_types_meaning.specs.declared.tree.unit.TVariable.{TVariable}
use Rattle.k_evaluation.specs.declared.operand.Operand.{Operand}
use Rattle.k_evaluation.specs.States.{Program, Part, ◌>>=◌}
use Rattle.k_evaluation.specs.Meanings.{Meaning, only_value, in_turn}
use Rattle.k_evaluation.specs.Places.{number, string, object, variable, index, deref, address, forward, back, onto}
use Rattle.k_evaluation.specs.Operators.{plus, unary, convert, cast, binary, compare, distance, both, either, cond, comma}
use Rattle.k_evaluation.specs.Assignments.{assign, assign_by, pre, post}
use Rattle.k_evaluation.specs.Library.{getchar, putchar, puts, printf}

-- the calls of the functions of a program: of the one of this number, at this place, with these arguments
abbrev pub Calls : Type 0
Calls = ℕ → Place → List Operand → Part Operand

-- CALL: the arguments, then the call (C17 6.5.2.2)
unfoldable pub call : Calls → Node → ℕ → List Meaning → Meaning
call calls node f args = only_value node (λ used. in_turn args >>= calls f node.place)

-- an expression, of whose operands it is known what they mean, in a function with these variables
abbrev pub eval_step : Program → List TVariable → Calls → TExpr-F Meaning → Meaning
eval_step program vs calls (TExpr-F.Number node z) = number node z
eval_step program vs calls (TExpr-F.Str node n bytes) = string program node n bytes
eval_step program vs calls (TExpr-F.Object node n) = object program node n
eval_step program vs calls (TExpr-F.Variable node n) = variable program vs node n
eval_step program vs calls (TExpr-F.Index node a b) = index program node a b
eval_step program vs calls (TExpr-F.Call node f args) = call calls node f args
eval_step program vs calls (TExpr-F.Getchar node) = getchar program node
eval_step program vs calls (TExpr-F.Putchar node a) = putchar program node a
eval_step program vs calls (TExpr-F.Puts node a) = puts program node a
eval_step program vs calls (TExpr-F.Printf node format args) = printf program node format args
eval_step program vs calls (TExpr-F.Post node change a) = post program node change a
eval_step program vs calls (TExpr-F.Pre node change a) = pre program node change a
eval_step program vs calls (TExpr-F.Address node a) = address node a
eval_step program vs calls (TExpr-F.Deref node a) = deref program node a
eval_step program vs calls (TExpr-F.Plus node a) = plus node a
eval_step program vs calls (TExpr-F.Unary node op kind a) = unary program node op kind a
eval_step program vs calls (TExpr-F.Convert node a) = convert program node a
eval_step program vs calls (TExpr-F.Cast node a) = cast program node a
eval_step program vs calls (TExpr-F.Binary node op kind a b) = binary program node op kind a b
eval_step program vs calls (TExpr-F.Both node a b) = both program node a b
eval_step program vs calls (TExpr-F.Either node a b) = either program node a b
eval_step program vs calls (TExpr-F.Forward node a b) = forward program node a b
eval_step program vs calls (TExpr-F.Onto node a b) = onto program node a b
eval_step program vs calls (TExpr-F.Back node a b) = back program node a b
eval_step program vs calls (TExpr-F.PtrCompare node op a b) = compare program node op a b
eval_step program vs calls (TExpr-F.PtrDistance node a b) = distance program node a b
eval_step program vs calls (TExpr-F.Cond node a b c) = cond program node a b c
eval_step program vs calls (TExpr-F.Assign node a b) = assign program node a b
eval_step program vs calls (TExpr-F.AssignBy node change a b) = assign_by program node change a b
eval_step program vs calls (TExpr-F.Comma node a b) = comma node a b

-- what an expression means
abbrev pub eval : Program → List TVariable → Calls → TExpr → Meaning
eval program vs calls = fold-TExpr Meaning (eval_step program vs calls)
