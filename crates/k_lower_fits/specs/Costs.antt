-- Believed with a public law.
-- How many registers and instructions a typed function may take, by its constructs. Registers are those of the variables and,
-- above them, those of temporary values: the left operand goes into the first that is free and the right one into the next,
-- arguments go one after the other, and a conversion stays in the register of its operand. The counts of instructions are upper
-- bounds, with room.
use Rattle.std.specs.Prelude.{ℕ, ◌+◌, ◌*◌, max, List, [], ◌∷◌, map, length, Option, Some, None}
use Rattle.k_types_meaning.specs.declared.tree.declaration.TDeclarator.{TDeclarator}
use Rattle.k_types_meaning.specs.declared.tree.declaration.TInit.{TInit}
use Rattle.k_types_meaning.specs.declared.tree.declaration.TInit.TheVariants as begins
use Rattle.k_types_meaning.specs.declared.tree.declaration.TItem.{TItem}
use Rattle.k_types_meaning.specs.declared.tree.declaration.TItem.TheVariants as item
use Rattle.k_types_meaning.specs.declared.tree.expression.TExpr.{TExpr, fold-TExpr}
use Rattle.k_types_meaning.specs.declared.tree.expression.TExpr.TheOpen.{TExpr-F}
use Rattle.k_types_meaning.specs.declared.tree.statement.TFirst.{TFirst}
use Rattle.k_types_meaning.specs.declared.tree.statement.TFirst.TheVariants as first
use Rattle.k_types_meaning.specs.declared.tree.statement.TStmt.{TStmt, fold-TStmt}
use Rattle.k_types_meaning.specs.declared.tree.statement.TPart.TheOpen.{TPart-F, TStmt-F}
use Rattle.k_types_meaning.specs.declared.tree.unit.TFunc.{TFunc}

-- so many registers above those in use, and so many instructions
pub record Cost : Type 0 where
  pub registers : ℕ
  pub instructions : ℕ

-- THE TABLE of instructions: at most so many are of a construct itself.
-- an expression but for a conversion: at most a load, two conversions, an operation, a conversion back and a store; of `?:`, `&&`
-- and `||` a saved control source, a test, two moves and two jumps
abbrev pub of_expression : ℕ
of_expression = 16

-- a conversion that the source does not write
abbrev pub of_conversion : ℕ
of_conversion = 4

-- a statement: regions, saved control sources, a test, jumps, and closed objects where it is left
abbrev pub of_statement : ℕ
of_statement = 64

-- a part of a switch: of a case a comparison and a test
abbrev pub of_part : ℕ
of_part = 16

-- a declared variable: its object is opened and filled, and a scope lies around the rest of its block
abbrev pub of_declarator : ℕ
of_declarator = 32

-- an item of braces: an address and a store
abbrev pub of_item : ℕ
of_item = 4

-- a parameter: its object is opened, and what arrived is stored
abbrev pub of_parameter : ℕ
of_parameter = 16

-- a function: what it ends with
abbrev pub of_function : ℕ
of_function = 16

-- nothing
abbrev pub free : Cost
free = record { registers = 0; instructions = 0 }

-- one behind the other: their registers serve again
abbrev pub then_ : Cost → Cost → Cost
then_ a b = record { registers = max a.registers b.registers; instructions = a.instructions + b.instructions }

-- the second while the first keeps a register
abbrev pub above : Cost → Cost → Cost
above a b = record { registers = max a.registers (1 + b.registers); instructions = a.instructions + b.instructions }

-- so many instructions of its own
abbrev pub and_own : ℕ → Cost → Cost
and_own own a = record a { instructions = own + a.instructions }

-- at least so many registers
abbrev pub with_registers : ℕ → Cost → Cost
with_registers least a = record a { registers = max least a.registers }

-- arguments, each of which keeps a register
abbrev pub arguments : List Cost → Cost
arguments [] = free
arguments (a ∷ as_) = above a (arguments as_)

-- some behind each other
abbrev pub in_row : List Cost → Cost
in_row [] = free
in_row (a ∷ as_) = then_ a (in_row as_)

-- an expression with these operands
abbrev pub expression : Cost → Cost
expression operands = and_own of_expression (with_registers 1 operands)

-- a change of a place: the address, the old value, and the new one; where it gives the old value, that stands before them
abbrev pub change : Cost → Cost
change operands = and_own of_expression (with_registers 4 operands)

-- C17 6.5: what an expression takes, of whose operands it is known
abbrev pub expr_cost_step : TExpr-F Cost → Cost
expr_cost_step (TExpr-F.Number node value) = expression free
expr_cost_step (TExpr-F.Str node string bytes) = expression free
expr_cost_step (TExpr-F.Object node object) = expression free
expr_cost_step (TExpr-F.Variable node variable) = expression free
expr_cost_step (TExpr-F.Index node base index) = expression (above base index)
expr_cost_step (TExpr-F.Call node function args) = expression (arguments args)
expr_cost_step (TExpr-F.Getchar node) = expression free
expr_cost_step (TExpr-F.Putchar node of) = expression of
expr_cost_step (TExpr-F.Puts node of) = expression of
expr_cost_step (TExpr-F.Printf node format args) = expression (arguments args)
expr_cost_step (TExpr-F.Post node by of) = change (above free of)
expr_cost_step (TExpr-F.Pre node by of) = change of
expr_cost_step (TExpr-F.Address node of) = expression of
expr_cost_step (TExpr-F.Deref node of) = expression of
expr_cost_step (TExpr-F.Plus node of) = expression of
expr_cost_step (TExpr-F.Unary node op kind of) = expression of
expr_cost_step (TExpr-F.Convert node of) = and_own of_conversion of
expr_cost_step (TExpr-F.Cast node of) = expression of
expr_cost_step (TExpr-F.Binary node op kind left right) = expression (above left right)
expr_cost_step (TExpr-F.Both node left right) = expression (above left right)
expr_cost_step (TExpr-F.Either node left right) = expression (above left right)
expr_cost_step (TExpr-F.Forward node left right) = expression (above left right)
expr_cost_step (TExpr-F.Onto node left right) = expression (above left right)
expr_cost_step (TExpr-F.Back node left right) = expression (above left right)
expr_cost_step (TExpr-F.PtrCompare node op left right) = expression (above left right)
expr_cost_step (TExpr-F.PtrDistance node left right) = expression (above left right)
expr_cost_step (TExpr-F.Cond node test a b) = expression (then_ test (then_ a b))
expr_cost_step (TExpr-F.Assign node left right) = expression (above left right)
expr_cost_step (TExpr-F.AssignBy node by left right) = change (above left right)
expr_cost_step (TExpr-F.Comma node left right) = expression (above left right)

-- C17 6.5: what an expression takes
abbrev pub expr_cost : TExpr → Cost
expr_cost = fold-TExpr Cost expr_cost_step

-- what an expression takes that may be left out
abbrev pub option_cost : Option TExpr → Cost
option_cost None = free
option_cost (Some e) = expr_cost e

-- C17 6.7.9: what an item of braces takes: the address of its element stays while its value is made
abbrev pub item_cost : TItem → Cost
item_cost (item.Bytes element bytes) = free
item_cost (item.Value place element e) = and_own of_item (above free (expr_cost e))

-- C17 6.7.9: what an initialiser takes
abbrev pub init_cost : TInit → Cost
init_cost begins.Nothing = free
init_cost (begins.Value e) = and_own of_item (above free (expr_cost e))
init_cost (begins.Elements items) = in_row (map item_cost items)

-- C17 6.7: what declared variables take
abbrev pub declared_cost : List TDeclarator → Cost
declared_cost [] = free
declared_cost (d ∷ list) = then_ (and_own of_declarator (init_cost d.init)) (declared_cost list)

-- C17 6.8.5.3: what the first part of a `for` takes
abbrev pub first_cost : TFirst → Cost
first_cost first.Nothing = free
first_cost (first.Value e) = expr_cost e
first_cost (first.Declare list) = declared_cost list

-- what a statement takes that may be left out
abbrev pub cost_or_free : Option Cost → Cost
cost_or_free None = free
cost_or_free (Some c) = c

-- C17 6.8: what a statement takes, of whose statements and parts it is known
abbrev pub stmt_cost_step : TStmt-F Cost Cost → Cost
stmt_cost_step (TStmt-F.Expr spot e) = and_own of_statement (expr_cost e)
stmt_cost_step (TStmt-F.Empty spot) = and_own of_statement free
stmt_cost_step (TStmt-F.Block spot parts) = and_own of_statement (in_row parts)
stmt_cost_step (TStmt-F.If spot test a b) = and_own of_statement (then_ (expr_cost test) (then_ a (cost_or_free b)))
stmt_cost_step (TStmt-F.While spot number test body) = and_own of_statement (then_ (expr_cost test) body)
stmt_cost_step (TStmt-F.DoWhile spot number body test) = and_own of_statement (then_ body (expr_cost test))
stmt_cost_step (TStmt-F.For spot number start test step body) =
    and_own of_statement (then_ (first_cost start) (then_ (option_cost test) (then_ (option_cost step) body)))
stmt_cost_step (TStmt-F.Switch spot kind on parts) = and_own of_statement (then_ (above free (expr_cost on)) (in_row parts))
stmt_cost_step (TStmt-F.Break spot) = and_own of_statement free
stmt_cost_step (TStmt-F.Continue spot) = and_own of_statement free
stmt_cost_step (TStmt-F.Return spot value) = and_own of_statement (option_cost value)
stmt_cost_step (TStmt-F.Declare spot list) = and_own of_statement (declared_cost list)

-- C17 6.8.4.2: what a part of a switch takes, of whose statement it is known
abbrev pub part_cost_step : TPart-F Cost Cost → Cost
part_cost_step (TPart-F.Case place value) = and_own of_part (with_registers 2 free)
part_cost_step (TPart-F.Default place) = and_own of_part free
part_cost_step (TPart-F.Does place s) = s

-- C17 6.8: what a statement takes
abbrev pub stmt_cost : TStmt → Cost
stmt_cost = fold-TStmt Cost Cost part_cost_step stmt_cost_step

-- what the block of a function takes
abbrev pub body_cost : List TStmt → Cost
body_cost body = in_row (map stmt_cost body)

-- the registers of a function: one for each variable, one for the address of a parameter's object, and those of temporary values
abbrev pub registers_of : TFunc → ℕ
registers_of f = length f.variables + max 1 (body_cost f.body).registers

-- the instructions of a function, at most
abbrev pub instructions_of : TFunc → ℕ
instructions_of f = of_function + of_parameter * f.params + (body_cost f.body).instructions
