-- Believed with a public law.
-- What a typed function names is there in the flat code, its texts are short, and its jumps and declarations stand where they may.
-- A law over typing gives this of each function of a source without faults.
use Rattle.std.specs.Prelude.{ℕ, ◌+◌, nat_lt, nat_le, ◌&&◌, Bool, true, false, List, [], ◌∷◌, map, length, Option, Some, None}
use Rattle.k_types_meaning.specs.declared.tree.declaration.TDeclarator.{TDeclarator}
use Rattle.k_types_meaning.specs.declared.tree.declaration.TInit.{TInit}
use Rattle.k_types_meaning.specs.declared.tree.declaration.TInit.TheVariants as init
use Rattle.k_types_meaning.specs.declared.tree.declaration.TItem.{TItem}
use Rattle.k_types_meaning.specs.declared.tree.declaration.TItem.TheVariants as item
use Rattle.k_types_meaning.specs.declared.tree.expression.TExpr.{TExpr, fold-TExpr}
use Rattle.k_types_meaning.specs.declared.tree.expression.TExpr.TheOpen.{TExpr-F}
use Rattle.k_types_meaning.specs.declared.tree.statement.TFirst.{TFirst}
use Rattle.k_types_meaning.specs.declared.tree.statement.TFirst.TheVariants as first
use Rattle.k_types_meaning.specs.declared.tree.statement.TStmt.{TStmt, fold-TStmt}
use Rattle.k_types_meaning.specs.declared.tree.statement.TPart.TheOpen.{TPart-F, TStmt-F}
use Rattle.k_world.specs.declared.act.Out.TheVariants as out
use Rattle.k_code.specs.declared.code.Code.{Code}
use Rattle.k_code.specs.Named.{out_is_short}
use Rattle.k_evaluation.specs.Library.{chunk_of}
use Rattle.k_evaluation.specs.Loops.{loop_region}
use Rattle.k_evaluation.specs.Places.{string_number}
use Rattle.k_evaluation.specs.States.{Program}

-- all these are
abbrev pub all_named : List Bool → Bool
all_named [] = true
all_named (b ∷ bs) = b && all_named bs

-- an expression names what is there, of whose operands it is known: functions, file objects and strings; and its texts are short
abbrev pub expr_step : Program → Code → TExpr-F Bool → Bool
expr_step program code (TExpr-F.Number node z) = true
expr_step program code (TExpr-F.Str node n bytes) = nat_lt (string_number program n) (length code.objects) && nat_le (length bytes) 4194304
expr_step program code (TExpr-F.Object node n) = nat_lt n (length code.objects)
expr_step program code (TExpr-F.Variable node n) = true
expr_step program code (TExpr-F.Index node a b) = a && b
expr_step program code (TExpr-F.Call node f args) = nat_lt f (length code.funcs) && all_named args
expr_step program code (TExpr-F.Getchar node) = true
expr_step program code (TExpr-F.Putchar node a) = a
expr_step program code (TExpr-F.Puts node a) = a
expr_step program code (TExpr-F.Printf node format args) = out_is_short (out.Format (map chunk_of format)) && all_named args
expr_step program code (TExpr-F.Post node change a) = a
expr_step program code (TExpr-F.Pre node change a) = a
expr_step program code (TExpr-F.Address node a) = a
expr_step program code (TExpr-F.Deref node a) = a
expr_step program code (TExpr-F.Plus node a) = a
expr_step program code (TExpr-F.Unary node op kind a) = a
expr_step program code (TExpr-F.Convert node a) = a
expr_step program code (TExpr-F.Cast node a) = a
expr_step program code (TExpr-F.Binary node op kind a b) = a && b
expr_step program code (TExpr-F.Both node a b) = a && b
expr_step program code (TExpr-F.Either node a b) = a && b
expr_step program code (TExpr-F.Forward node a b) = a && b
expr_step program code (TExpr-F.Onto node a b) = a && b
expr_step program code (TExpr-F.Back node a b) = a && b
expr_step program code (TExpr-F.PtrCompare node op a b) = a && b
expr_step program code (TExpr-F.PtrDistance node a b) = a && b
expr_step program code (TExpr-F.Cond node a b c) = a && (b && c)
expr_step program code (TExpr-F.Assign node a b) = a && b
expr_step program code (TExpr-F.AssignBy node change a b) = a && b
expr_step program code (TExpr-F.Comma node a b) = a && b

-- an expression names what is there
abbrev pub expr_named : Program → Code → TExpr → Bool
expr_named program code = fold-TExpr Bool (expr_step program code)

-- so does one that may be left out
abbrev pub option_named : Program → Code → Option TExpr → Bool
option_named program code None = true
option_named program code (Some e) = expr_named program code e

-- an item of braces
abbrev pub item_named : Program → Code → TItem → Bool
item_named program code (item.Bytes n bytes) = true
item_named program code (item.Value place n e) = expr_named program code e

-- all items of braces
abbrev pub items_named : Program → Code → List TItem → Bool
items_named program code [] = true
items_named program code (i ∷ items) = item_named program code i && items_named program code items

-- an initialiser
abbrev pub init_named : Program → Code → TInit → Bool
init_named program code init.Nothing = true
init_named program code (init.Value e) = expr_named program code e
init_named program code (init.Elements items) = items_named program code items

-- declarators
abbrev pub declared_named : Program → Code → List TDeclarator → Bool
declared_named program code [] = true
declared_named program code (d ∷ ds) = init_named program code d.init && declared_named program code ds

-- the first part of a `for`
abbrev pub first_named : Program → Code → TFirst → Bool
first_named program code first.Nothing = true
first_named program code (first.Value e) = expr_named program code e
first_named program code (first.Declare list) = declared_named program code list

-- where a statement stands: whether a declaration may stand there, and whether a `break` and a `continue` have something to leave
pub record Where : Type 0 where
  pub declares : Bool
  pub breaks : Bool
  pub continues : Bool

-- the block of a function, and any other block
abbrev pub outermost : Where
outermost = record { declares = true; breaks = false; continues = false }

-- directly in a block there
abbrev pub in_block : Where → Where
in_block at = record at { declares = true }

-- in a statement there
abbrev pub in_statement : Where → Where
in_statement at = record at { declares = false }

-- in the body of a loop
abbrev pub in_loop : Where
in_loop = record { declares = false; breaks = true; continues = true }

-- among the parts of a switch there
abbrev pub in_switch : Where → Where
in_switch at = record at { declares = false; breaks = true }

-- all these are right there
abbrev pub all_right : Where → List (Where → Bool) → Bool
all_right at [] = true
all_right at (s ∷ ss) = s at && all_right at ss

-- what may be left out is right there
abbrev pub option_right : Where → Option (Where → Bool) → Bool
option_right at None = true
option_right at (Some s) = s at

-- the regions of a loop of this number, of the function of that one, are there
abbrev pub regions_there : Code → ℕ → ℕ → Bool
regions_there code function number = nat_lt (loop_region function number + 1) (length code.regions)

-- a statement is right where it stands, of whose statements and parts it is known
abbrev pub stmt_step : Program → Code → ℕ → TStmt-F (Where → Bool) (Where → Bool) → Where → Bool
stmt_step program code function (TStmt-F.Expr spot e) at = expr_named program code e
stmt_step program code function (TStmt-F.Empty spot) at = true
stmt_step program code function (TStmt-F.Block spot parts) at = all_right (in_block at) parts
stmt_step program code function (TStmt-F.If spot test a b) at =
    expr_named program code test && (a (in_statement at) && option_right (in_statement at) b)
stmt_step program code function (TStmt-F.While spot number test body) at =
    regions_there code function number && (expr_named program code test && body in_loop)
stmt_step program code function (TStmt-F.DoWhile spot number body test) at =
    regions_there code function number && (expr_named program code test && body in_loop)
stmt_step program code function (TStmt-F.For spot number start test step body) at =
    regions_there code function number
    && (first_named program code start && (option_named program code test && (option_named program code step && body in_loop)))
stmt_step program code function (TStmt-F.Switch spot kind on parts) at = expr_named program code on && all_right (in_switch at) parts
stmt_step program code function (TStmt-F.Break spot) at = at.breaks
stmt_step program code function (TStmt-F.Continue spot) at = at.continues
stmt_step program code function (TStmt-F.Return spot value) at = option_named program code value
stmt_step program code function (TStmt-F.Declare spot list) at = declared_named program code list && at.declares

-- a part of a switch, of whose statement it is known
abbrev pub part_step : TPart-F (Where → Bool) (Where → Bool) → Where → Bool
part_step (TPart-F.Case place z) at = true
part_step (TPart-F.Default place) at = true
part_step (TPart-F.Does place s) at = s at

-- a statement is right where it stands
abbrev pub stmt_right : Program → Code → ℕ → TStmt → Where → Bool
stmt_right program code function = fold-TStmt (Where → Bool) (Where → Bool) part_step (stmt_step program code function)
