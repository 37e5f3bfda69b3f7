-- Believed with the theorem on the top call.
-- The numbers of a typed tree: its expressions and statements in text order, parents first; its strings that are objects, and its
-- loops, each in text order.
use Rattle.std.specs.Prelude.{ℕ, zero, suc, ◌≡◌, ◌+◌, List, [], ◌∷◌, ◌++◌, map, length, Option, Some, None}
use Rattle.k_types_meaning.specs.declared.tree.expression.Node.{Node}
use Rattle.k_types_meaning.specs.declared.tree.expression.TExpr.{TExpr, fold-TExpr}
use Rattle.k_types_meaning.specs.declared.tree.expression.TExpr.TheOpen.{TExpr-F}
use Rattle.k_types_meaning.specs.declared.tree.declaration.TDeclarator.{TDeclarator}
use Rattle.k_types_meaning.specs.declared.tree.declaration.TInit.{TInit}
use Rattle.k_types_meaning.specs.declared.tree.declaration.TInit.TheVariants as begins
use Rattle.k_types_meaning.specs.declared.tree.declaration.TItem.{TItem}
use Rattle.k_types_meaning.specs.declared.tree.declaration.TItem.TheVariants as item
use Rattle.k_types_meaning.specs.declared.tree.statement.TFirst.{TFirst}
use Rattle.k_types_meaning.specs.declared.tree.statement.TFirst.TheVariants as first
use Rattle.k_types_meaning.specs.declared.tree.statement.TStmt.{TStmt, fold-TStmt}
use Rattle.k_types_meaning.specs.declared.tree.statement.TPart.TheOpen.{TPart-F, TStmt-F}
use Rattle.k_types_meaning.specs.declared.tree.unit.TFunc.{TFunc}
use Rattle.k_types_meaning.specs.declared.tree.unit.TString.{TString}
use Rattle.k_types_meaning.specs.declared.tree.unit.TUnit.{TUnit}

-- what is listed of a tree: of each kind the numbers, in text order
pub record Numbers : Type 0 where
  -- of expressions and statements
  pub nodes : List ℕ
  -- of strings that are objects, and these strings
  pub strings : List ℕ
  pub texts : List TString
  -- of loops
  pub loops : List ℕ

-- nothing is listed
abbrev pub nothing : Numbers
nothing = record { nodes = []; strings = []; texts = []; loops = [] }

-- what is listed of two parts, the first before the second
abbrev pub before : Numbers → Numbers → Numbers
before a b = record {
  nodes = a.nodes ++ b.nodes;
  strings = a.strings ++ b.strings;
  texts = a.texts ++ b.texts;
  loops = a.loops ++ b.loops;
}

-- what is listed of some parts
abbrev pub listed : List Numbers → Numbers
listed [] = nothing
listed (a ∷ as_) = before a (listed as_)

-- what is listed of what may be left out
abbrev pub if_listed : Option Numbers → Numbers
if_listed None = nothing
if_listed (Some a) = a

-- a node goes before its parts
abbrev pub node_before : ℕ → Numbers → Numbers
node_before n a = record a { nodes = n ∷ a.nodes }

-- a string that is an object is a node too
abbrev pub a_string : Node → ℕ → List ℕ → Numbers
a_string node n bytes = record {
  nodes = node.number ∷ [];
  strings = n ∷ [];
  texts = record { place = node.place; bytes = bytes } ∷ [];
  loops = [];
}

-- a loop goes before its parts, as a node and as a loop
abbrev pub loop_before : ℕ → ℕ → Numbers → Numbers
loop_before n loop a = record a { nodes = n ∷ a.nodes; loops = loop ∷ a.loops }

-- what is listed of an expression, of whose operands it is known
abbrev pub expr_numbers_step : TExpr-F Numbers → Numbers
expr_numbers_step (TExpr-F.Number node value) = node_before node.number nothing
expr_numbers_step (TExpr-F.Str node n bytes) = a_string node n bytes
expr_numbers_step (TExpr-F.Object node n) = node_before node.number nothing
expr_numbers_step (TExpr-F.Variable node n) = node_before node.number nothing
expr_numbers_step (TExpr-F.Index node a b) = node_before node.number (before a b)
expr_numbers_step (TExpr-F.Call node f args) = node_before node.number (listed args)
expr_numbers_step (TExpr-F.Getchar node) = node_before node.number nothing
expr_numbers_step (TExpr-F.Putchar node a) = node_before node.number a
expr_numbers_step (TExpr-F.Puts node a) = node_before node.number a
expr_numbers_step (TExpr-F.Printf node format args) = node_before node.number (listed args)
expr_numbers_step (TExpr-F.Post node change a) = node_before node.number a
expr_numbers_step (TExpr-F.Pre node change a) = node_before node.number a
expr_numbers_step (TExpr-F.Address node a) = node_before node.number a
expr_numbers_step (TExpr-F.Deref node a) = node_before node.number a
expr_numbers_step (TExpr-F.Plus node a) = node_before node.number a
expr_numbers_step (TExpr-F.Unary node op kind a) = node_before node.number a
expr_numbers_step (TExpr-F.Convert node a) = node_before node.number a
expr_numbers_step (TExpr-F.Cast node a) = node_before node.number a
expr_numbers_step (TExpr-F.Binary node op kind a b) = node_before node.number (before a b)
expr_numbers_step (TExpr-F.Both node a b) = node_before node.number (before a b)
expr_numbers_step (TExpr-F.Either node a b) = node_before node.number (before a b)
expr_numbers_step (TExpr-F.Forward node a b) = node_before node.number (before a b)
expr_numbers_step (TExpr-F.Onto node a b) = node_before node.number (before a b)
expr_numbers_step (TExpr-F.Back node a b) = node_before node.number (before a b)
expr_numbers_step (TExpr-F.PtrCompare node op a b) = node_before node.number (before a b)
expr_numbers_step (TExpr-F.PtrDistance node a b) = node_before node.number (before a b)
expr_numbers_step (TExpr-F.Cond node a b c) = node_before node.number (before a (before b c))
expr_numbers_step (TExpr-F.Assign node a b) = node_before node.number (before a b)
expr_numbers_step (TExpr-F.AssignBy node change a b) = node_before node.number (before a b)
expr_numbers_step (TExpr-F.Comma node a b) = node_before node.number (before a b)

-- what is listed of an expression
abbrev pub expr_numbers : TExpr → Numbers
expr_numbers = fold-TExpr Numbers expr_numbers_step

-- what is listed of an expression that may be left out
abbrev pub option_numbers : Option TExpr → Numbers
option_numbers None = nothing
option_numbers (Some e) = expr_numbers e

-- what is listed of an item of braces
abbrev pub item_numbers : TItem → Numbers
item_numbers (item.Bytes n bytes) = nothing
item_numbers (item.Value p n e) = expr_numbers e

-- what is listed of an initialiser
abbrev pub init_numbers : TInit → Numbers
init_numbers begins.Nothing = nothing
init_numbers (begins.Value e) = expr_numbers e
init_numbers (begins.Elements items) = listed (map item_numbers items)

-- what is listed of declared variables
abbrev pub declared_numbers : List TDeclarator → Numbers
declared_numbers list = listed (map (λ (d : TDeclarator). init_numbers d.init) list)

-- what is listed of the first part of a `for`
abbrev pub first_numbers : TFirst → Numbers
first_numbers first.Nothing = nothing
first_numbers (first.Value e) = expr_numbers e
first_numbers (first.Declare list) = declared_numbers list

-- what is listed of a statement, of whose statements and parts it is known
abbrev pub stmt_numbers_step : TStmt-F Numbers Numbers → Numbers
stmt_numbers_step (TStmt-F.Expr spot e) = node_before spot.number (expr_numbers e)
stmt_numbers_step (TStmt-F.Empty spot) = node_before spot.number nothing
stmt_numbers_step (TStmt-F.Block spot parts) = node_before spot.number (listed parts)
stmt_numbers_step (TStmt-F.If spot test a b) = node_before spot.number (before (expr_numbers test) (before a (if_listed b)))
stmt_numbers_step (TStmt-F.While spot loop test body) = loop_before spot.number loop (before (expr_numbers test) body)
stmt_numbers_step (TStmt-F.DoWhile spot loop body test) = loop_before spot.number loop (before body (expr_numbers test))
stmt_numbers_step (TStmt-F.For spot loop start test step body) =
    loop_before spot.number loop (before (first_numbers start) (before (option_numbers test) (before (option_numbers step) body)))
stmt_numbers_step (TStmt-F.Switch spot kind on parts) = node_before spot.number (before (expr_numbers on) (listed parts))
stmt_numbers_step (TStmt-F.Break spot) = node_before spot.number nothing
stmt_numbers_step (TStmt-F.Continue spot) = node_before spot.number nothing
stmt_numbers_step (TStmt-F.Return spot value) = node_before spot.number (option_numbers value)
stmt_numbers_step (TStmt-F.Declare spot list) = node_before spot.number (declared_numbers list)

-- what is listed of a part of a switch, of whose statement it is known
abbrev pub part_numbers_step : TPart-F Numbers Numbers → Numbers
part_numbers_step (TPart-F.Case p value) = nothing
part_numbers_step (TPart-F.Default p) = nothing
part_numbers_step (TPart-F.Does p s) = s

-- what is listed of a statement
abbrev pub stmt_numbers : TStmt → Numbers
stmt_numbers = fold-TStmt Numbers Numbers part_numbers_step stmt_numbers_step

-- what is listed of a function
abbrev pub function_numbers : TFunc → Numbers
function_numbers f = listed (map stmt_numbers f.body)

-- what is listed of functions
abbrev pub functions_numbers : List TFunc → Numbers
functions_numbers fs = listed (map function_numbers fs)

-- so many numbers from this one on
abbrev pub numbers_from : ℕ → ℕ → List ℕ
numbers_from n zero = []
numbers_from n (suc k) = n ∷ numbers_from (suc n) k

-- the numbers are 0, 1, 2, .. in their order
abbrev pub CountsUp : List ℕ → Type 0
CountsUp ns = ns ≡ numbers_from 0 (length ns)

-- functions know how many loops the functions before them have, these included
abbrev pub LoopsBefore : ℕ → List TFunc → Type 0
LoopsBefore n [] = Unit {0}
LoopsBefore n (f ∷ fs) = (f.loops ≡ n) × LoopsBefore (n + length (function_numbers f).loops) fs

-- A source is numbered: expressions and statements, strings and loops each count up in text order; strings are listed; and the counts
-- are right.
abbrev pub IsNumbered : TUnit → Type 0
IsNumbered unit =
    CountsUp (functions_numbers unit.functions).nodes
    × CountsUp (functions_numbers unit.functions).strings
    × CountsUp (functions_numbers unit.functions).loops
    × (unit.strings ≡ (functions_numbers unit.functions).texts)
    × (unit.nodes ≡ length (functions_numbers unit.functions).nodes)
    × (unit.loops ≡ length (functions_numbers unit.functions).loops)
    × LoopsBefore 0 unit.functions
