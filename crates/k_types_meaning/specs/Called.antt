-- Believed with the theorem on the top call.
-- The calls in a source, in text order: also those in operands of sizeof, which the typed tree has not (C17 6.9p5).
use Rattle.std.specs.Prelude.{ℕ, List, [], ◌∷◌, ◌++◌, map, Option, Some, None}
use Rattle.k_num.specs.declared.place.Place.{Place}
use Rattle.k_tree.specs.declared.tree.expression.Expr.{Expr, fold-Expr}
use Rattle.k_tree.specs.declared.tree.expression.Expr.TheOpen.{Expr-F}
use Rattle.k_tree.specs.declared.tree.declaration.Init.{Init, fold-Init}
use Rattle.k_tree.specs.declared.tree.declaration.Init.TheOpen.{Init-F}
use Rattle.k_tree.specs.declared.tree.declaration.Declarator.{Declarator}
use Rattle.k_tree.specs.declared.tree.declaration.Param.{Param}
use Rattle.k_tree.specs.declared.tree.declaration.Params.{Params}
use Rattle.k_tree.specs.declared.tree.declaration.Params.TheVariants as params
use Rattle.k_tree.specs.declared.tree.statement.First.{First}
use Rattle.k_tree.specs.declared.tree.statement.First.TheVariants as first
use Rattle.k_tree.specs.declared.tree.statement.Stmt.{Stmt, fold-Stmt}
use Rattle.k_tree.specs.declared.tree.statement.Part.TheOpen.{Part-F, Stmt-F}
use Rattle.k_tree.specs.declared.tree.unit.Item.{Item}
use Rattle.k_tree.specs.declared.tree.unit.Item.TheVariants as item
use Rattle.k_tree.specs.declared.tree.unit.Unit as source

-- a call: the name and the place
pub record Called : Type 0 where
  pub name : List ℕ
  pub place : Place

-- the calls of several parts
abbrev pub all_calls : List (List Called) → List Called
all_calls [] = []
all_calls (c ∷ cs) = c ++ all_calls cs

-- the calls of an expression, of whose operands the calls are known
abbrev pub expr_calls_step : Expr-F (List Called) → List Called
expr_calls_step (Expr-F.Name p x) = []
expr_calls_step (Expr-F.Number p kind n) = []
expr_calls_step (Expr-F.Char p z) = []
expr_calls_step (Expr-F.Str p bytes) = []
expr_calls_step (Expr-F.Paren p e) = e
expr_calls_step (Expr-F.Index p base index) = base ++ index
expr_calls_step (Expr-F.Call p x args) = record { name = x; place = p } ∷ all_calls args
expr_calls_step (Expr-F.Post p op e) = e
expr_calls_step (Expr-F.Pre p op e) = e
expr_calls_step (Expr-F.Unary p op e) = e
expr_calls_step (Expr-F.SizeofExpr p e) = e
expr_calls_step (Expr-F.SizeofType p specs stars) = []
expr_calls_step (Expr-F.Cast p specs stars e) = e
expr_calls_step (Expr-F.Binary p op left right) = left ++ right
expr_calls_step (Expr-F.Cond p test a b) = test ++ (a ++ b)
expr_calls_step (Expr-F.Assign p op left right) = left ++ right
expr_calls_step (Expr-F.Comma p left right) = left ++ right

-- the calls of an expression
abbrev pub expr_calls : Expr → List Called
expr_calls = fold-Expr (List Called) expr_calls_step

-- the calls of an expression that may be left out
abbrev pub option_calls : Option Expr → List Called
option_calls None = []
option_calls (Some e) = expr_calls e

-- the calls of what may be left out
abbrev pub known_calls : Option (List Called) → List Called
known_calls None = []
known_calls (Some calls) = calls

-- the calls of dimensions
abbrev pub dims_calls : List (Option Expr) → List Called
dims_calls dims = all_calls (map option_calls dims)

-- the calls of an initialiser, of whose items the calls are known
abbrev pub init_calls_step : Init-F (List Called) → List Called
init_calls_step (Init-F.One p e) = expr_calls e
init_calls_step (Init-F.List p items comma) = all_calls items

-- the calls of an initialiser
abbrev pub init_calls : Init → List Called
init_calls = fold-Init (List Called) init_calls_step

-- the calls of an initialiser that may be left out
abbrev pub start_calls : Option Init → List Called
start_calls None = []
start_calls (Some init) = init_calls init

-- the calls of a declarator
abbrev pub declarator_calls : Declarator → List Called
declarator_calls d = dims_calls d.dims ++ start_calls d.init

-- the calls of declarators
abbrev pub declarators_calls : List Declarator → List Called
declarators_calls list = all_calls (map declarator_calls list)

-- the calls of parameters
abbrev pub params_calls : Params → List Called
params_calls params.Empty = []
params_calls params.Void = []
params_calls (params.List list) = all_calls (map (λ (p : Param). dims_calls p.dims) list)

-- the calls of the first part of a `for`
abbrev pub first_calls : First → List Called
first_calls first.Nothing = []
first_calls (first.Value e) = expr_calls e
first_calls (first.Declare specs list) = declarators_calls list

-- the calls of a statement, of whose statements and parts the calls are known
abbrev pub stmt_calls_step : Stmt-F (List Called) (List Called) → List Called
stmt_calls_step (Stmt-F.Expr p e) = expr_calls e
stmt_calls_step (Stmt-F.Empty p) = []
stmt_calls_step (Stmt-F.Block p parts) = all_calls parts
stmt_calls_step (Stmt-F.If p test a b) = expr_calls test ++ (a ++ known_calls b)
stmt_calls_step (Stmt-F.While p test body) = expr_calls test ++ body
stmt_calls_step (Stmt-F.DoWhile p body test) = body ++ expr_calls test
stmt_calls_step (Stmt-F.For p start test step body) =
    first_calls start ++ (option_calls test ++ (option_calls step ++ body))
stmt_calls_step (Stmt-F.Switch p on parts) = expr_calls on ++ all_calls parts
stmt_calls_step (Stmt-F.Break p) = []
stmt_calls_step (Stmt-F.Continue p) = []
stmt_calls_step (Stmt-F.Return p value) = option_calls value
stmt_calls_step (Stmt-F.Declare p specs list) = declarators_calls list

-- the calls of a part of a switch
abbrev pub part_calls_step : Part-F (List Called) (List Called) → List Called
part_calls_step (Part-F.Case p e) = expr_calls e
part_calls_step (Part-F.Default p) = []
part_calls_step (Part-F.Does p s) = s

-- the calls of a statement
abbrev pub stmt_calls : Stmt → List Called
stmt_calls = fold-Stmt (List Called) (List Called) part_calls_step stmt_calls_step

-- the calls of an item
abbrev pub item_calls : Item → List Called
item_calls (item.Function p head body close) = params_calls head.params ++ all_calls (map stmt_calls body)
item_calls (item.Prototype p head) = params_calls head.params
item_calls (item.Objects p specs list) = declarators_calls list

-- the calls of a source
unfoldable pub calls_of_unit : source.Unit → List Called
calls_of_unit unit = all_calls (map item_calls unit.items)
