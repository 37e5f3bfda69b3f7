-- For contracts between crates: nobody has to believe it.
-- How the calls of a source are noted.
use Rattle.std.specs.Prelude.{ℕ, List, ◌∷◌, ◌++◌, map, Option}
use Rattle.k_num.specs.declared.place.Place.{Place}
use Rattle.k_tree.specs.declared.tree.declaration.Param.{Param}
use Rattle.k_tree.specs.declared.tree.expression.Expr.{Expr}
use Rattle.k_tree.specs.declared.tree.statement.First.{First}
use Rattle.k_tree.specs.declared.tree.statement.Part.{Part, fold-Part}
use Rattle.k_tree.specs.declared.tree.statement.Stmt.{Stmt}
use Rattle.k_types_meaning.specs.Called.{Called, all_calls, dims_calls, expr_calls, first_calls, option_calls, part_calls_step, stmt_calls, stmt_calls_step}
use Rattle.k_types_calls.specs.declared.source.Call.{Call}

-- a call that was noted
abbrev pub seen : Call → Called
seen c = record { name = c.name.now; place = c.place }

-- C17 6.5.2.2: a call, and the calls in its arguments
abbrev pub call_calls : Place → List ℕ → List Expr → List Called
call_calls place name args = record { name = name; place = place } ∷ all_calls (map expr_calls args)

-- C17 6.8.5.3: the calls of a `for`
abbrev pub for_calls : First → Option Expr → Option Expr → Stmt → List Called
for_calls first test step body = first_calls first ++ (option_calls test ++ (option_calls step ++ stmt_calls body))

-- C17 6.8.4.2: the calls of a part of a switch
abbrev pub part_calls : Part → List Called
part_calls = fold-Part (List Called) (List Called) part_calls_step stmt_calls_step

-- C17 6.7.6.3: the calls of a parameter
abbrev pub param_calls : Param → List Called
param_calls p = dims_calls p.dims
