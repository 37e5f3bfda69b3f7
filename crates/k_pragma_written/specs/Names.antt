-- Believed with the theorem on the top call.
-- The names of the variables of a function, in the order in which it declares them: its parameters, and then in text order (C17 6.7, 6.9.1).
use Rattle.std.specs.Prelude.{ℕ, List, [], ◌∷◌, ◌++◌, map, Option, Some, None}
use Rattle.std.specs.List.{concat}
use Rattle.k_tree.specs.declared.tree.declaration.Declarator.{Declarator}
use Rattle.k_tree.specs.declared.tree.declaration.Param.{Param}
use Rattle.k_tree.specs.declared.tree.declaration.Params.{Params}
use Rattle.k_tree.specs.declared.tree.declaration.Params.TheVariants as params
use Rattle.k_tree.specs.declared.tree.statement.First.{First}
use Rattle.k_tree.specs.declared.tree.statement.First.TheVariants as first
use Rattle.k_tree.specs.declared.tree.statement.Stmt.{Stmt, fold-Stmt}
use Rattle.k_tree.specs.declared.tree.statement.Part.TheOpen.{Part-F, Stmt-F}
use Rattle.k_tree.specs.declared.tree.statement.Part.{Part, fold-Part}

-- names, in order
abbrev pub Names : Type 0
Names = List (List ℕ)

-- the names of declarators
abbrev pub declared : List Declarator → Names
declared list = map (λ (d : Declarator). d.name) list

-- the names that the first part of a `for` declares
abbrev pub first_declared : First → Names
first_declared first.Nothing = []
first_declared (first.Value value) = []
first_declared (first.Declare specs list) = declared list

-- the name of a parameter, which is empty where it has none
abbrev pub param_name : Option (List ℕ) → List ℕ
param_name None = []
param_name (Some name) = name

-- the names of parameters
abbrev pub param_names : List Param → Names
param_names list = map (λ (p : Param). param_name p.name) list

-- the names of the parameters of a head
abbrev pub params_declared : Params → Names
params_declared params.Empty = []
params_declared params.Void = []
params_declared (params.List list) = param_names list

-- the names in rows, one behind the other
abbrev pub in_rows : List Names → Names
in_rows [] = []
in_rows (row ∷ rows) = row ++ in_rows rows

-- the names in a statement that may be left out
abbrev pub if_there : Option Names → Names
if_there None = []
if_there (Some names) = names

-- the names that a statement declares, of whose statements they are known
abbrev pub names_step : Stmt-F Names Names → Names
names_step (Stmt-F.Expr place value) = []
names_step (Stmt-F.Empty place) = []
names_step (Stmt-F.Block place parts) = in_rows parts
names_step (Stmt-F.If place test chosen other) = chosen ++ if_there other
names_step (Stmt-F.While place test body) = body
names_step (Stmt-F.DoWhile place body test) = body
names_step (Stmt-F.For place start test step body) = first_declared start ++ body
names_step (Stmt-F.Switch place on parts) = in_rows parts
names_step (Stmt-F.Break place) = []
names_step (Stmt-F.Continue place) = []
names_step (Stmt-F.Return place value) = []
names_step (Stmt-F.Declare place specs list) = declared list

-- the names that a part of a switch declares
abbrev pub part_names_step : Part-F Names Names → Names
part_names_step (Part-F.Case place value) = []
part_names_step (Part-F.Default place) = []
part_names_step (Part-F.Does place body) = body

-- the names that a statement declares, in text order
abbrev pub names_in : Stmt → Names
names_in = fold-Stmt Names Names part_names_step names_step

-- the names that a part of a switch declares, in text order
abbrev pub part_names_in : Part → Names
part_names_in = fold-Part Names Names part_names_step names_step
