-- Believed with the theorem on the top call.
-- Which loops of a statement have a head of one variable that is spelled bare, loop by loop in text order (C17 6.8.5).
use Rattle.std.specs.Prelude.{Bool, false, List, [], ◌∷◌, ◌++◌, Option, Some, None}
use Rattle.k_tree.specs.declared.tree.statement.Stmt.{Stmt, fold-Stmt}
use Rattle.k_tree.specs.declared.tree.statement.Part.TheOpen.{Part-F, Stmt-F}
use Rattle.k_tree.specs.declared.tree.statement.Part.{Part, fold-Part}
use Rattle.k_pragma_written.specs.Heads.{is_bare}

-- loops, in order: whether each is so
abbrev pub Loops : Type 0
Loops = List Bool

-- the loops in rows, one behind the other
abbrev pub in_rows : List Loops → Loops
in_rows [] = []
in_rows (row ∷ rows) = row ++ in_rows rows

-- the loops in a statement that may be left out
abbrev pub if_there : Option Loops → Loops
if_there None = []
if_there (Some loops) = loops

-- the loops of a statement, of whose statements they are known: a loop stands before those in its body, and only a `for` has a head
abbrev pub loops_step : Stmt-F Loops Loops → Loops
loops_step (Stmt-F.Expr place value) = []
loops_step (Stmt-F.Empty place) = []
loops_step (Stmt-F.Block place parts) = in_rows parts
loops_step (Stmt-F.If place test chosen other) = chosen ++ if_there other
loops_step (Stmt-F.While place test body) = false ∷ body
loops_step (Stmt-F.DoWhile place body test) = false ∷ body
loops_step (Stmt-F.For place start test step body) = is_bare start test step ∷ body
loops_step (Stmt-F.Switch place on parts) = in_rows parts
loops_step (Stmt-F.Break place) = []
loops_step (Stmt-F.Continue place) = []
loops_step (Stmt-F.Return place value) = []
loops_step (Stmt-F.Declare place specs list) = []

-- the loops of a part of a switch
abbrev pub part_loops_step : Part-F Loops Loops → Loops
part_loops_step (Part-F.Case place value) = []
part_loops_step (Part-F.Default place) = []
part_loops_step (Part-F.Does place body) = body

-- the loops of a statement, in text order
abbrev pub loops_in : Stmt → Loops
loops_in = fold-Stmt Loops Loops part_loops_step loops_step

-- the loops of a part of a switch, in text order
abbrev pub part_loops_in : Part → Loops
part_loops_in = fold-Part Loops Loops part_loops_step loops_step
