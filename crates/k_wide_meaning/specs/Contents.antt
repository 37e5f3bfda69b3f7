-- Believed with a public law.
-- What a statement has in it: what it does with scalars and functions, the jumps that lead out of it, and its loops.
use Rattle.std.specs.Prelude.{List, [], ◌∷◌, ◌++◌, map, Option, Some, None, unwrap_or}
use Rattle.k_types_meaning.specs.declared.tree.expression.TExpr.{TExpr}
use Rattle.k_types_meaning.specs.declared.tree.statement.TFirst.{TFirst}
use Rattle.k_types_meaning.specs.declared.tree.statement.TFirst.TheVariants as first
use Rattle.k_types_meaning.specs.declared.tree.statement.TStmt.{TStmt, fold-TStmt}
use Rattle.k_types_meaning.specs.declared.tree.statement.TPart.{TPart, fold-TPart}
use Rattle.k_types_meaning.specs.declared.tree.statement.TPart.TheOpen.{TPart-F, TStmt-F}
use Rattle.k_types_meaning.specs.declared.tree.unit.TFunc.{TFunc}
use Rattle.k_marks_meaning.specs.declared.jumps.Jumps.{Jumps}
use Rattle.k_marks_meaning.specs.Jumps.{no_jumps, a_break, a_continue, a_return, jumps_of_both, out_of_loop, out_of_switch}
use Rattle.k_wide_meaning.specs.declared.loops.LoopSort.{LoopSort}
use Rattle.k_wide_meaning.specs.declared.loops.LoopSort.TheVariants as sort
use Rattle.k_wide_meaning.specs.declared.occurrences.Occurrence.{Occurrence}
use Rattle.k_wide_meaning.specs.Occurrences.{occurs_in, option_occurs, declared_occurs, first_occurs}
use Rattle.k_wide_meaning.specs.Reductions.{action_occurs, kept_if}

-- A statement of a block: its expression, where it is an expression statement, and what it does.
pub record Member : Type 0 where
  pub action : Option TExpr
  pub occurs : List Occurrence

-- A LOOP, of whose body it is known what it does, which jumps lead out of it, and its last statement, where that is an expression statement
-- of the block that is the body. A `while` and a `do` have a test alone.
pub record WideLoop : Type 0 where
  pub sort : LoopSort
  pub start : TFirst
  pub test : Option TExpr
  pub step : Option TExpr
  pub body : List Occurrence
  pub jumps : Jumps
  pub last : Option TExpr

-- what a statement has in it
pub record Seen : Type 0 where
  -- its expression, where it is an expression statement
  pub action : Option TExpr
  -- its statements, where it is a block
  pub members : Option (List Member)
  -- what it does
  pub occurs : List Occurrence
  -- the jumps that lead out of it
  pub jumps : Jumps
  -- its loops, in text order
  pub loops : List WideLoop

-- a statement that does this and has these jumps and loops in it, and is no expression statement and no block
abbrev pub seen_as : List Occurrence → Jumps → List WideLoop → Seen
seen_as occurs jumps loops = record { action = None; members = None; occurs = occurs; jumps = jumps; loops = loops }

-- nothing
abbrev pub nothing : Seen
nothing = seen_as ([]) no_jumps ([])

-- one part behind another
abbrev pub both : Seen → Seen → Seen
both a b = seen_as (a.occurs ++ b.occurs) (jumps_of_both a.jumps b.jumps) (a.loops ++ b.loops)

-- several parts, one behind another
abbrev pub row : List Seen → Seen
row [] = nothing
row (a ∷ rest) = both a (row rest)

-- a statement of a block
abbrev pub member : Seen → Member
member s = record { action = s.action; occurs = s.occurs }

-- the statements of an arm: those of a block, or the arm itself
abbrev pub arm : Seen → List Member
arm s = unwrap_or s.members (member s ∷ [])

-- what several of them do, one behind another
abbrev pub members_occur : List Member → List Occurrence
members_occur [] = []
members_occur (m ∷ ms) = m.occurs ++ members_occur ms

-- the first of the statements behind a test that keeps the least or the greatest, and what they then do together
abbrev pub kept_first : Option (List Occurrence) → List Occurrence → Member → Option (List Occurrence) → Option (List Occurrence)
kept_first (Some kept) later m rest = Some (kept ++ later)
kept_first None later m None = None
kept_first None later m (Some rest) = Some (m.occurs ++ rest)

-- what the statements behind a test do, where one of them keeps the least or the greatest: it, its value and the further statements
abbrev pub kept_among : TExpr → List Member → Option (List Occurrence)
kept_among test [] = None
kept_among test (m ∷ ms) = kept_first (kept_if test m.action) (members_occur ms) m (kept_among test ms)

-- what an `if` does: without `else`, it may keep the least or the greatest
abbrev pub if_occurs : TExpr → Seen → Option Seen → List Occurrence
if_occurs test a None = unwrap_or (kept_among test (arm a)) (occurs_in test ++ a.occurs)
if_occurs test a (Some b) = occurs_in test ++ (a.occurs ++ b.occurs)

-- the last of these
abbrev pub last_action : List Member → Option TExpr
last_action [] = None
last_action (m ∷ []) = m.action
last_action (m ∷ ms) = last_action ms

-- the last statement of the block that is a body, where it is an expression statement
abbrev pub last_of : Option (List Member) → Option TExpr
last_of None = None
last_of (Some ms) = last_action ms

-- a loop with this body
abbrev pub loop_of : LoopSort → TFirst → Option TExpr → Option TExpr → Seen → WideLoop
loop_of sort start test step body =
    record { sort = sort; start = start; test = test; step = step; body = body.occurs; jumps = body.jumps; last = last_of body.members }

-- a statement that is this loop with this body, and does this
abbrev pub a_loop : WideLoop → Seen → List Occurrence → Seen
a_loop l body occurs = seen_as occurs (out_of_loop body.jumps) (l ∷ body.loops)

-- what a statement has in it, of whose statements and parts it is known
abbrev pub seen_step : TStmt-F Seen Seen → Seen
seen_step (TStmt-F.Expr spot e) = record { action = Some e; members = None; occurs = action_occurs e; jumps = no_jumps; loops = [] }
seen_step (TStmt-F.Empty spot) = nothing
seen_step (TStmt-F.Block spot parts) =
    record { action = None; members = Some (map member parts); occurs = (row parts).occurs; jumps = (row parts).jumps; loops = (row parts).loops }
seen_step (TStmt-F.If spot test a b) =
    seen_as (if_occurs test a b) (jumps_of_both a.jumps (unwrap_or b nothing).jumps) (a.loops ++ (unwrap_or b nothing).loops)
seen_step (TStmt-F.While spot turns test body) =
    a_loop (loop_of sort.While first.Nothing (Some test) None body) body (occurs_in test ++ body.occurs)
seen_step (TStmt-F.DoWhile spot turns body test) =
    a_loop (loop_of sort.Do first.Nothing (Some test) None body) body (body.occurs ++ occurs_in test)
seen_step (TStmt-F.For spot turns start test step body) =
    a_loop (loop_of sort.For start test step body) body (first_occurs start ++ (option_occurs test ++ (option_occurs step ++ body.occurs)))
seen_step (TStmt-F.Switch spot kind on parts) = seen_as (occurs_in on ++ (row parts).occurs) (out_of_switch (row parts).jumps) (row parts).loops
seen_step (TStmt-F.Break spot) = seen_as ([]) a_break ([])
seen_step (TStmt-F.Continue spot) = seen_as ([]) a_continue ([])
seen_step (TStmt-F.Return spot value) = seen_as (option_occurs value) a_return ([])
seen_step (TStmt-F.Declare spot list) = seen_as (declared_occurs list) no_jumps ([])

-- what a part of a switch has in it, of whose statement it is known
abbrev pub part_step : TPart-F Seen Seen → Seen
part_step (TPart-F.Case p value) = nothing
part_step (TPart-F.Default p) = nothing
part_step (TPart-F.Does p s) = s

-- what a statement has in it
abbrev pub seen : TStmt → Seen
seen = fold-TStmt Seen Seen part_step seen_step

-- what a part of a switch has in it
abbrev pub part_seen : TPart → Seen
part_seen = fold-TPart Seen Seen part_step seen_step

-- what a function has in it
abbrev pub function_seen : TFunc → Seen
function_seen f = row (map seen f.body)
