-- For contracts between crates: nobody has to believe it.
-- Where a pass over the events stands, and what each event makes of it.
use Rattle.std.specs.Prelude.{ℕ, ◌+◌, ◌-◌, ◌^◌, ◌<◌, ◌==◌, List, [], ◌∷◌, ◌++◌, map, All, nat_lt, if◌then◌else◌}
use Rattle.k_optab.specs.declared.event.Event.{Event}
use Rattle.k_optab.specs.declared.event.Event.TheVariants.{Op, Enter, Exit}
use Rattle.k_optab.specs.declared.event.Src.{Src}
use Rattle.k_graph.specs.declared.level.Level.{Level}
use Rattle.k_graph.specs.declared.level.Measured.{Measured}
use Rattle.k_graph.specs.declared.pass.Pass.{Pass}
use Rattle.k_graph.specs.Levels.{CanAdd, added, measured}

-- behind the first `passed` events, with `made` operations, where `open` instances are open, those of depth below
-- `limit` at the levels, the outermost first, and the closed ones that none of these encloses are done
pub record State : Type 0 where
  pub limit : ℕ
  pub passed : ℕ
  pub made : ℕ
  pub open_count : ℕ
  pub done : List Measured
  pub levels : List Level

-- where a pass stands
abbrev pub state : Pass → State
state p = record { limit = p.limit; passed = p.passed; made = p.made; open_count = p.open_count; done = p.done; levels = p.levels.items }

-- before the first event
abbrev pub start_state : ℕ → State
start_state limit = record { limit = limit; passed = 0; made = 0; open_count = 0; done = []; levels = [] }

-- behind an operation, which each level has now
abbrev pub operated : ℕ → List Src → State → State
operated latency sources s = record s { passed = s.passed + 1; made = s.made + 1; levels = map (added latency sources) s.levels }

-- the level of an instance that is entered here: it has no operation yet
abbrev pub new_level : ℕ → State → Level
new_level region s = record { region = region; depth = s.open_count; enter = s.passed; start = s.made; work = 0; path = 0; times = []; inner = [] }

-- behind the Enter of an instance of this region, which is a level where its depth is tracked
abbrev pub entered : ℕ → State → State
entered region s = record s {
  passed = s.passed + 1;
  open_count = s.open_count + 1;
  levels = if nat_lt s.open_count s.limit then s.levels ++ new_level region s ∷ [] else s.levels;
}

-- the instances that no open one encloses, and the levels
pub record Closing : Type 0 where
  pub done : List Measured
  pub levels : List Level

-- the innermost level is closed: its instance, and those within it, go into the level around it, or are done
abbrev pub close_into : ℕ → ℕ → List Measured → List Level → Closing
close_into place made done [] = record { done = done; levels = [] }
close_into place made done (top ∷ []) = record { done = done ++ measured place made top ∷ top.inner; levels = [] }
close_into place made done (level ∷ next ∷ levels) = record {
  done = done;
  levels = record level { inner = (close_into place made level.inner (next ∷ levels)).done } ∷ (close_into place made level.inner (next ∷ levels)).levels;
}

-- the same state, with the innermost level closed
abbrev pub closed : State → State
closed s = record s {
  done = (close_into s.passed s.made s.done s.levels).done;
  levels = (close_into s.passed s.made s.done s.levels).levels;
}

-- behind an Exit: one that leaves nothing, one that leaves an instance that is not tracked, and one that closes a level
abbrev pub exited : State → State
exited s =
    if s.open_count == 0 then record s { passed = s.passed + 1 }
    else (if nat_lt s.limit s.open_count then record s { passed = s.passed + 1; open_count = s.open_count - 1 }
    else record (closed s) { passed = s.passed + 1; open_count = s.open_count - 1 })

-- what an event makes of it
abbrev pub taken : Event → State → State
taken (Op class latency sources place) s = operated latency sources s
taken (Enter region) s = entered region s
taken Exit s = exited s

-- the closed instances, where no event follows
abbrev pub listed : List Measured → List Level → List Measured
listed done [] = done
listed done (level ∷ levels) = listed (done ++ level.inner) levels

-- an operation comes next, and its numbers are small enough
abbrev pub CanTakeOp : ℕ → List Src → State → Type 0
CanTakeOp latency sources s = (s.passed + 1 < 2 ^ 64) × (s.made + 1 < 2 ^ 64) × All (CanAdd latency sources) s.levels

-- the same for an event of any kind
abbrev pub CanTake : Event → State → Type 0
CanTake (Op class latency sources place) s = CanTakeOp latency sources s
CanTake (Enter region) s = (s.passed + 1 < 2 ^ 64) × (s.open_count + 1 < 2 ^ 64) × (s.limit < 2 ^ 32)
CanTake Exit s = s.passed + 1 < 2 ^ 64
