-- For contracts between crates: nobody has to believe it.
-- Where a run stands whose store, gathered pairs and tables are kept.
use Rattle.std.specs.Prelude.{ℕ, ◌≡◌, ◌<◌, true, false, List, Option, Some, None}
use Rattle.k_optab.specs.declared.event.Event.{Event}
use Rattle.k_ending.specs.declared.ending.End.{End}
use Rattle.k_mem.specs.declared.pointer.Pointer.{Pointer}
use Rattle.k_world.specs.Worlds.{World}
use Rattle.k_code.specs.Runs.{run_of}
use Rattle.k_code.specs.Steps.{Over}
use Rattle.k_hcpa_store.specs.Kept.{Kept as StoreKept}
use Rattle.k_carry.specs.Running.{StandsBehind, left_to_go}
use Rattle.k_carry.specs.Sources.{Setting}
use Rattle.k_carry_storage_pairs.specs.declared.access.Access.{Access}
use Rattle.k_carry_storage_pairs.specs.Kept.{Keeps, Kept, Knows, storage_of}
use Rattle.k_carry_storage_pairs.specs.Storage.{access}
use Rattle.k_carry_storage.specs.declared.table.Table.{Table}
use Rattle.k_carry_storage.specs.declared.told.StorageTold.{StorageTold}
use Rattle.k_carry_storage.specs.declared.walk.Program.{Program}
use Rattle.k_carry_storage.specs.Accesses.{accesses_of}
use Rattle.k_carry_storage.specs.Tables.{kept_at}

-- the setting that a program in memory stands for
abbrev pub setting_of : Program → Setting
setting_of p = record { code = p.code.now; input = p.input.now; budget = p.budget; depth = p.depth }

-- of each element are kept the operations that may be the first of an instance
pub record KnowsAll (depth : ℕ) (events : List Event) (accesses : List (Option Access)) (loads stores : Table) : Type 0 where
  pub of_loads : (element : Pointer) → Knows depth events accesses (access false element) (kept_at loads element)
  pub of_stores : (element : Pointer) → Knows depth events accesses (access true element) (kept_at stores element)

-- what is kept of a run that goes on
pub record IsKept (s : Setting) (k : StoreKept) (g : Kept) (loads stores : Table) : Type 0 where
  pub events : List Event
  pub stands : StandsBehind s events k
  pub keeps : Keeps s.code.regions s.depth events (accesses_of s.code s.input s.budget stands.count) g
  pub knows : KnowsAll s.depth events (accesses_of s.code s.input s.budget stands.count) loads stores

-- what is gathered of a run that has ended so
pub record IsOver (s : Setting) (g : Kept) (end : End) : Type 0 where
  pub count : ℕ
  pub world : World
  pub run : run_of s.code s.input s.budget count ≡ Over end world
  pub keeps : Keeps s.code.regions s.depth world.events (accesses_of s.code s.input s.budget count) g

-- a step of the run: it goes on, nearer to its end, or has ended
abbrev pub Stepped : Setting → StoreKept → Option End → StoreKept → Kept → Table → Table → Type 0
Stepped s old None new g loads stores = IsKept s new g loads stores × (left_to_go new < left_to_go old)
Stepped s old (Some end) new g loads stores = IsOver s g end

-- the end, and the loops and the flags of what was gathered
pub record IsToldOf (g : Kept) (end : End) (told : StorageTold) : Type 0 where
  pub ends : told.pairs.end ≡ end
  pub loops : told.pairs.loops ≡ storage_of g
  pub deep : told.deep ≡ g.deep
