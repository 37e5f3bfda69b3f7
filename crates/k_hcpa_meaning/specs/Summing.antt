-- Believed with a public law.
-- The summaries that a machine keeps, and what each event does to them.
use Rattle.std.specs.Prelude.{ℕ, zero, suc, ◌+◌, ◌-◌, nat_lt, nat_le, ◌||◌, Bool, if◌then◌else◌, List, [], ◌∷◌, ◌++◌, length, Option, Some, None}
use Rattle.k_dict_entries.specs.Entries.{all_runs}
use Rattle.k_dict_entries.specs.Gathering.{number_of, with_entry}
use Rattle.k_dict_entries.specs.Tallies.{counted}
use Rattle.k_dict_entries.specs.declared.entry.Entry.{Entry}
use Rattle.k_dict_entries.specs.declared.entry.Run.{Run}

-- an open tracked instance: its region, the work of all operations before it, and its closed children, as runs by rising entry
pub record Opened : Type 0 where
  pub region : ℕ
  pub before : ℕ
  pub runs : List Run

-- The open tracked instances, the innermost first; how many instances are open in all, and how many were ever entered; the work of all operations
-- so far; and the entries of the closed ones, None where they passed the limits.
pub record Summing : Type 0 where
  pub levels : List Opened
  pub opened : ℕ
  pub entered : ℕ
  pub work : ℕ
  pub dict : Option (List Entry)

-- nothing was entered
abbrev pub nothing_entered : Summing
nothing_entered = record { levels = []; opened = 0; entered = 0; work = 0; dict = Some [] }

-- an instance of a region is entered
abbrev pub with_level : ℕ → ℕ → Summing → List Opened
with_level depth region s = if nat_lt s.opened depth then record { region = region; before = s.work; runs = [] } ∷ s.levels else s.levels

-- an instance of a region is entered, which has a level where fewer than `depth` are open
unfoldable pub region_entered : ℕ → ℕ → Summing → Summing
region_entered depth region s = record s { levels = with_level depth region s; opened = s.opened + 1; entered = s.entered + 1 }

-- an operation of this latency is made
abbrev pub operation_made : ℕ → Summing → Summing
operation_made latency s = record s { work = s.work + latency }

-- the entry of an instance that is left with this path, where so much work was done in all
abbrev pub summary_of : Opened → ℕ → ℕ → Entry
summary_of l work path = record { region = l.region; work = work - l.before; path = path; runs = l.runs }

-- whether entries are over the limits of a dictionary
abbrev pub is_over : List Entry → Bool
is_over entries = nat_lt 1048576 (length entries) || nat_lt 16777216 (all_runs entries)

-- entries that are over the limits are kept no more
abbrev pub within_limits : List Entry → Option (List Entry)
within_limits entries = if is_over entries then None else Some entries

-- one child more of that entry for the innermost open instance
abbrev pub with_child : ℕ → List Opened → List Opened
with_child number [] = []
with_child number (l ∷ levels) = record l { runs = counted number 1 l.runs } ∷ levels

-- the child is counted where the entries are kept
abbrev pub counted_if_kept : Option (List Entry) → ℕ → List Opened → List Opened
counted_if_kept None number outer = outer
counted_if_kept (Some entries) number outer = with_child number outer

-- the entry of an instance that is left is among the entries, and counted among the children of the one around it
abbrev pub interned : Entry → List Opened → List Entry → Summing → Summing
interned e outer entries s = record s {
  levels = counted_if_kept (within_limits (with_entry entries e)) (number_of entries e) outer;
  opened = s.opened - 1;
  dict = within_limits (with_entry entries e);
}

-- the innermost tracked instance is left, with this path; over the limits nothing more is kept of it
abbrev pub level_closed : ℕ → Opened → List Opened → Option (List Entry) → Summing → Summing
level_closed path l outer None s = record s { levels = outer; opened = s.opened - 1 }
level_closed path l outer (Some entries) s = interned (summary_of l s.work path) outer entries s

-- the innermost of the tracked instances is left, if there is one
abbrev pub innermost_closed : ℕ → List Opened → Summing → Summing
innermost_closed path [] s = record s { opened = s.opened - 1 }
innermost_closed path (l ∷ outer) s = level_closed path l outer s.dict s

-- the innermost instance is left, with this path where it has a level
unfoldable pub region_left : ℕ → ℕ → Summing → Summing
region_left depth path s = if nat_lt depth s.opened then record s { opened = s.opened - 1 } else innermost_closed path s.levels s

-- the last of a list of paths, outermost first
abbrev pub last_path : List ℕ → ℕ
last_path [] = 0
last_path (path ∷ []) = path
last_path (path ∷ other ∷ paths) = last_path (other ∷ paths)

-- the list without its last
abbrev pub paths_outside : List ℕ → List ℕ
paths_outside [] = []
paths_outside (path ∷ []) = []
paths_outside (path ∷ other ∷ paths) = path ∷ paths_outside (other ∷ paths)

-- the innermost instances are left, so many, of which those that have a level have these paths, outermost first
abbrev pub regions_left : ℕ → List ℕ → ℕ → Summing → Summing
regions_left depth paths zero s = s
regions_left depth paths (suc n) s =
    regions_left depth (if nat_lt depth s.opened then paths else paths_outside paths) n (region_left depth (last_path paths) s)
