-- For contracts between crates: nobody has to believe it.
-- What a machine keeps, and where in a run it stands by that.
use Rattle.std.specs.Prelude.{ℕ, ◌≡◌, Bool, true, false, List, [], map, Option, Some, None}
use Rattle.std.specs.List.{range_with_len}
use Rattle.k_ending.specs.declared.ending.End.{End}
use Rattle.k_ending.specs.declared.ending.End.TheVariants.{Returned}
use Rattle.k_world.specs.Worlds.{World}
use Rattle.k_code.specs.Runs.{start}
use Rattle.k_code.specs.Steps.{Over}
use Rattle.k_dict_entries.specs.declared.entry.Entry.{Entry}
use Rattle.k_hcpa_meaning.specs.Summing.{Summing, nothing_entered}
use Rattle.k_hcpa_standing.specs.Standing.{IsSetting, Setting}
use Rattle.k_hcpa_store.specs.Kept.{configuration_of}
use Rattle.k_hcpa_times.specs.Seen.{Seen}
use Rattle.k_hcpa_steps.specs.declared.parts.Parts.{Parts}
use Rattle.k_hcpa_steps.specs.declared.turn.Turn.{Turn}
use Rattle.k_hcpa_steps.specs.declared.turn.Turn.TheVariants as turn
use Rattle.k_hcpa_steps.specs.Keeping.{Keeping, StandsAt, StopsAt, keeping}
use Rattle.k_hcpa.specs.declared.profile.Summary.{Summary}
use Rattle.k_hcpa.specs.declared.profile.Summary.TheVariants as summary
use Rattle.k_hcpa.specs.Machines.{KeptTimes, Moment}

-- the output that waits to be taken
abbrev pub pending_in : {T : Type 0} → Option (Parts T) → List ℕ
pending_in None = []
pending_in (Some p) = let w : World = (configuration_of p.store).world in w.output

-- the times of each location below a limit, for each level one
unfoldable pub listed : ℕ → List (ℕ → ℕ) → List (List ℕ)
listed limit levels = map (λ (times : ℕ → ℕ). map times (range_with_len 0 limit)) levels

-- the times of all locations, but for those of the operation that is being made
abbrev pub times_of : Seen → KeptTimes
times_of s = record {
  registers = listed s.registers s.timing.registers;
  elements = listed s.elements s.timing.elements;
  in_cell = s.timing.in_cell;
  out_cell = s.timing.out_cell;
  control = s.timing.control;
  saved = s.timing.saved;
}

-- no level is live
abbrev pub no_times : KeptTimes
no_times = record { registers = []; elements = []; in_cell = []; out_cell = []; control = []; saved = [] }

-- the times of the parts
abbrev pub times_in : {T : Type 0} → (T → Seen) → Option (Parts T) → KeptTimes
times_in seen None = no_times
times_in seen (Some p) = times_of (seen p.times)

-- their paths
abbrev pub paths_in : {T : Type 0} → (T → Seen) → Option (Parts T) → List ℕ
paths_in seen None = []
paths_in seen (Some p) = (seen p.times).timing.paths

-- their summaries
abbrev pub summing_in : {T : Type 0} → Option (Parts T) → Summing
summing_in None = nothing_entered
summing_in (Some p) = p.summaries

-- where a machine is that has this
abbrev pub moment_of : {T : Type 0} → (T → Seen) → Setting → ℕ → Option (Parts T) → Moment
moment_of seen s count parts = record {
  setting = s;
  count = count;
  pending = pending_in parts;
  times = times_in seen parts;
  paths = paths_in seen parts;
  summing = summing_in parts;
}

-- what the parts keep
abbrev pub kept_by : {T : Type 0} → (T → Seen) → Parts T → Keeping
kept_by seen p = keeping p.store (seen p.times) p.summaries

-- the run had ended so before its first instruction, with no event and no output
pub record EndedAtOnce (s : Setting) (count : ℕ) (end : End) : Type 0 where
  pub none : count ≡ 0
  pub world : World
  pub is : start s.code s.input s.budget ≡ Over end world
  pub events : world.events ≡ []
  pub output : world.output ≡ []

-- the run goes on where no end is known, and is over where one is
abbrev pub IsKept : {T : Type 0} → (T → Seen) → Setting → ℕ → Option End → Option (Parts T) → Type 0
IsKept seen s count None None = ⊥
IsKept seen s count None (Some p) = (p.depth ≡ s.depth) × ((taken : ℕ) × StandsAt s count taken (kept_by seen p))
IsKept seen s count (Some end) None = EndedAtOnce s count end
IsKept seen s count (Some end) (Some p) = (taken : ℕ) × StopsAt s count taken end (kept_by seen p)

-- a machine of this setting, after so many instructions
pub record IsMachine {T : Type 0} (seen : T → Seen) (s : Setting) (count : ℕ) (end : Option End) (parts : Option (Parts T)) : Type 0 where
  pub setting : IsSetting s
  pub kept : IsKept seen s count end parts

-- the end that a turn tells
abbrev pub end_told : Turn → Option End
end_told turn.Went = None
end_told turn.Wrote = None
end_told (turn.Ended end) = Some end

-- what is told of a dictionary, if it is kept
abbrev pub dictionary_told : Option (List Entry) → Summary
dictionary_told None = summary.Large
dictionary_told (Some entries) = summary.Whole entries

-- of that of the parts, where there are any
abbrev pub summary_told : {T : Type 0} → Option (Parts T) → Summary
summary_told None = summary.Missing
summary_told (Some p) = let sum : Summing = p.summaries in dictionary_told sum.dict

-- main has returned
abbrev pub is_returned : Option End → Bool
is_returned (Some (Returned exit)) = true
is_returned end = false
