-- Believed with a public law.
-- A run of valid code from which main returned: what its events are, and what its tree and the dictionary of that are. The statements of the laws.
use Rattle.std.specs.Prelude.{ℕ, ◌≡◌, ◌≤◌, ℤ, List, [], ◌∷◌, ◌++◌, length, slice_get, Some, None}
use Rattle.k_optab.specs.declared.event.Event.{Event}
use Rattle.k_optab.specs.declared.event.Event.TheVariants.{Enter, Exit}
use Rattle.k_optab.specs.declared.node.Node.{Node}
use Rattle.k_optab.specs.Entered.{EnterBelow}
use Rattle.k_optab.specs.Events.{SourcesAreEarlier, operations, total_latency}
use Rattle.k_optab.specs.Instances.{Balanced, tracked}
use Rattle.k_optab.specs.Meaning.{HaveBoundedPaths}
use Rattle.k_optab.specs.Tree.{IsTree}
use Rattle.k_ending.specs.declared.ending.End.TheVariants.{Returned}
use Rattle.k_world.specs.Worlds.{World}
use Rattle.k_code.specs.declared.code.Code.{Code}
use Rattle.k_code.specs.declared.code.CodeFunc.{CodeFunc}
use Rattle.k_code.specs.Runs.{EndsAfter}
use Rattle.k_code.specs.Valid.{IsValid}
use Rattle.k_dict_entries.specs.Dictionary.{IsDictionary, refusal}
use Rattle.k_dict_entries.specs.Rules.{AreProfile, NameRegions}
use Rattle.k_dict_entries.specs.declared.entry.Entry.{Entry}

-- The events are one instance of main's region, with all others within it, each of which was left; all are of regions of the program. Each operation
-- names earlier ones, all together take at most 2^44, and at most 2^59 instances are tracked.
pub record IsOneInstance (code : Code) (events : List Event) : Type 0 where
  pub main : CodeFunc
  pub there : slice_get code.funcs code.main ≡ Some main
  pub inside : List Event
  pub whole : events ≡ Enter main.region ∷ (inside ++ Exit ∷ [])
  pub balanced : Balanced inside
  pub entered : EnterBelow (length code.regions) events
  pub sources : SourcesAreEarlier (operations events)
  pub work : total_latency (operations events) ≤ 17592186044416
  pub few : (depth : ℕ) → length (tracked depth events) ≤ 576460752303423488

-- so it is where main returns
abbrev pub ReturnedRunsAreOneInstance : Type 0
ReturnedRunsAreOneInstance =
    (code : Code) → IsValid code → (input : List ℕ) (budget count : ℕ) (exit : ℤ) (w : World) → budget ≤ 1000000000
    → EndsAfter code input budget count (Returned exit) w → IsOneInstance code w.events

-- entries are those of a profile, and name regions of the program
abbrev pub MeetRules : Code → List Entry → Type 0
MeetRules code entries = AreProfile entries × NameRegions (length code.regions) entries

-- Each instance of the run's tree, to a depth of at most 32, has a bounded path; and the tree's dictionary, where it is within its limits, meets the rules.
abbrev pub ReturnedRunsHaveProfiles : Type 0
ReturnedRunsHaveProfiles =
    (code : Code) (events : List Event) (depth : ℕ) (nodes : List Node) → IsOneInstance code events → depth ≤ 32 → IsTree depth events nodes
    → HaveBoundedPaths nodes × ((entries : List Entry) → IsDictionary nodes entries → refusal 0 0 entries ≡ None → MeetRules code entries)
