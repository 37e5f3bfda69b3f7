-- Believed with a public law.
-- What each event does to the summaries that a machine keeps: the statements of the laws.
use Rattle.std.specs.Prelude.{ℕ, ◌≡◌, ◌≢◌, ◌<◌, ◌≤◌, ◌⊎◌, true, List, [], ◌∷◌, ◌++◌, length, replicate, Option, Some, None}
use Rattle.k_num.specs.declared.place.Place.{Place}
use Rattle.k_optab.specs.declared.class.Class.{Class}
use Rattle.k_optab.specs.declared.event.Event.{Event}
use Rattle.k_optab.specs.declared.event.Event.TheVariants.{Op, Enter, Exit}
use Rattle.k_optab.specs.declared.event.Src.{Src}
use Rattle.k_optab.specs.declared.node.Node.{Node}
use Rattle.k_optab.specs.Open.{open_after}
use Rattle.k_optab.specs.Tree.{IsTree}
use Rattle.k_dict_entries.specs.Dictionary.{IsDictionary}
use Rattle.k_dict_entries.specs.declared.entry.Entry.{Entry}
use Rattle.k_hcpa_meaning.specs.Summed.{IsSummed}
use Rattle.k_hcpa_meaning.specs.Summing.{Summing, is_over, nothing_entered, operation_made, region_entered, regions_left}
use Rattle.k_hcpa_meaning.specs.Timed.{ArePaths}

-- before the first event
abbrev pub NothingIsSummed : Type 0
NothingIsSummed = (depth : ℕ) → IsSummed depth [] nothing_entered

-- behind an operation
abbrev pub OperationsAreSummed : Type 0
OperationsAreSummed =
    (depth : ℕ) (events : List Event) (s : Summing) (class : Class) (latency : ℕ) (sources : List Src) (place : Place)
    → events ≢ [] → IsSummed depth events s → IsSummed depth (events ++ Op class latency sources place ∷ []) (operation_made latency s)

-- behind the entry of an instance, which is the first event or lies within an open instance
abbrev pub EntriesAreSummed : Type 0
EntriesAreSummed =
    (depth : ℕ) (events : List Event) (s : Summing) (region : ℕ)
    → (events ≡ []) ⊎ (0 < s.opened) → IsSummed depth events s → IsSummed depth (events ++ Enter region ∷ []) (region_entered depth region s)

-- behind the ends of the innermost instances, where these are the paths of the open ones
abbrev pub ExitsAreSummed : Type 0
ExitsAreSummed =
    (depth : ℕ) (events : List Event) (s : Summing) (paths : List ℕ) (count : ℕ)
    → 1 ≤ depth → count ≤ length (open_after events) → ArePaths depth events paths → IsSummed depth events s
    → IsSummed depth (events ++ replicate count Exit) (regions_left depth paths count s)

-- the entries are the dictionary of the tree, or that is over the limits
abbrev pub IsWhole : List Node → Option (List Entry) → Type 0
IsWhole nodes (Some entries) = IsDictionary nodes entries
IsWhole nodes None = (entries : List Entry) × IsDictionary nodes entries × (is_over entries ≡ true)

-- where nothing is open behind some events, what is kept is the dictionary of their tree
abbrev pub RunsHaveDictionaries : Type 0
RunsHaveDictionaries =
    (depth : ℕ) (events : List Event) (s : Summing) → events ≢ [] → s.opened ≡ 0 → IsSummed depth events s
    → (nodes : List Node) × IsTree depth events nodes × IsWhole nodes s.dict
