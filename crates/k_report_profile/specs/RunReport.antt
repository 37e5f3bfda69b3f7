-- Believed with the theorem on the top call.
-- *Report of a run*: what `run` writes behind the program's output where main returned, and what it saves.
use Rattle.std.specs.Prelude.{ℕ, ℤ, ◌≡◌, ◌≤◌, ◌^◌, Bool, List, length, Option, Some, None, FitsSigned}
use Rattle.std.specs.Int.{w32}
use Rattle.k_optab.specs.declared.event.Event.{Event}
use Rattle.k_optab.specs.declared.node.Node.{Node}
use Rattle.k_optab.specs.declared.region.Region.{Region}
use Rattle.k_optab.specs.Entered.{EnterBelow, IsOfMain}
use Rattle.k_optab.specs.Events.{SourcesAreEarlier, operations, total_latency}
use Rattle.k_optab.specs.Tree.{IsTree}
use Rattle.k_dict_entries.specs.Dictionary.{IsDictionary, refusal}
use Rattle.k_dict_entries.specs.declared.dict.Which.{Which}
use Rattle.k_dict_entries.specs.declared.entry.Entry.{Entry}
use Rattle.k_dict_saved.specs.Files.{AreRegions}
use Rattle.k_report.specs.Report.{large_text}
use Rattle.k_dict_saved.specs.declared.saved.Saved.{Saved}
use Rattle.k_report_profile.specs.Report.{IsReportOf, asked}

-- a run from which main returned: what main returned, the events, the regions of the program, and below which depth instances are tracked
pub record Ran : Type 0 where
  pub exit : ℤ
  pub events : List Event
  pub regions : List Region
  pub depth : ℕ

-- how many operations it made
abbrev pub ops_of : Ran → ℕ
ops_of ran = length (operations ran.events)

-- a run of which a report can be made, as it is where main returns: its operations are few and take not too long, its events are
-- one instance of main, and instances are tracked to a depth of 1 to 32
pub record IsWhole (ran : Ran) : Type 0 where
  pub exit : FitsSigned w32 ran.exit
  pub sources : SourcesAreEarlier (operations ran.events)
  pub few : ops_of ran ≤ 1000000000
  pub work : total_latency (operations ran.events) ≤ 17592186044416
  pub regions : AreRegions ran.regions
  pub entered : EnterBelow (length ran.regions) ran.events
  pub main : IsOfMain ran.regions ran.events
  pub some : 1 ≤ ran.depth
  pub tracked : ran.depth ≤ 32

-- the profile of a run: its end and its operations, the regions, and the dictionary of its tree, which is within its limits
pub record IsProfileOf (ran : Ran) (nodes : List Node) (saved : Saved) : Type 0 where
  pub exit : saved.exit ≡ ran.exit
  pub ops : saved.ops ≡ ops_of ran
  pub regions : saved.regions ≡ ran.regions
  pub dict : IsDictionary nodes saved.dict
  pub within : refusal 0 0 saved.dict ≡ None

-- the dictionary of these instances passes one of its limits
pub record IsLarge (nodes : List Node) : Type 0 where
  pub entries : List Entry
  pub which : Which
  pub dict : IsDictionary nodes entries
  pub passed : refusal 0 0 entries ≡ Some which

-- the profile and the report of a run, or the report where its dictionary is over its limits
pub data IsRunReport (ran : Ran) (with_dict : Bool) : Option Saved → List ℕ → Type 0 where
  whole : (nodes : List Node) (saved : Saved) (text : List ℕ) → IsTree ran.depth ran.events nodes → IsProfileOf ran nodes saved
      → IsReportOf ran.regions ran.exit (ops_of ran) nodes (asked with_dict saved.dict) text
      → IsRunReport ran with_dict (Some saved) text
  large : (nodes : List Node) → IsTree ran.depth ran.events nodes → IsLarge nodes → IsRunReport ran with_dict None (large_text ran.exit (ops_of ran))
