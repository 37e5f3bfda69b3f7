-- Believed with a public law.
-- THERE ARE dictionaries, and reports of profiles and of runs.
use Rattle.std.specs.Prelude.{ℕ, ◌<◌, ◌≤◌, Bool, List, length, Option, Ok}
use Rattle.k_optab.specs.declared.node.Node.{Node}
use Rattle.k_optab.specs.declared.region.Region.{Region}
use Rattle.k_optab.specs.Tree.{IsTree}
use Rattle.k_dict_entries.specs.Dictionary.{IsDictionaryOf}
use Rattle.k_dict_entries.specs.Trees.{Forest, Tree, alone, bare, grown, list_of}
use Rattle.k_dict_entries.specs.declared.entry.Entry.{Entry}
use Rattle.k_dict_saved.specs.Profile.{IsSaved, Reads}
use Rattle.k_dict_saved.specs.declared.saved.Saved.{Saved}
use Rattle.k_selfpar.specs.Contexts.{AreContexts}
use Rattle.k_selfpar.specs.Rows.{AreRows}
use Rattle.k_selfpar.specs.declared.context.Context.{Context}
use Rattle.k_selfpar.specs.declared.row.Row.{Row}
use Rattle.k_plan.specs.Plan.{CanPlan, IsAdvice}
use Rattle.k_plan.specs.declared.advice.Advice.{Advice}
use Rattle.k_plan.specs.Saving.{standard_limits}
use Rattle.k_report_profile.specs.Report.{IsReport}
use Rattle.k_report_profile.specs.RunReport.{IsRunReport, IsWhole, Ran}

-- each tree of instances has a dictionary
abbrev pub DictionariesExist : Type 0
DictionariesExist = (t : Tree) → (entries : List Entry) × IsDictionaryOf t entries

-- each instance of a forest is of one of so many regions
abbrev pub AreOfRegions : ℕ → Forest → Type 0
AreOfRegions count bare = Unit {0}
AreOfRegions count (grown label inner later) = (label.region < count) × AreOfRegions count inner × AreOfRegions count later

-- each tree of instances has rows
abbrev pub RowsExist : Type 0
RowsExist = (t : Tree) → (rows : List Row) × AreRows (list_of t) rows

-- each tree whose instances are of regions of a list has contexts
abbrev pub ContextsExist : Type 0
ContextsExist = (regions : List Region) (t : Tree) → AreOfRegions (length regions) (alone t) → (contexts : List Context) × AreContexts regions (list_of t) contexts

-- contexts that may have a plan by the standard limits have one
abbrev pub PlansExist : Type 0
PlansExist = (contexts : List Context) → CanPlan contexts → (advice : Advice) × IsAdvice standard_limits contexts advice

-- a profile that can be saved has a report
abbrev pub ProfileReportsExist : Type 0
ProfileReportsExist = (saved : Saved) (with_dict : Bool) → IsSaved saved → (text : List ℕ) × IsReport saved with_dict text

-- a profile that bytes spell has a report
abbrev pub ReadReportsExist : Type 0
ReadReportsExist = (bytes : List ℕ) (saved : Saved) (with_dict : Bool) → Reads bytes (Ok saved) → (text : List ℕ) × IsReport saved with_dict text

-- a run from which main returned, and whose tree has at most 2 ^ 59 instances, leaves a profile or none, and has a report
abbrev pub RunReportsExist : Type 0
RunReportsExist = (ran : Ran) (nodes : List Node) (with_dict : Bool) → IsWhole ran → IsTree ran.depth ran.events nodes → length nodes ≤ 576460752303423488
    → (profile : Option Saved) × (text : List ℕ) × IsRunReport ran with_dict profile text
