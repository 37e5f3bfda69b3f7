-- Believed with the theorem on the top call.
-- *Report of a profile*: what `show` writes, and `run` behind the program's output.
use Rattle.std.specs.Prelude.{ℕ, ℤ, ◌≡◌, ◌<◌, ◌≤◌, ◌-◌, Bool, if◌then◌else◌, List, length, Option, Some, None}
use Rattle.k_optab.specs.declared.node.Node.{Node}
use Rattle.k_optab.specs.declared.region.Region.{Region}
use Rattle.k_dict_entries.specs.Entries.{expansion}
use Rattle.k_dict_entries.specs.declared.entry.Entry.{Entry}
use Rattle.k_dict_saved.specs.declared.saved.Saved.{Saved}
use Rattle.k_selfpar.specs.Contexts.{AreContexts}
use Rattle.k_selfpar.specs.Rows.{AreRows}
use Rattle.k_selfpar.specs.declared.context.Context.{Context}
use Rattle.k_selfpar.specs.declared.row.Row.{Row}
use Rattle.k_plan.specs.Plan.{IsAdvice}
use Rattle.k_plan.specs.declared.advice.Advice.{Advice}
use Rattle.k_plan.specs.Saving.{standard_limits}
use Rattle.k_report.specs.declared.heading.Heading.{Heading}
use Rattle.k_report.specs.declared.heading.Heading.TheVariants.{Exit}
use Rattle.k_report.specs.Report.{report_text}

-- the instances that a profile stands for: those of its last entry
abbrev pub nodes_of_profile : Saved → List Node
nodes_of_profile saved = expansion saved.dict (length saved.dict - 1)

-- there is a plan exactly where there are at most 65,536 contexts, and it is that of the standard limits
abbrev pub IsPlanned : List Context → Option Advice → Type 0
IsPlanned contexts None = 65536 < length contexts
IsPlanned contexts (Some advice) = (length contexts ≤ 65536) × IsAdvice standard_limits contexts advice

-- a profile has more contexts than are planned
abbrev pub HasManyContexts : Saved → Type 0
HasManyContexts saved = (contexts : List Context) × AreContexts saved.regions (nodes_of_profile saved) contexts × (65536 < length contexts)

-- the report on instances, of which these are the contexts: their rows, the entries of a dictionary where one is given, and the plan of
-- their contexts
pub record IsReportOn (regions : List Region) (heading : Heading) (ops : ℕ) (nodes : List Node) (AreTheirs : List Context → Type 0)
    (dict : Option (List Entry)) (text : List ℕ) : Type 0 where
  pub rows : List Row
  pub contexts : List Context
  pub plan : Option Advice
  pub are_rows : AreRows nodes rows
  pub are_contexts : AreTheirs contexts
  pub planned : IsPlanned contexts plan
  pub is : text ≡ report_text regions heading ops rows dict contexts plan

-- the report on the instances of one run
abbrev pub IsReportOf : List Region → ℤ → ℕ → List Node → Option (List Entry) → List ℕ → Type 0
IsReportOf regions exit ops nodes dict text = IsReportOn regions (Exit exit) ops nodes (AreContexts regions nodes) dict text

-- a dictionary, where it is asked for
abbrev pub asked : Bool → List Entry → Option (List Entry)
asked with_dict entries = if with_dict then Some entries else None

-- the report of a profile, with its dictionary where it is asked for
abbrev pub IsReport : Saved → Bool → List ℕ → Type 0
IsReport saved with_dict text = IsReportOf saved.regions saved.exit saved.ops (nodes_of_profile saved) (asked with_dict saved.dict) text
