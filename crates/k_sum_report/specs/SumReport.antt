-- Believed with a public law.
-- *Report of a sum*: what `show` writes of it. Its instances are those of its runs, side by side.
use Rattle.std.specs.Prelude.{ℕ, ◌≡◌, Bool, List, Option}
use Rattle.k_optab.specs.declared.node.Node.{Node}
use Rattle.k_dict_entries.specs.Trees.{nodes_of}
use Rattle.k_selfpar.specs.Contexts.{AreUnder}
use Rattle.k_selfpar.specs.Rows.{AreRows}
use Rattle.k_selfpar.specs.declared.context.Context.{Context}
use Rattle.k_selfpar.specs.declared.row.Row.{Row}
use Rattle.k_plan.specs.declared.advice.Advice.{Advice}
use Rattle.k_report.specs.declared.heading.Heading.TheVariants.{Runs}
use Rattle.k_report_profile.specs.Report.{IsPlanned, IsReportOn, asked}
use Rattle.k_data.specs.Document.{sum_json}
use Rattle.k_data_profile.specs.Shown.{IsTableOf, listed}
use Rattle.k_sum.specs.Laws.{forest_of}
use Rattle.k_sum.specs.declared.sum.Sum.{Sum}

-- the instances of a sum's runs
abbrev pub nodes_of_sum : Sum → List Node
nodes_of_sum sum = nodes_of 0 (forest_of sum)

-- their contexts: the roots of all runs are side by side
abbrev pub AreSumContexts : Sum → List Context → Type 0
AreSumContexts sum contexts = AreUnder sum.regions 0 0 (forest_of sum) contexts

-- the report of a sum: as that of a profile, with how many runs there were in place of what main returned
abbrev pub IsSumReport : Sum → Bool → List ℕ → Type 0
IsSumReport sum with_dict text = IsReportOn sum.regions (Runs sum.runs) sum.ops (nodes_of_sum sum) (AreSumContexts sum) (asked with_dict sum.dict) text

-- the document of a sum
pub record IsSumDocument (sum : Sum) (with_dict : Bool) (text : List ℕ) : Type 0 where
  pub rows : List Row
  pub contexts : List Context
  pub plan : Option Advice
  pub are_rows : AreRows (nodes_of_sum sum) rows
  pub are_contexts : AreSumContexts sum contexts
  pub planned : IsPlanned contexts plan
  pub is : text ≡ sum_json sum.regions sum.runs sum.ops rows (asked with_dict sum.dict) (listed contexts plan) plan

-- the table of a sum
abbrev pub IsSumTable : Sum → List ℕ → Type 0
IsSumTable sum text = IsTableOf sum.regions (nodes_of_sum sum) text
