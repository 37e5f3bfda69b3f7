-- For contracts between crates: nobody has to believe it.
-- The rows, the contexts and the plan of a sum, as its texts are made of them.
use Rattle.std.specs.Prelude.{◌<◌, ◌≡◌, All, List, length}
use Rattle.std.specs.Option.{ForSome}
use Rattle.k_plan.specs.Plan.{ParentsComeFirst}
use Rattle.k_selfpar.specs.Rows.{AreRows}
use Rattle.k_selfpar.specs.declared.context.Context.{Context}
use Rattle.k_selfpar.specs.declared.row.Row.{Row}
use Rattle.k_report.specs.PlanLines.{NamesContexts}
use Rattle.k_report_profile.specs.Report.{IsPlanned}
use Rattle.k_data_profile.specs.Shown.{listed}
use Rattle.k_sum.specs.declared.sum.Sum.{Sum}
use Rattle.k_sum_report.specs.SumReport.{AreSumContexts, nodes_of_sum}
use Rattle.k_sum_report.specs.declared.parts.Parts.{Parts}

-- a sum has more contexts than are planned
abbrev pub HasWideContexts : Sum → Type 0
HasWideContexts sum = (contexts : List Context) × AreSumContexts sum contexts × (65536 < length contexts)

-- these are the rows of a sum, its contexts where they have a plan, and the plan; they name regions and contexts that are there
pub record AreParts (sum : Sum) (parts : Parts) : Type 0 where
  pub rows : AreRows (nodes_of_sum sum) parts.rows
  pub rows_named : All (λ (row : Row). row.region < length sum.regions) parts.rows
  pub whole : List Context
  pub are_contexts : AreSumContexts sum whole
  pub planned : IsPlanned whole parts.plan
  pub listed_are : parts.contexts ≡ listed whole parts.plan
  pub contexts_named : All (λ (c : Context). c.region < length sum.regions) parts.contexts
  pub parents : ParentsComeFirst parts.contexts
  pub picks_named : ForSome parts.plan (NamesContexts parts.contexts)
