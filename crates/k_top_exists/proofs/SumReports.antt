-- A sum that can be saved can be shown in each form.
use Rattle.std.proofs.Common.{inl, inr, ℕ, suc, Bool, List, length, Option, Some, None, refl, arith}
use Rattle.std.proofs.lemmas.Bool.{cases_lt}
use Rattle.k_dict_entries.specs.Trees.{size}
use Rattle.k_data.specs.Document.{sum_json}
use Rattle.k_data.specs.Table.{rows_csv}
use Rattle.k_data_profile.specs.Shown.{listed}
use Rattle.k_plan.specs.declared.advice.Advice.{Advice}
use Rattle.k_report.specs.Report.{report_text}
use Rattle.k_report.specs.declared.heading.Heading.TheVariants.{Runs}
use Rattle.k_report_profile.specs.Report.{IsPlanned, asked}
use Rattle.k_selfpar.proofs.Under.{has_contexts}
use Rattle.k_selfpar.specs.Rows.{AreRows}
use Rattle.k_selfpar.specs.declared.context.Context.{Context}
use Rattle.k_selfpar.specs.declared.row.Row.{Row}
use Rattle.k_sum.specs.Laws.{forest_of}
use Rattle.k_sum.specs.declared.sum.Sum.{Sum}
use Rattle.k_sum_report.proofs.Named.{forest_named, sum_plan}
use Rattle.k_sum_report.specs.SumReport.{AreSumContexts, IsSumDocument, IsSumReport, IsSumTable, nodes_of_sum}
use Rattle.k_sum_saved.specs.SumRules.{IsSum}
use Rattle.k_words.specs.declared.job.Form.{Form}
use Rattle.k_words.specs.declared.job.Form.TheVariants as shown
use Rattle.k_top_answers.specs.Answers.{IsSumShown}
use Rattle.k_top_exists.proofs.ReportParts.{plans_exist}
use Rattle.k_top_exists.proofs.RowsOfTrees.{list_has_rows}

module _ (sum : Sum) (is : IsSum sum) where
  -- its contexts
  sum_contexts : (contexts : List Context) × AreSumContexts sum contexts
  sum_contexts = has_contexts sum.regions (suc (size (forest_of sum))) (forest_of sum) (omega arith) (forest_named sum is) 0 0

  -- they have a plan, or are too many for one
  sum_planned : (contexts : List Context) → AreSumContexts sum contexts → (plan : Option Advice) × IsPlanned contexts plan
  sum_planned contexts are = elim (cases_lt 65536 (length contexts)) [
    | inl many ↦ (None, many)
    | inr few ↦ (let advice = plans_exist contexts (sum_plan sum is contexts are few) in (Some advice.0, (few, advice.1)))
  ]

  -- what its texts are made of
  record HasSumParts : Type 0 where
    rows : List Row
    contexts : List Context
    plan : Option Advice
    are_rows : AreRows (nodes_of_sum sum) rows
    are_contexts : AreSumContexts sum contexts
    planned : IsPlanned contexts plan

  sum_parts : HasSumParts
  sum_parts =
      let rows = list_has_rows (nodes_of_sum sum) in
      let contexts = sum_contexts in
      let plan = sum_planned contexts.0 contexts.1 in
      record { rows = rows.0; contexts = contexts.0; plan = plan.0; are_rows = rows.1; are_contexts = contexts.1; planned = plan.1 }

  sum_reports : (with_dict : Bool) → (text : List ℕ) × IsSumReport sum with_dict text
  sum_reports with_dict =
      let p : HasSumParts = sum_parts in (
        report_text sum.regions (Runs sum.runs) sum.ops p.rows (asked with_dict sum.dict) p.contexts p.plan,
        record { rows = p.rows; contexts = p.contexts; plan = p.plan; are_rows = p.are_rows; are_contexts = p.are_contexts; planned = p.planned; is = refl },
      )

  sum_documents : (with_dict : Bool) → (text : List ℕ) × IsSumDocument sum with_dict text
  sum_documents with_dict =
      let p : HasSumParts = sum_parts in (
        sum_json sum.regions sum.runs sum.ops p.rows (asked with_dict sum.dict) (listed p.contexts p.plan) p.plan,
        record { rows = p.rows; contexts = p.contexts; plan = p.plan; are_rows = p.are_rows; are_contexts = p.are_contexts; planned = p.planned; is = refl },
      )

  sum_tables : (text : List ℕ) × IsSumTable sum text
  sum_tables = let rows = list_has_rows (nodes_of_sum sum) in (rows_csv sum.regions rows.0, record { rows = rows.0; are_rows = rows.1; is = refl })

-- it can be shown in each form
pub sum_is_shown : (form : Form) (sum : Sum) → IsSum sum → (text : List ℕ) × IsSumShown form sum text
sum_is_shown (shown.Report dict) sum is = sum_reports sum is dict
sum_is_shown (shown.Json dict) sum is = sum_documents sum is dict
sum_is_shown shown.Csv sum is = sum_tables sum is
