-- What the texts of a sum are made of, and that there is one of each.
use Rattle.std.proofs.Common.{◌≡◌, ◌<◌, ◌∙◌, ℕ, Bool, List, [], length, Option, Some, None, ap, arith, refl, subst, sym}
use Rattle.std.specs.Prelude.{All}
use Rattle.std.proofs.lemmas.List.Elements.{All-nil}
use Rattle.std.proofs.lemmas.Option.{none-some, same_Some}
use Rattle.k_optab.specs.declared.region.Region.{Region}
use Rattle.k_dict_entries.specs.declared.entry.Entry.{Entry}
use Rattle.k_plan.proofs.Exchange.{advice_is_unique}
use Rattle.k_plan.specs.Plan.{CanPlan, IsAdvice, ParentsComeFirst}
use Rattle.k_plan.specs.Saving.{standard_limits}
use Rattle.k_plan.specs.declared.advice.Advice.{Advice}
use Rattle.k_plan.specs.declared.limits.Limits.{Limits}
use Rattle.k_selfpar.proofs.Siblings.{rows_are_unique}
use Rattle.k_selfpar.proofs.Under.{one_list}
use Rattle.k_selfpar.specs.Rows.{AreRows}
use Rattle.k_selfpar.specs.declared.context.Context.{Context}
use Rattle.k_selfpar.specs.declared.row.Row.{Row}
use Rattle.k_report.specs.PlanLines.{NamesContexts}
use Rattle.k_report.specs.Report.{report_text}
use Rattle.k_report.specs.declared.heading.Heading.{Heading}
use Rattle.k_report.specs.declared.heading.Heading.TheVariants.{Runs}
use Rattle.k_report_profile.specs.Report.{IsPlanned, asked}
use Rattle.k_data.specs.Document.{sum_json}
use Rattle.k_data.specs.Table.{rows_csv}
use Rattle.k_data_profile.specs.Shown.{listed}
use Rattle.k_sum.specs.Laws.{forest_of}
use Rattle.k_sum.specs.declared.sum.Sum.{Sum}
use Rattle.k_sum_saved.specs.SumRules.{IsSum}
use Rattle.k_sum_report.specs.Laws.{SumDocumentIsUnique, SumReportIsUnique, SumTableIsUnique}
use Rattle.k_sum_report.specs.Parts.{AreParts, HasWideContexts}
use Rattle.k_sum_report.specs.SumReport.{AreSumContexts, IsSumDocument, IsSumReport, nodes_of_sum}
use Rattle.k_sum_report.specs.declared.parts.Parts.{Parts}
use Rattle.k_sum_report.proofs.Named.{sum_contexts, sum_plan, sum_rows}

-- contexts of a sum are one list
one_contexts : (sum : Sum) (one other : List Context) → AreSumContexts sum one → AreSumContexts sum other → one ≡ other
one_contexts sum one other a b = one_list sum.regions 0 0 (forest_of sum) one other a b

-- and have one plan, or none
one_plan : (sum : Sum) (is : IsSum sum) (contexts : List Context) (one other : Option Advice) → AreSumContexts sum contexts → IsPlanned contexts one
    → IsPlanned contexts other → one ≡ other
one_plan sum is contexts None None are p q = refl
one_plan sum is contexts None (Some b) are p q = absurd (omega (arith, p, q.0))
one_plan sum is contexts (Some a) None are p q = absurd (omega (arith, p.0, q))
one_plan sum is contexts (Some a) (Some b) are p q = ap Some (advice_is_unique standard_limits contexts a b (sum_plan sum is contexts are p.0) p.1 q.1)

pub sum_report_is_unique : SumReportIsUnique
sum_report_is_unique sum with_dict one other is r q =
    let rows : r.rows ≡ q.rows = rows_are_unique (nodes_of_sum sum) r.rows q.rows r.are_rows q.are_rows in
    let contexts : r.contexts ≡ q.contexts = one_contexts sum r.contexts q.contexts r.are_contexts q.are_contexts in
    let plan : r.plan ≡ q.plan =
    one_plan sum is q.contexts r.plan q.plan q.are_contexts (subst (λ (l : List Context). IsPlanned l r.plan) contexts r.planned) q.planned in
    r.is ∙ (λ i. report_text sum.regions (Runs sum.runs) sum.ops (rows i) (asked with_dict sum.dict) (contexts i) (plan i)) ∙ sym q.is

pub sum_document_is_unique : SumDocumentIsUnique
sum_document_is_unique sum with_dict one other is r q =
    let rows : r.rows ≡ q.rows = rows_are_unique (nodes_of_sum sum) r.rows q.rows r.are_rows q.are_rows in
    let contexts : r.contexts ≡ q.contexts = one_contexts sum r.contexts q.contexts r.are_contexts q.are_contexts in
    let plan : r.plan ≡ q.plan =
    one_plan sum is q.contexts r.plan q.plan q.are_contexts (subst (λ (l : List Context). IsPlanned l r.plan) contexts r.planned) q.planned in
    r.is ∙ (λ i. sum_json sum.regions sum.runs sum.ops (rows i) (asked with_dict sum.dict) (listed (contexts i) (plan i)) (plan i)) ∙ sym q.is

pub sum_table_is_unique : SumTableIsUnique
sum_table_is_unique sum one other is r q =
    let rows : r.rows ≡ q.rows = rows_are_unique (nodes_of_sum sum) r.rows q.rows r.are_rows q.are_rows in
    r.is ∙ (λ i. rows_csv sum.regions (rows i)) ∙ sym q.is

-- the parts of a sum whose contexts have a plan
pub planned_parts : (sum : Sum) → IsSum sum → (rows : List Row) → AreRows (nodes_of_sum sum) rows → (contexts : List Context) → AreSumContexts sum contexts
    → CanPlan contexts → (limit : Limits) → limit ≡ standard_limits → (advice : Advice) → IsAdvice limit contexts advice → NamesContexts contexts advice
    → AreParts sum (record { rows = rows; contexts = contexts; plan = Some advice })
planned_parts sum is rows are_rows contexts are can limit limit_is advice is_advice names = record {
  rows = are_rows;
  rows_named = sum_rows sum is rows are_rows;
  whole = contexts;
  are_contexts = are;
  planned = (can.few, subst (λ l. IsAdvice l contexts advice) limit_is is_advice);
  listed_are = refl;
  contexts_named = sum_contexts sum is contexts are;
  parents = can.parents;
  picks_named = λ x at. subst (NamesContexts contexts) (same_Some advice x at) names;
}

-- and of one that has more contexts than are planned
pub unplanned_parts : (sum : Sum) → IsSum sum → (rows : List Row) → AreRows (nodes_of_sum sum) rows → HasWideContexts sum → (contexts : List Context)
    → contexts ≡ [] → AreParts sum (record { rows = rows; contexts = contexts; plan = None })
unplanned_parts sum is rows are_rows many contexts none = record {
  rows = are_rows;
  rows_named = sum_rows sum is rows are_rows;
  whole = many.0;
  are_contexts = many.1;
  planned = many.2;
  listed_are = none;
  contexts_named = (let P : Context → Type 0 = λ c. c.region < length sum.regions in subst (λ l. All P l) (sym none) (All-nil P));
  parents = subst ParentsComeFirst (sym none) tt;
  picks_named = λ x at. absurd (none-some x at);
}

-- a report lists no context that has no plan
report_listed : (regions : List Region) (heading : Heading) (ops : ℕ) (rows : List Row) (dict : Option (List Entry)) (contexts : List Context)
    (plan : Option Advice)
    → report_text regions heading ops rows dict (listed contexts plan) plan ≡ report_text regions heading ops rows dict contexts plan
report_listed regions heading ops rows dict contexts None = refl
report_listed regions heading ops rows dict contexts (Some advice) = refl

-- the text of a sum's parts is its report
pub parts_report : (sum : Sum) (with_dict : Bool) (parts : Parts) → AreParts sum parts → (dict : Option (List Entry)) → dict ≡ asked with_dict sum.dict
    → (plan : Option Advice) → plan ≡ parts.plan → (text : List ℕ)
    → text ≡ report_text sum.regions (Runs sum.runs) sum.ops parts.rows dict parts.contexts plan → IsSumReport sum with_dict text
parts_report sum with_dict parts are dict dict_is plan plan_is text is = record {
  rows = parts.rows;
  contexts = are.whole;
  plan = parts.plan;
  are_rows = are.rows;
  are_contexts = are.are_contexts;
  planned = are.planned;
  is = is ∙ (λ i. report_text sum.regions (Runs sum.runs) sum.ops parts.rows (dict_is i) (are.listed_are i) (plan_is i))
      ∙ report_listed sum.regions (Runs sum.runs) sum.ops parts.rows (asked with_dict sum.dict) are.whole parts.plan;
}

-- and so is its document
pub parts_document : (sum : Sum) (with_dict : Bool) (parts : Parts) → AreParts sum parts → (dict : Option (List Entry)) → dict ≡ asked with_dict sum.dict
    → (plan : Option Advice) → plan ≡ parts.plan → (text : List ℕ)
    → text ≡ sum_json sum.regions sum.runs sum.ops parts.rows dict parts.contexts plan → IsSumDocument sum with_dict text
parts_document sum with_dict parts are dict dict_is plan plan_is text is = record {
  rows = parts.rows;
  contexts = are.whole;
  plan = parts.plan;
  are_rows = are.rows;
  are_contexts = are.are_contexts;
  planned = are.planned;
  is = is ∙ (λ i. sum_json sum.regions sum.runs sum.ops parts.rows (dict_is i) (are.listed_are i) (plan_is i));
}
