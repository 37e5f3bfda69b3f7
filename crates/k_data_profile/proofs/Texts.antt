-- What the texts of a profile are made of, and that there is one of each.
use Rattle.std.proofs.Common.{◌≡◌, ℕ, ℤ, Bool, List, [], Option, Some, None, sym, ◌∙◌, subst}
use Rattle.k_dict_entries.specs.declared.entry.Entry.{Entry}
use Rattle.k_dict_saved.specs.declared.saved.Saved.{Saved}
use Rattle.k_selfpar.specs.Contexts.{AreContexts}
use Rattle.k_selfpar.specs.Rows.{AreRows}
use Rattle.k_selfpar.specs.declared.context.Context.{Context}
use Rattle.k_selfpar.specs.declared.row.Row.{Row}
use Rattle.k_selfpar.proofs.Siblings.{contexts_are_unique, rows_are_unique}
use Rattle.k_plan.specs.Plan.{CanPlan, IsAdvice}
use Rattle.k_plan.specs.declared.advice.Advice.{Advice}
use Rattle.k_plan.specs.Saving.{standard_limits}
use Rattle.k_plan.specs.declared.limits.Limits.{Limits}
use Rattle.k_report_profile.specs.Report.{HasManyContexts, IsPlanned, asked, nodes_of_profile}
use Rattle.k_report_profile.proofs.Reported.{one_plan}
use Rattle.k_data.specs.Document.{profile_json}
use Rattle.k_data.specs.Table.{rows_csv}
use Rattle.k_data_profile.specs.Laws.{DocumentIsUnique, TableIsUnique}
use Rattle.k_data_profile.specs.Shown.{IsDocument, IsTable, listed}

-- there is one document
pub document_is_unique : DocumentIsUnique
document_is_unique saved with_dict one other is r q =
    let rows : r.rows ≡ q.rows = rows_are_unique (nodes_of_profile saved) r.rows q.rows r.are_rows q.are_rows in
    let contexts : r.contexts ≡ q.contexts = contexts_are_unique saved.regions (nodes_of_profile saved) r.contexts q.contexts r.are_contexts q.are_contexts in
    let plan : r.plan ≡ q.plan =
    one_plan saved is q.contexts r.plan q.plan q.are_contexts (subst (λ (l : List Context). IsPlanned l r.plan) contexts r.planned) q.planned in
    r.is ∙ (λ i. profile_json saved.regions saved.exit saved.ops (rows i) (asked with_dict saved.dict) (listed (contexts i) (plan i)) (plan i)) ∙ sym q.is

-- and one table
pub table_is_unique : TableIsUnique
table_is_unique saved one other is r q =
    let rows : r.rows ≡ q.rows = rows_are_unique (nodes_of_profile saved) r.rows q.rows r.are_rows q.are_rows in
    r.is ∙ (λ i. rows_csv saved.regions (rows i)) ∙ sym q.is

-- the text with a plan is the document
pub planned_document : (saved : Saved) (with_dict : Bool) (rows : List Row) (contexts : List Context) (advice : Advice) (limit : Limits) (exit : ℤ)
    (dict : Option (List Entry)) (text : List ℕ) → AreRows (nodes_of_profile saved) rows → AreContexts saved.regions (nodes_of_profile saved) contexts
    → CanPlan contexts → limit ≡ standard_limits → exit ≡ saved.exit → dict ≡ asked with_dict saved.dict → IsAdvice limit contexts advice
    → text ≡ profile_json saved.regions exit saved.ops rows dict contexts (Some advice) → IsDocument saved with_dict text
planned_document saved with_dict rows contexts advice limit exit dict text are_rows are_contexts can limit_is exit_is dict_is is_advice is = record {
  rows = rows;
  contexts = contexts;
  plan = Some advice;
  are_rows = are_rows;
  are_contexts = are_contexts;
  planned = (can.few, subst (λ l. IsAdvice l contexts advice) limit_is is_advice);
  is = is ∙ (λ i. profile_json saved.regions (exit_is i) saved.ops rows (dict_is i) contexts (Some advice));
}

-- the text without one is the document of a profile with many contexts
pub wide_document : (saved : Saved) (with_dict : Bool) (rows : List Row) (contexts : List Context) (exit : ℤ) (dict : Option (List Entry)) (text : List ℕ)
    → AreRows (nodes_of_profile saved) rows → HasManyContexts saved → contexts ≡ [] → exit ≡ saved.exit → dict ≡ asked with_dict saved.dict
    → text ≡ profile_json saved.regions exit saved.ops rows dict contexts None → IsDocument saved with_dict text
wide_document saved with_dict rows contexts exit dict text are_rows many none exit_is dict_is is = record {
  rows = rows;
  contexts = many.0;
  plan = None;
  are_rows = are_rows;
  are_contexts = many.1;
  planned = many.2;
  is = is ∙ (λ i. profile_json saved.regions (exit_is i) saved.ops rows (dict_is i) (none i) None);
}

-- the text of rows is the table
pub rows_table : (saved : Saved) (rows : List Row) (text : List ℕ) → AreRows (nodes_of_profile saved) rows → text ≡ rows_csv saved.regions rows → IsTable saved text
rows_table saved rows text are_rows is = record { rows = rows; are_rows = are_rows; is = is }
