-- What a report is made of, and that there is one.
use Rattle.std.proofs.Common.{◌≡◌, ℕ, ℤ, ◌+◌, ◌-◌, ◌<◌, ◌≤◌, Bool, List, length, Option, Some, None, refl, sym, ap, ◌∙◌, subst, arith}
use Rattle.std.specs.Prelude.{All}
use Rattle.k_dict_entries.specs.Trees.{Tree, alone}
use Rattle.k_dict_entries.specs.Entries.{expansion, tree_at}
use Rattle.k_dict_entries.specs.declared.entry.Entry.{Entry}
use Rattle.k_dict_entries.proofs.Lists.{same_tree}
use Rattle.k_dict_saved.specs.Profile.{IsSaved}
use Rattle.k_dict_saved.specs.declared.saved.Saved.{Saved}
use Rattle.k_selfpar.specs.Contexts.{AreContexts, AreUnder}
use Rattle.k_selfpar.specs.Rows.{AreRows}
use Rattle.k_selfpar.specs.declared.context.Context.{Context}
use Rattle.k_selfpar.specs.declared.row.Row.{Row}
use Rattle.k_selfpar.proofs.Nested.{contexts_can_be_planned}
use Rattle.k_selfpar.proofs.Siblings.{contexts_are_unique, rows_are_unique}
use Rattle.k_plan.specs.Plan.{CanPlan, IsAdvice}
use Rattle.k_plan.specs.declared.advice.Advice.{Advice}
use Rattle.k_plan.specs.Saving.{standard_limits}
use Rattle.k_plan.specs.declared.limits.Limits.{Limits}
use Rattle.k_plan.proofs.Exchange.{advice_is_unique}
use Rattle.k_report.specs.declared.heading.Heading.TheVariants.{Exit}
use Rattle.k_report.specs.Report.{report_text}
use Rattle.k_report_profile.specs.Laws.{ReportIsUnique}
use Rattle.k_report_profile.specs.Report.{HasManyContexts, IsPlanned, IsReport, asked, nodes_of_profile}
use Rattle.k_report_profile.proofs.Named.{contexts_named, named_tree, rows_named}

module _ (saved : Saved) (is : IsSaved saved) where
  -- the root's entry is there
  pub root_is : length saved.dict - 1 < length saved.dict
  root_is = let some : 1 ≤ length saved.dict = is.profile.some in omega (arith, some)

  -- its rows name its regions
  pub saved_rows : (rows : List Row) → AreRows (nodes_of_profile saved) rows → All (λ (row : Row). row.region < length saved.regions) rows
  saved_rows rows are =
      let root : Tree = tree_at saved.dict (length saved.dict - 1) in
      rows_named (length saved.regions) root rows
      (named_tree (length saved.regions) saved.dict is.profile.interned.earlier is.in_list (length saved.dict - 1) root_is) are

  -- so do its contexts
  pub saved_contexts : (contexts : List Context) → AreContexts saved.regions (nodes_of_profile saved) contexts
      → All (λ (c : Context). c.region < length saved.regions) contexts
  saved_contexts contexts are = contexts_named saved.regions 0 0 (alone are.0) contexts are.2

  -- and they can be planned, where they are no more than may be
  pub saved_plan : (contexts : List Context) → AreContexts saved.regions (nodes_of_profile saved) contexts → length contexts ≤ 65536 → CanPlan contexts
  saved_plan contexts are few =
      let root : Tree = tree_at saved.dict (length saved.dict - 1) in
      let same : are.0 ≡ root = same_tree are.0 root (sym are.1) in
      contexts_can_be_planned saved.regions saved.dict (length saved.dict - 1) contexts is.profile root_is
      (subst (λ t. AreUnder saved.regions 0 0 (alone t) contexts) same are.2) few

  -- contexts have one plan, or none
  pub one_plan : (contexts : List Context) (one other : Option Advice) → AreContexts saved.regions (nodes_of_profile saved) contexts
      → IsPlanned contexts one → IsPlanned contexts other → one ≡ other
  one_plan contexts None None are p q = refl
  one_plan contexts None (Some b) are p q = absurd (omega (arith, p, q.0))
  one_plan contexts (Some a) None are p q = absurd (omega (arith, p.0, q))
  one_plan contexts (Some a) (Some b) are p q = ap Some (advice_is_unique standard_limits contexts a b (saved_plan contexts are p.0) p.1 q.1)

  -- so there is one report
  pub one_report : (with_dict : Bool) (one other : List ℕ) → IsReport saved with_dict one → IsReport saved with_dict other → one ≡ other
  one_report with_dict one other r q =
      let rows : r.rows ≡ q.rows = rows_are_unique (nodes_of_profile saved) r.rows q.rows r.are_rows q.are_rows in
      let contexts : r.contexts ≡ q.contexts = contexts_are_unique saved.regions (nodes_of_profile saved) r.contexts q.contexts r.are_contexts q.are_contexts in
      let plan : r.plan ≡ q.plan = one_plan q.contexts r.plan q.plan q.are_contexts (subst (λ (l : List Context). IsPlanned l r.plan) contexts r.planned) q.planned in
      r.is ∙ (λ i. report_text saved.regions (Exit saved.exit) saved.ops (rows i) (asked with_dict saved.dict) (contexts i) (plan i)) ∙ sym q.is

-- the text with a plan is the report
pub planned_report : (saved : Saved) (with_dict : Bool) (rows : List Row) (contexts : List Context) (advice : Advice) (limit : Limits) (exit : ℤ)
    (dict : Option (List Entry)) (text : List ℕ) → AreRows (nodes_of_profile saved) rows → AreContexts saved.regions (nodes_of_profile saved) contexts
    → CanPlan contexts → limit ≡ standard_limits → exit ≡ saved.exit → dict ≡ asked with_dict saved.dict → IsAdvice limit contexts advice
    → text ≡ report_text saved.regions (Exit exit) saved.ops rows dict contexts (Some advice) → IsReport saved with_dict text
planned_report saved with_dict rows contexts advice limit exit dict text are_rows are_contexts can limit_is exit_is dict_is is_advice is = record {
  rows = rows;
  contexts = contexts;
  plan = Some advice;
  are_rows = are_rows;
  are_contexts = are_contexts;
  planned = (can.few, subst (λ l. IsAdvice l contexts advice) limit_is is_advice);
  is = is ∙ (λ i. report_text saved.regions (Exit (exit_is i)) saved.ops rows (dict_is i) contexts (Some advice));
}

-- the text without one is the report of a profile with many contexts
pub wide_report : (saved : Saved) (with_dict : Bool) (rows : List Row) (contexts : List Context) (exit : ℤ) (dict : Option (List Entry)) (text : List ℕ)
    → AreRows (nodes_of_profile saved) rows → HasManyContexts saved → exit ≡ saved.exit → dict ≡ asked with_dict saved.dict
    → text ≡ report_text saved.regions (Exit exit) saved.ops rows dict contexts None → IsReport saved with_dict text
wide_report saved with_dict rows contexts exit dict text are_rows many exit_is dict_is is = record {
  rows = rows;
  contexts = many.0;
  plan = None;
  are_rows = are_rows;
  are_contexts = many.1;
  planned = many.2;
  is = is ∙ (λ i. report_text saved.regions (Exit (exit_is i)) saved.ops rows (dict_is i) contexts None);
}

-- the instances of the last entry are the profile's
pub at_root : (saved : Saved) (count : ℕ) → count ≡ length saved.dict → expansion saved.dict (count - 1) ≡ nodes_of_profile saved
at_root saved count is = ap (λ n. expansion saved.dict (n - 1)) is

pub report_is_unique : ReportIsUnique
report_is_unique saved with_dict one other is = one_report saved is with_dict one other
