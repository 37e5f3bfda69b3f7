-- A profile has a text of each form, and a report has a run from which main returned, where trees have rows and contexts, and contexts have plans.
use Rattle.std.proofs.Common.{◌≡◌, ◌≤◌, ℕ, ◌-◌, inl, inr, Bool, List, length, Option, Some, None, refl}
use Rattle.std.proofs.lemmas.Bool.{cases_lt}
use Rattle.k_optab.specs.declared.node.Node.{Node}
use Rattle.k_optab.specs.Tree.{IsTree}
use Rattle.k_dict_entries.specs.Dictionary.{IsDictionary, refusal}
use Rattle.k_dict_entries.specs.Entries.{tree_at}
use Rattle.k_dict_entries.specs.Trees.{Tree}
use Rattle.k_dict_entries.specs.declared.dict.Which.{Which}
use Rattle.k_dict_entries.specs.declared.entry.Entry.{Entry}
use Rattle.k_dict_entries.proofs.Unique.{dictionary_exists}
use Rattle.k_dict_saved.specs.Profile.{IsSaved}
use Rattle.k_dict_saved.specs.declared.saved.Saved.{Saved}
use Rattle.k_selfpar.specs.Contexts.{AreContexts}
use Rattle.k_selfpar.specs.Rows.{AreRows}
use Rattle.k_selfpar.specs.declared.context.Context.{Context}
use Rattle.k_selfpar.specs.declared.row.Row.{Row}
use Rattle.k_plan.specs.declared.advice.Advice.{Advice}
use Rattle.k_report.specs.declared.heading.Heading.TheVariants.{Exit}
use Rattle.k_report.specs.Report.{large_text, report_text}
use Rattle.k_page.specs.Page.{large_page_text, page_text}
use Rattle.k_data.specs.Document.{profile_json}
use Rattle.k_data.specs.Table.{rows_csv}
use Rattle.k_data_profile.specs.Pages.{IsPage, IsRunPage, path_of, work_of}
use Rattle.k_data_profile.specs.Pages as pages
use Rattle.k_data_profile.specs.Shown.{IsDocument, IsTable, listed}
use Rattle.k_data_profile.proofs.Pages.{run_paged}
use Rattle.k_lex.specs.Tokens.{tokens}
use Rattle.k_types_meaning.specs.declared.tree.unit.TUnit.{TUnit}
use Rattle.k_marks_meaning.specs.declared.Marks.{Marks}
use Rattle.k_carry_pairs.specs.declared.pairs.LoopPairs.{LoopPairs}
use Rattle.k_pragma_written.specs.Written.{IsWritten}
use Rattle.k_pragma_written.specs.declared.told.Written.{Written}
use Rattle.k_pragma.specs.Insertions.{annotated}
use Rattle.k_pragma.specs.Marked.{candidates}
use Rattle.k_pragma_profile.specs.Annotated.{ArePicked, IsAnnotationOf, IsRunAnnotation, picked_in}
use Rattle.k_pragma_profile.specs.Annotated as annotations
use Rattle.k_pragma_profile.proofs.Annotations.{run_annotated}
use Rattle.k_words.specs.declared.job.Form.{Form}
use Rattle.k_words.specs.declared.job.Form.TheVariants as shown
use Rattle.k_top_answers.specs.Answers.{IsShown}
use Rattle.k_report_profile.specs.Report.{IsPlanned, asked, nodes_of_profile}
use Rattle.k_report_profile.specs.RunReport.{IsProfileOf, IsRunReport, IsWhole, Ran, large, ops_of}
use Rattle.k_report_profile.proofs.Named.{named_tree}
use Rattle.k_report_profile.proofs.Recorded.{run_in_order, run_reported, run_saved}
use Rattle.k_report_profile.proofs.Reported.{root_is, saved_plan}
use Rattle.k_top_exists.specs.Profiles.{ContextsExist, PlansExist, ProfileReportsExist, ReadReportsExist, RowsExist, RunReportsExist}

module _ (rows_exist : RowsExist) (contexts_exist : ContextsExist) (plans_exist : PlansExist) where
  -- the contexts of a profile have a plan, or are too many for one
  planned : (saved : Saved) → IsSaved saved → (contexts : List Context) → AreContexts saved.regions (nodes_of_profile saved) contexts
      → (plan : Option Advice) × IsPlanned contexts plan
  planned saved is contexts are = elim (cases_lt 65536 (length contexts)) [
    | inl many ↦ (None, many)
    | inr few ↦ (let advice = plans_exist contexts (saved_plan saved is contexts are few) in (Some advice.0, (few, advice.1)))
  ]

  -- what the texts of a profile are made of
  record HasParts (saved : Saved) : Type 0 where
    rows : List Row
    contexts : List Context
    plan : Option Advice
    are_rows : AreRows (nodes_of_profile saved) rows
    are_contexts : AreContexts saved.regions (nodes_of_profile saved) contexts
    planned : IsPlanned contexts plan

  parts_exist : (saved : Saved) → IsSaved saved → HasParts saved
  parts_exist saved is =
      let last : ℕ = length saved.dict - 1 in
      let root : Tree = tree_at saved.dict last in
      let rows : (list : List Row) × AreRows (nodes_of_profile saved) list = rows_exist root in
      let contexts : (list : List Context) × AreContexts saved.regions (nodes_of_profile saved) list =
      contexts_exist saved.regions root
      (named_tree (length saved.regions) saved.dict is.profile.interned.earlier is.in_list last (root_is saved is)) in
      let plan = planned saved is contexts.0 contexts.1 in
      record { rows = rows.0; contexts = contexts.0; plan = plan.0; are_rows = rows.1; are_contexts = contexts.1; planned = plan.1 }

  pub profile_reports_exist : ProfileReportsExist
  profile_reports_exist saved with_dict is =
      let p : HasParts saved = parts_exist saved is in (
        report_text saved.regions (Exit saved.exit) saved.ops p.rows (asked with_dict saved.dict) p.contexts p.plan,
        record { rows = p.rows; contexts = p.contexts; plan = p.plan; are_rows = p.are_rows; are_contexts = p.are_contexts; planned = p.planned; is = refl },
      )

  profile_documents_exist : (saved : Saved) (with_dict : Bool) → IsSaved saved → (text : List ℕ) × IsDocument saved with_dict text
  profile_documents_exist saved with_dict is =
      let p : HasParts saved = parts_exist saved is in (
        profile_json saved.regions saved.exit saved.ops p.rows (asked with_dict saved.dict) (listed p.contexts p.plan) p.plan,
        record { rows = p.rows; contexts = p.contexts; plan = p.plan; are_rows = p.are_rows; are_contexts = p.are_contexts; planned = p.planned; is = refl },
      )

  profile_tables_exist : (saved : Saved) → IsSaved saved → (text : List ℕ) × IsTable saved text
  profile_tables_exist saved is =
      let p : HasParts saved = parts_exist saved is in (rows_csv saved.regions p.rows, record { rows = p.rows; are_rows = p.are_rows; is = refl })

  -- a profile can be shown in each form
  pub profile_is_shown : (form : Form) (saved : Saved) → IsSaved saved → (text : List ℕ) × IsShown form saved text
  profile_is_shown (shown.Report dict) saved is = profile_reports_exist saved dict is
  profile_is_shown (shown.Json dict) saved is = profile_documents_exist saved dict is
  profile_is_shown shown.Csv saved is = profile_tables_exist saved is

  pub read_reports_exist : ReadReportsExist
  read_reports_exist bytes saved with_dict reads = profile_reports_exist saved with_dict reads.0

  pub run_reports_exist : RunReportsExist
  run_reports_exist ran nodes with_dict is_whole tree few = by (refusal 0 0 dictionary.0) refl
    where
      dictionary : (entries : List Entry) × IsDictionary nodes entries
      dictionary = dictionary_exists nodes (run_in_order ran is_whole nodes tree)

      -- the dictionary is within its limits, or passes one of them
      by : (found : Option Which) → refusal 0 0 dictionary.0 ≡ found → (profile : Option Saved) × (text : List ℕ) × IsRunReport ran with_dict profile text
      by None within =
          let saved : Saved = record { exit = ran.exit; ops = ops_of ran; regions = ran.regions; dict = dictionary.0 } in
          let is : IsProfileOf ran nodes saved = record { exit = refl; ops = refl; regions = refl; dict = dictionary.1; within = within } in
          let report = profile_reports_exist saved with_dict (run_saved ran is_whole nodes tree saved is few) in
          (Some saved, report.0, run_reported ran is_whole nodes tree saved is with_dict report.0 report.1)
      by (Some which) passed = (
        None,
        large_text ran.exit (ops_of ran),
        large nodes tree (record { entries = dictionary.0; which = which; dict = dictionary.1; passed = passed }),
      )

  profile_pages_exist : (name source : List ℕ) (saved : Saved) (with_dict : Bool) → IsSaved saved → (text : List ℕ) × IsPage name source saved with_dict text
  profile_pages_exist name source saved with_dict is =
      let p : HasParts saved = parts_exist saved is in (
        page_text name source saved.exit saved.ops (work_of (nodes_of_profile saved)) (path_of (nodes_of_profile saved)) saved.regions p.rows
            (asked with_dict saved.dict) (listed p.contexts p.plan) p.plan,
        record { rows = p.rows; contexts = p.contexts; plan = p.plan; are_rows = p.are_rows; are_contexts = p.are_contexts; planned = p.planned; is = refl },
      )

  -- a run has a page
  pub run_pages_exist : (name source : List ℕ) (ran : Ran) (nodes : List Node) (with_dict : Bool) → IsWhole ran → IsTree ran.depth ran.events nodes
      → length nodes ≤ 576460752303423488 → (text : List ℕ) × IsRunPage name source ran with_dict text
  run_pages_exist name source ran nodes with_dict is_whole tree few = by (refusal 0 0 dictionary.0) refl
    where
      dictionary : (entries : List Entry) × IsDictionary nodes entries
      dictionary = dictionary_exists nodes (run_in_order ran is_whole nodes tree)

      by : (found : Option Which) → refusal 0 0 dictionary.0 ≡ found → (text : List ℕ) × IsRunPage name source ran with_dict text
      by None within =
          let saved : Saved = record { exit = ran.exit; ops = ops_of ran; regions = ran.regions; dict = dictionary.0 } in
          let is : IsProfileOf ran nodes saved = record { exit = refl; ops = refl; regions = refl; dict = dictionary.1; within = within } in
          let page = profile_pages_exist name source saved with_dict (run_saved ran is_whole nodes tree saved is few) in
          (page.0, run_paged ran name source nodes saved with_dict page.0 tree is page.1)
      by (Some which) passed = (
        large_page_text name ran.exit (ops_of ran),
        pages.large nodes tree (record { entries = dictionary.0; which = which; dict = dictionary.1; passed = passed }),
      )

  module _ (source : List ℕ) (written : Written) (reads : IsWritten source written) (typed : TUnit) (marks : Marks) (found : List LoopPairs) where
    annotations_exist : (saved : Saved) → IsSaved saved
        → (text : List ℕ) × IsAnnotationOf source typed marks saved.regions (nodes_of_profile saved) found text
    annotations_exist saved is =
        let p : HasParts saved = parts_exist saved is in
        let picked : List ℕ = picked_in p.contexts p.plan in
        let are : ArePicked saved.regions (nodes_of_profile saved) picked =
        record { contexts = p.contexts; plan = p.plan; are_contexts = p.are_contexts; planned = p.planned; is = refl } in (
          annotated source (tokens source) written typed marks saved.regions p.rows (candidates found picked),
          record { rows = p.rows; picked = picked; are_rows = p.are_rows; are_picked = are; written = written; reads = reads; is = refl },
        )

    -- a run has an annotated source
    pub run_annotations_exist : (ran : Ran) (nodes : List Node) → IsWhole ran → IsTree ran.depth ran.events nodes → length nodes ≤ 576460752303423488
        → (text : List ℕ) × IsRunAnnotation source typed marks ran found text
    run_annotations_exist ran nodes is_whole tree few = by (refusal 0 0 dictionary.0) refl
      where
        dictionary : (entries : List Entry) × IsDictionary nodes entries
        dictionary = dictionary_exists nodes (run_in_order ran is_whole nodes tree)

        by : (within : Option Which) → refusal 0 0 dictionary.0 ≡ within → (text : List ℕ) × IsRunAnnotation source typed marks ran found text
        by None within =
            let saved : Saved = record { exit = ran.exit; ops = ops_of ran; regions = ran.regions; dict = dictionary.0 } in
            let is : IsProfileOf ran nodes saved = record { exit = refl; ops = refl; regions = refl; dict = dictionary.1; within = within } in
            let told = annotations_exist saved (run_saved ran is_whole nodes tree saved is few) in
            (told.0, run_annotated source typed marks found ran nodes saved told.0 tree is told.1)
        by (Some which) passed = (
          source,
          annotations.large nodes tree (record { entries = dictionary.0; which = which; dict = dictionary.1; passed = passed }),
        )
