use Rattle.std.proofs.Common.{◌≡◌, ℕ, ◌≤◌, List, Option, Some, None, Err, length, refl, sym, ap, ◌∙◌, subst, arith, w32, to_z, of_z}
use Rattle.std.proofs.lemmas.Int.{to_z-of_z}
use Rattle.std.proofs.lemmas.Option.{same_Some}
use Rattle.std.proofs.lemmas.Result.{IfOk-weaker}
use Rattle.k_optab.specs.declared.node.Node.{Node}
use Rattle.k_optab.specs.Events.{operations}
use Rattle.k_dict_entries.specs.Interning.{Gathers}
use Rattle.k_dict_entries.specs.declared.dict.DictFault.{DictFault}
use Rattle.k_report.specs.Report.{large_text}
use Rattle.k_dict_saved.specs.Profile.{IsSaved}
use Rattle.k_dict_saved.specs.declared.saved.Saved.{Saved}
use Rattle.k_report_profile.specs.RunReport.{IsProfileOf, IsRunReport, Ran, ops_of}
use Rattle.k_report_profile.proofs.Recorded.{both_ok, run_in_order, run_large, run_reported, run_saved}
use Rattle.k_profile_trees.proofs.Within.{none_passed}
use Rattle.k_report_profile.proofs.run.run_report.Goals as goal

pub gather-requires : goal.gather-requires
gather-requires c =
    let ran : Ran = record { exit = c.args.exit; events = c.args.events.now; regions = c.args.regions; depth = c.args.depth } in
    let nodes : List Node = c.in_ok-nodes.nodes in
    run_in_order ran c.requires nodes c.in_ok-nodes.ensures

pub with_profile-requires : goal.with_profile-requires
with_profile-requires c =
    let ran : Ran = record { exit = c.args.exit; events = c.args.events.now; regions = c.args.regions; depth = c.args.depth } in
    let nodes : List Node = c.in_ok-nodes.nodes in
    let saved : Saved =
    record { exit = to_z w32 (of_z w32 c.args.exit); ops = c.count_operations-ops.result; regions = c.args.regions; dict = c.in-Ok.dict } in
    let is : IsProfileOf ran nodes saved = record {
      exit = to_z-of_z w32 c.args.exit c.ranges.exit;
      ops = c.count_operations-ops.ensures ∙ ap (λ l. length (operations l)) c.as_slice.ensures;
      regions = refl;
      dict = c.in-Ok.ensures.answer;
      within = none_passed c.in-Ok.dict c.in-Ok.ensures.interned;
    } in
    let count = c.len.ensures in
    let test = c.if-len-gt-MOST_INSTANCES.false in
    run_saved ran c.requires nodes c.in_ok-nodes.ensures saved is (omega arith)

pub returns-in-Ok-clause-report : goal.returns-in-Ok-clause-report
returns-in-Ok-clause-report c =
    let ran : Ran = record { exit = c.args.exit; events = c.args.events.now; regions = c.args.regions; depth = c.args.depth } in
    let nodes : List Node = c.in_ok-nodes.nodes in
    let saved : Saved =
    record { exit = to_z w32 (of_z w32 c.args.exit); ops = c.count_operations-ops.result; regions = c.args.regions; dict = c.in-Ok.dict } in
    let is : IsProfileOf ran nodes saved = record {
      exit = to_z-of_z w32 c.args.exit c.ranges.exit;
      ops = c.count_operations-ops.ensures ∙ ap (λ l. length (operations l)) c.as_slice.ensures;
      regions = refl;
      dict = c.in-Ok.ensures.answer;
      within = none_passed c.in-Ok.dict c.in-Ok.ensures.interned;
    } in
    let P : List ℕ → Option Saved → Type 0 = λ text s. IsRunReport ran c.args.with_dict s text in
    both_ok c.with_profile.result _ _ _
    (λ profiled none r. subst (P profiled.report.items) (sym none)
    (run_reported ran c.requires nodes c.in_ok-nodes.ensures saved is c.args.with_dict profiled.report.items r))
    c.with_profile.ensures.saved c.with_profile.ensures.report

pub returns-in-Ok-clause-saved : goal.returns-in-Ok-clause-saved
returns-in-Ok-clause-saved c =
    let ran : Ran = record { exit = c.args.exit; events = c.args.events.now; regions = c.args.regions; depth = c.args.depth } in
    let nodes : List Node = c.in_ok-nodes.nodes in
    let saved : Saved =
    record { exit = to_z w32 (of_z w32 c.args.exit); ops = c.count_operations-ops.result; regions = c.args.regions; dict = c.in-Ok.dict } in
    let is : IsProfileOf ran nodes saved = record {
      exit = to_z-of_z w32 c.args.exit c.ranges.exit;
      ops = c.count_operations-ops.ensures ∙ ap (λ l. length (operations l)) c.as_slice.ensures;
      regions = refl;
      dict = c.in-Ok.ensures.answer;
      within = none_passed c.in-Ok.dict c.in-Ok.ensures.interned;
    } in
    let count = c.len.ensures in
    let test = c.if-len-gt-MOST_INSTANCES.false in
    let few : length nodes ≤ 576460752303423488 = omega arith in
    let can : IsSaved saved = run_saved ran c.requires nodes c.in_ok-nodes.ensures saved is few in
    IfOk-weaker c.with_profile.result _ _ (λ profiled some x at. subst IsSaved (same_Some saved x (sym some ∙ at)) can)
    c.with_profile.ensures.saved

pub returns-in-Err-Full-clause-report : goal.returns-in-Err-Full-clause-report
returns-in-Err-Full-clause-report c =
    let ran : Ran = record { exit = c.args.exit; events = c.args.events.now; regions = c.args.regions; depth = c.args.depth } in
    let nodes : List Node = c.in_ok-nodes.nodes in
    let P : DictFault → Type 0 = λ fault. Gathers nodes (Err fault) in
    let over = subst P c.in-Err-Full.field-0-is c.in-Err-Full.ensures.answer in
    let ops : c.count_operations-ops.result ≡ ops_of ran =
    c.count_operations-ops.ensures ∙ ap (λ l. length (operations l)) c.as_slice.ensures in
    both_ok c.without_profile.result _ _ _
    (λ profiled none text_is. run_large ran c.requires nodes c.in_ok-nodes.ensures over.0 c.in-Err-Full.field-0-0 over.1 over.2 c.args.with_dict
    profiled.report.items profiled.saved none (text_is ∙ (λ i. large_text (to_z-of_z w32 c.args.exit c.ranges.exit i) (ops i))))
    c.without_profile.ensures.saved c.without_profile.ensures.report
