use Rattle.std.proofs.Common.{◌≤◌, List, length, subst, arith}
use Rattle.k_optab.specs.declared.node.Node.{Node}
use Rattle.k_selfpar.specs.Contexts.{AreContexts}
use Rattle.k_selfpar.specs.Rows.{AreRows}
use Rattle.k_report_profile.proofs.Reported.{at_root}
use Rattle.k_data_profile.proofs.Pages.{root_path, root_work}
use Rattle.k_data_profile.proofs.paged.page_of.Goals as goal

pub rows-requires-clause-root : goal.rows-requires-clause-root
rows-requires-clause-root c =
    let count = c.len-root.ensures.count in let some : 1 ≤ length c.args.saved.now.dict = c.requires.profile.some in omega arith

pub rows-requires-clause-profile : goal.rows-requires-clause-profile
rows-requires-clause-profile c = c.requires.profile

pub contexts-requires-clause-root : goal.contexts-requires-clause-root
contexts-requires-clause-root c =
    let count = c.len-root.ensures.count in let some : 1 ≤ length c.args.saved.now.dict = c.requires.profile.some in omega arith

pub contexts-requires-clause-profile : goal.contexts-requires-clause-profile
contexts-requires-clause-profile c = c.requires.profile

pub contexts-requires-clause-regions : goal.contexts-requires-clause-regions
contexts-requires-clause-regions c = c.requires.in_list

pub with_plan-requires-clause-work : goal.with_plan-requires-clause-work
with_plan-requires-clause-work c =
    root_work c.args.saved.now c.len-root.result c.entry-whole.result.now c.requires c.len-root.ensures.count c.entry-whole.ensures.value

pub with_plan-requires-clause-path : goal.with_plan-requires-clause-path
with_plan-requires-clause-path c =
    root_path c.args.saved.now c.len-root.result c.entry-whole.result.now c.requires c.len-root.ensures.count c.entry-whole.ensures.value

pub with_plan-requires-clause-rows : goal.with_plan-requires-clause-rows
with_plan-requires-clause-rows c =
    let P : List Node → Type 0 = λ l. AreRows l c.in_ok-rows.rows in
    subst P (at_root c.args.saved.now c.len-root.result c.len-root.ensures.count) c.in_ok-rows.ensures.rows

pub with_plan-requires-clause-contexts : goal.with_plan-requires-clause-contexts
with_plan-requires-clause-contexts c =
    let P : List Node → Type 0 = λ l. AreContexts c.args.saved.now.regions l c.in-Ok.contexts in
    subst P (at_root c.args.saved.now c.len-root.result c.len-root.ensures.count) c.in-Ok.ensures.contexts.0

pub without_plan-requires-clause-work : goal.without_plan-requires-clause-work
without_plan-requires-clause-work c =
    root_work c.args.saved.now c.len-root.result c.entry-whole.result.now c.requires c.len-root.ensures.count c.entry-whole.ensures.value

pub without_plan-requires-clause-path : goal.without_plan-requires-clause-path
without_plan-requires-clause-path c =
    root_path c.args.saved.now c.len-root.result c.entry-whole.result.now c.requires c.len-root.ensures.count c.entry-whole.ensures.value
