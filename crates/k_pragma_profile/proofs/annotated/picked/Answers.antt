use Rattle.std.proofs.Common.{◌≤◌, List, length, subst, arith}
use Rattle.std.proofs.lemmas.Result.{IfOk-weaker}
use Rattle.k_optab.specs.declared.node.Node.{Node}
use Rattle.k_selfpar.specs.Contexts.{AreContexts}
use Rattle.k_report_profile.proofs.Reported.{at_root}
use Rattle.k_pragma_profile.proofs.Annotations.{few_picked}
use Rattle.k_pragma_profile.proofs.annotated.picked.Goals as goal

pub contexts-requires-clause-root : goal.contexts-requires-clause-root
contexts-requires-clause-root c =
    let count = c.len-root.ensures.count in let some : 1 ≤ length c.args.saved.now.dict = c.requires.profile.some in omega arith

pub contexts-requires-clause-profile : goal.contexts-requires-clause-profile
contexts-requires-clause-profile c = c.requires.profile

pub contexts-requires-clause-regions : goal.contexts-requires-clause-regions
contexts-requires-clause-regions c = c.requires.in_list

pub returns-in-Ok : goal.returns-in-Ok
returns-in-Ok c =
    let P : List Node → Type 0 = λ l. AreContexts c.args.saved.now.regions l c.in-Ok.contexts in
    IfOk-weaker c.planned.result _ _
    (λ picked is. few_picked c.args.saved.now c.in-Ok.contexts picked
    (subst P (at_root c.args.saved.now c.len-root.result c.len-root.ensures.count) c.in-Ok.ensures.contexts.0) is)
    c.planned.ensures
