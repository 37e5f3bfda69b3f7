use Rattle.std.proofs.Common.{List, Some, string_bytes, subst}
use Rattle.std.proofs.lemmas.Result.{IfOk-weaker}
use Rattle.k_optab.specs.declared.node.Node.{Node}
use Rattle.k_selfpar.specs.Contexts.{AreContexts}
use Rattle.k_report_profile.proofs.Reported.{at_root}
use Rattle.k_top_lemmas.specs.Parts.{IsPlanText}
use Rattle.k_top_commands.proofs.summary.plan_text.Goals as goal

pub returns-in-Ok : goal.returns-in-Ok
returns-in-Ok c =
    let contexts = c.in-Ok.contexts in
    let are = subst (λ (nodes : List Node). AreContexts c.args.saved.now.regions nodes contexts)
    (at_root c.args.saved.now c.len-root.result c.len-root.ensures.count) c.in-Ok.ensures.contexts.0 in
    IfOk-weaker c.with_plan.result _ (λ text. IsPlanText c.args.saved.now (string_bytes text)) (λ text line. (contexts, Some line.0, are, line.1, line.2)) c.with_plan.ensures
