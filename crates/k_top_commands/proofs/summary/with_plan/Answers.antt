use Rattle.std.proofs.Common.{◌≡◌, ◌∙◌, ap, string_bytes, subst}
use Rattle.std.proofs.lemmas.Result.{IfOk-weaker}
use Rattle.k_selfpar.specs.Contexts.{root_work}
use Rattle.k_plan.specs.Plan.{IsAdvice}
use Rattle.k_plan.specs.declared.limits.Limits.{Limits}
use Rattle.k_top_lemmas.specs.Parts.{IsPlanLine}
use Rattle.k_top_answers.specs.Texts.{picks_line}
use Rattle.k_top_commands.proofs.summary.with_plan.Goals as goal

pub returns : goal.returns
returns c =
    let advice = c.in_ok-advice.advice in
    let work : c.root_work-work.result ≡ root_work c.args.contexts.now = c.root_work-work.ensures ∙ ap root_work c.as_slice.ensures in
    IfOk-weaker c.picks_text.result _ (λ text. IsPlanLine c.args.contexts.now (string_bytes text))
    (λ text is. (
      advice,
      (c.requires.few, subst (λ (l : Limits). IsAdvice l c.args.contexts.now advice) c.standard_limits.ensures c.in_ok-advice.ensures.plan),
      is ∙ (λ i. picks_line (c.len.ensures i) advice.total (work i)),
    )) c.picks_text.ensures
