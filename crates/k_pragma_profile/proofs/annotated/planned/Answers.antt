use Rattle.std.proofs.Common.{◌≡◌, ◌∙◌, ap, arith}
use Rattle.std.proofs.lemmas.Result.{IfOk-weaker}
use Rattle.k_plan.specs.declared.limits.Limits.{Limits}
use Rattle.k_pragma_profile.specs.Annotated.{picked_of}
use Rattle.k_pragma_profile.proofs.Annotations.{few_planned}
use Rattle.k_pragma_profile.proofs.annotated.planned.Goals as goal

pub plan-requires-clause-sp : goal.plan-requires-clause-sp
plan-requires-clause-sp c = let is : c.standard_limits.result.sp ≡ 5 = ap (λ (l : Limits). l.sp) c.standard_limits.ensures in omega (arith, is)

pub returns : goal.returns
returns c =
    IfOk-weaker c.picked_of.result _ _
    (λ picked is. few_planned c.args.contexts.now c.in_ok-advice.advice c.standard_limits.result picked c.requires c.standard_limits.ensures
    c.in_ok-advice.ensures.plan (is ∙ (λ i. picked_of (c.as_slice.ensures i) (c.as_slice-2.ensures i))))
    c.picked_of.ensures
