use Rattle.std.proofs.Common.{◌≡◌, ap, arith}
use Rattle.k_plan.specs.declared.limits.Limits.{Limits}
use Rattle.k_sum_report.proofs.Texts.{planned_parts}
use Rattle.k_sum_report.proofs.parts.planned.Goals as goal

pub plan-requires-clause-sp : goal.plan-requires-clause-sp
plan-requires-clause-sp c = let is : c.standard_limits.result.sp ≡ 5 = ap (λ (l : Limits). l.sp) c.standard_limits.ensures in omega (arith, is)

pub returns : goal.returns
returns c =
    planned_parts c.args.sum.now c.requires.sum c.args.rows c.requires.rows c.args.contexts c.requires.contexts c.requires.can_plan c.standard_limits.result
    c.standard_limits.ensures c.in_ok-advice.advice c.in_ok-advice.ensures.plan c.in_ok-advice.ensures.named
