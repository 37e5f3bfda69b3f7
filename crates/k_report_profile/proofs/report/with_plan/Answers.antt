use Rattle.std.proofs.Common.{◌≡◌, ap, arith, w32}
use Rattle.std.proofs.lemmas.Int.{to_z-of_z}
use Rattle.std.proofs.lemmas.Result.{IfOk-weaker}
use Rattle.k_plan.specs.declared.limits.Limits.{Limits}
use Rattle.k_report_profile.specs.Report.{IsReport}
use Rattle.k_report_profile.proofs.Reported.{planned_report, saved_contexts, saved_rows}
use Rattle.k_report_profile.proofs.report.with_plan.Goals as goal

pub plan-requires-clause-sp : goal.plan-requires-clause-sp
plan-requires-clause-sp c = let is : c.standard_limits.result.sp ≡ 5 = ap (λ (l : Limits). l.sp) c.standard_limits.ensures in omega (arith, is)

pub report-requires-clause-rows : goal.report-requires-clause-rows
report-requires-clause-rows c = saved_rows c.args.saved.now c.requires.saved c.args.rows.now c.requires.rows

pub report-requires-clause-contexts : goal.report-requires-clause-contexts
report-requires-clause-contexts c = saved_contexts c.args.saved.now c.requires.saved c.args.contexts.now c.requires.contexts

pub report-requires-clause-parents : goal.report-requires-clause-parents
report-requires-clause-parents c = c.requires.can_plan.parents

pub returns : goal.returns
returns c =
    IfOk-weaker c.report.result _ (λ text. IsReport c.args.saved.now c.args.with_dict text.items)
    (λ text is. planned_report c.args.saved.now c.args.with_dict c.args.rows.now c.args.contexts.now c.in_ok-advice.advice c.standard_limits.result _ _ text.items
    c.requires.rows c.requires.contexts c.requires.can_plan c.standard_limits.ensures (to_z-of_z w32 c.args.saved.now.exit c.requires.saved.exit) c.listed.ensures
    c.in_ok-advice.ensures.plan is)
    c.report.ensures
