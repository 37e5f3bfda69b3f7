use Rattle.std.proofs.Common.{sym, subst}
use Rattle.std.specs.Option.{ForSome}
use Rattle.std.proofs.lemmas.Result.{IfOk-weaker}
use Rattle.k_report.specs.PlanLines.{NamesContexts}
use Rattle.k_sum_report.specs.SumReport.{IsSumReport}
use Rattle.k_sum_report.proofs.Texts.{parts_report}
use Rattle.k_sum_report.proofs.shown.sum_report.Goals as goal

pub headed_report-requires-clause-rows : goal.headed_report-requires-clause-rows
headed_report-requires-clause-rows c = c.in_ok-parts.ensures.rows_named

pub headed_report-requires-clause-contexts : goal.headed_report-requires-clause-contexts
headed_report-requires-clause-contexts c = c.in_ok-parts.ensures.contexts_named

pub headed_report-requires-clause-parents : goal.headed_report-requires-clause-parents
headed_report-requires-clause-parents c = c.in_ok-parts.ensures.parents

pub headed_report-requires-clause-plan : goal.headed_report-requires-clause-plan
headed_report-requires-clause-plan c =
    subst (λ p. ForSome p (NamesContexts c.in_ok-parts.parts.contexts)) (sym c.as_ref.ensures.value) c.in_ok-parts.ensures.picks_named

pub returns : goal.returns
returns c =
    IfOk-weaker c.headed_report.result _ (λ text. IsSumReport c.args.sum.now c.args.with_dict text.items)
    (λ text is. parts_report c.args.sum.now c.args.with_dict c.in_ok-parts.parts c.in_ok-parts.ensures _ c.listed.ensures _ c.as_ref.ensures.value text.items is)
    c.headed_report.ensures
