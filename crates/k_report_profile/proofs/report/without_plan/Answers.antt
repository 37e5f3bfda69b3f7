use Rattle.std.proofs.Common.{◌<◌, sym, subst, w32}
use Rattle.std.specs.Prelude.{All, length}
use Rattle.std.proofs.lemmas.Int.{to_z-of_z}
use Rattle.std.proofs.lemmas.List.Elements.{All-nil}
use Rattle.std.proofs.lemmas.Result.{IfOk-weaker}
use Rattle.k_plan.specs.Plan.{ParentsComeFirst}
use Rattle.k_selfpar.specs.declared.context.Context.{Context}
use Rattle.k_report_profile.specs.Report.{IsReport}
use Rattle.k_report_profile.proofs.Reported.{saved_rows, wide_report}
use Rattle.k_report_profile.proofs.report.without_plan.Goals as goal

pub report-requires-clause-rows : goal.report-requires-clause-rows
report-requires-clause-rows c = saved_rows c.args.saved.now c.requires.saved c.args.rows.now c.requires.rows

pub report-requires-clause-contexts : goal.report-requires-clause-contexts
report-requires-clause-contexts c =
    let P : Context → Type 0 = λ x. x.region < length c.args.saved.now.regions in
    subst (λ l. All P l) (sym c.new-contexts.ensures) (All-nil P)

pub report-requires-clause-parents : goal.report-requires-clause-parents
report-requires-clause-parents c = subst ParentsComeFirst (sym c.new-contexts.ensures) tt

pub returns : goal.returns
returns c =
    IfOk-weaker c.report.result _ (λ text. IsReport c.args.saved.now c.args.with_dict text.items)
    (λ text is. wide_report c.args.saved.now c.args.with_dict c.args.rows.now c.new-contexts.result _ _ text.items
    c.requires.rows c.requires.many (to_z-of_z w32 c.args.saved.now.exit c.requires.saved.exit) c.listed.ensures is)
    c.report.ensures
