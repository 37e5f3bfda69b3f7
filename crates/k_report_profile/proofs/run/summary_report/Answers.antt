use Rattle.std.proofs.Common.{◌∙◌, Option, refl, sym, subst, w32, to_z, of_z}
use Rattle.std.proofs.lemmas.Int.{to_z-of_z}
use Rattle.std.proofs.lemmas.Option.{same_Some}
use Rattle.std.proofs.lemmas.Result.{IfOk-weaker}
use Rattle.k_dict_saved.specs.Profile.{IsSaved}
use Rattle.k_dict_saved.specs.declared.saved.Saved.{Saved}
use Rattle.k_report_profile.specs.RunReport.{IsRunReport}
use Rattle.k_report_profile.proofs.Recorded.{both_ok}
use Rattle.k_report_profile.proofs.Summed.{summed_large, summed_reported, summed_saved}
use Rattle.k_report_profile.proofs.run.summary_report.Goals as goal

pub with_profile-requires : goal.with_profile-requires
with_profile-requires c =
    let saved : Saved = record { exit = to_z w32 (of_z w32 c.args.exit); ops = c.args.ops; regions = c.args.regions; dict = c.in-Some.dict } in
    summed_saved c.args.exit c.args.ops c.args.regions c.args.dict saved (to_z-of_z w32 c.args.exit c.ranges.exit) refl refl c.in-Some.is c.requires.0 c.requires.1

pub returns-in-Some-clause-report : goal.returns-in-Some-clause-report
returns-in-Some-clause-report c =
    let saved : Saved = record { exit = to_z w32 (of_z w32 c.args.exit); ops = c.args.ops; regions = c.args.regions; dict = c.in-Some.dict } in
    both_ok c.with_profile.result _ _ _
    (λ profiled some r ran s. subst (λ (p : Option Saved). IsRunReport ran c.args.with_dict p profiled.report.items) (sym some)
    (summed_reported c.args.exit c.args.ops c.args.regions c.args.dict saved (to_z-of_z w32 c.args.exit c.ranges.exit) refl refl c.in-Some.is ran s
    c.args.with_dict profiled.report.items r))
    c.with_profile.ensures.saved c.with_profile.ensures.report

pub returns-in-Some-clause-saved : goal.returns-in-Some-clause-saved
returns-in-Some-clause-saved c =
    let saved : Saved = record { exit = to_z w32 (of_z w32 c.args.exit); ops = c.args.ops; regions = c.args.regions; dict = c.in-Some.dict } in
    let can : IsSaved saved =
    summed_saved c.args.exit c.args.ops c.args.regions c.args.dict saved (to_z-of_z w32 c.args.exit c.ranges.exit) refl refl c.in-Some.is c.requires.0 c.requires.1 in
    IfOk-weaker c.with_profile.result _ _ (λ profiled some x at. subst IsSaved (same_Some saved x (sym some ∙ at)) can)
    c.with_profile.ensures.saved

pub returns-in-None-clause-report : goal.returns-in-None-clause-report
returns-in-None-clause-report c =
    both_ok c.without_profile.result _ _ _
    (λ profiled none text_is ran s. summed_large c.args.exit c.args.ops c.args.regions c.args.dict c.in-None.is (to_z w32 (of_z w32 c.args.exit)) (to_z-of_z w32 c.args.exit c.ranges.exit) c.args.with_dict profiled.saved
    profiled.report.items none text_is ran s)
    c.without_profile.ensures.saved c.without_profile.ensures.report
