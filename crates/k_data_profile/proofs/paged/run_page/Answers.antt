use Rattle.std.proofs.Common.{refl, w32, to_z, of_z}
use Rattle.std.proofs.lemmas.Int.{to_z-of_z}
use Rattle.std.proofs.lemmas.Result.{IfOk-weaker}
use Rattle.k_dict_saved.specs.declared.saved.Saved.{Saved}
use Rattle.k_report_profile.proofs.Summed.{summed_saved}
use Rattle.k_data_profile.proofs.Pages.{large_paged, summed_paged}
use Rattle.k_data_profile.proofs.paged.run_page.Goals as goal

pub page_of-requires : goal.page_of-requires
page_of-requires c =
    let saved : Saved = record { exit = to_z w32 (of_z w32 c.args.exit); ops = c.args.ops; regions = c.args.regions; dict = c.in-Some.dict } in
    summed_saved c.args.exit c.args.ops c.args.regions c.args.dict saved (to_z-of_z w32 c.args.exit c.ranges.exit) refl refl c.in-Some.is c.requires.0 c.requires.1

pub returns-in-Some : goal.returns-in-Some
returns-in-Some c =
    let saved : Saved = record { exit = to_z w32 (of_z w32 c.args.exit); ops = c.args.ops; regions = c.args.regions; dict = c.in-Some.dict } in
    IfOk-weaker c.page_of.result _ _
    (λ text is ran s. summed_paged c.args.name.now c.args.source.now c.args.exit c.args.ops c.args.regions c.args.dict saved
    (to_z-of_z w32 c.args.exit c.ranges.exit) refl refl c.in-Some.is ran s c.args.with_dict text.items is)
    c.page_of.ensures

pub returns-in-None : goal.returns-in-None
returns-in-None c =
    IfOk-weaker c.large_page.result _ _
    (λ text is ran s. large_paged c.args.name.now c.args.source.now c.args.exit c.args.ops c.args.regions c.args.dict c.in-None.is
    (to_z w32 (of_z w32 c.args.exit)) (to_z-of_z w32 c.args.exit c.ranges.exit) c.args.with_dict text.items is ran s)
    c.large_page.ensures
