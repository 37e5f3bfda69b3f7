use Rattle.std.proofs.Common.{refl, w32, to_z, of_z}
use Rattle.std.proofs.lemmas.Int.{to_z-of_z}
use Rattle.std.proofs.lemmas.Result.{IfOk-weaker}
use Rattle.k_dict_saved.specs.declared.saved.Saved.{Saved}
use Rattle.k_report_profile.proofs.Summed.{summed_saved}
use Rattle.k_pragma_profile.proofs.Annotations.{large_annotated, summed_annotated}
use Rattle.k_pragma_profile.proofs.annotated.run_annotation.Goals as goal

pub annotation_of-requires-clause-saved : goal.annotation_of-requires-clause-saved
annotation_of-requires-clause-saved c =
    let saved : Saved = record { exit = to_z w32 (of_z w32 c.args.exit); ops = c.args.ops; regions = c.args.regions; dict = c.in-Some.dict } in
    summed_saved c.args.exit c.args.ops c.args.regions c.args.dict saved (to_z-of_z w32 c.args.exit c.ranges.exit) refl refl c.in-Some.is c.requires.summed.0
    c.requires.summed.1

pub returns-in-Some : goal.returns-in-Some
returns-in-Some c =
    let saved : Saved = record { exit = to_z w32 (of_z w32 c.args.exit); ops = c.args.ops; regions = c.args.regions; dict = c.in-Some.dict } in
    IfOk-weaker c.annotation_of.result _ _
    (λ text is ran s. summed_annotated c.args.source.now c.args.unit.now c.args.marks.now c.args.found.now.loops c.args.exit c.args.ops c.args.regions c.args.dict saved
    (to_z-of_z w32 c.args.exit c.ranges.exit) refl refl c.in-Some.is ran s text.items is)
    c.annotation_of.ensures

pub returns-in_ok-text-in-None : goal.returns-in_ok-text-in-None
returns-in_ok-text-in-None c =
    λ ran s. large_annotated c.args.source.now c.args.unit.now c.args.marks.now c.args.found.now.loops c.args.exit c.args.ops c.args.regions c.args.dict c.in-None.is
    c.in_ok-text-in-None.text.items c.in_ok-text-in-None.ensures.items ran s
