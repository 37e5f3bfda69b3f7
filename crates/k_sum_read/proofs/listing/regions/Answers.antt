use Rattle.std.proofs.Common.{List, Err, Ok, refl, subst, arith}
use Rattle.k_optab.specs.declared.region.Region.{Region}
use Rattle.k_dict_saved.specs.Reading.{NextRegion}
use Rattle.k_dict_saved.specs.declared.format.Format.TheVariants.{Two}
use Rattle.k_dict_saved.specs.declared.reading.stop.Stop.{Stop}
use Rattle.k_dict_saved.proofs.RegionSteps.{regions_done, regions_more, regions_start}
use Rattle.k_sum_read.proofs.ListSteps.{wrong_region}
use Rattle.k_sum_read.proofs.listing.regions.Goals as goal

pub lines-init : goal.lines-init
lines-init c = regions_start Two c.args.count c.args.text.now c.new-regions.result c.new-regions.ensures

pub lines-preserved : goal.lines-preserved
lines-preserved c =
    let P : List Region → Type 0 = λ l. NextRegion l c.lines.rest.now (Ok (c.in-Ok.region, c.in-Ok.behind.now)) in
    regions_more Two c.args.count c.args.text.now c.lines.rest.now c.in-Ok.behind.now c.lines.regions c.push.new.self c.in-Ok.region c.lines.invariant
    (omega (arith, c.lines-test.true, c.len.ensures)) (subst P c.as_slice.ensures c.in-Ok.ensures) c.in_default.ensures.ok

pub returns-in-Err-Wrong : goal.returns-in-Err-Wrong
returns-in-Err-Wrong c =
    let P : List Region → Type 0 = λ l. NextRegion l c.lines.rest.now (Err c.in-Err-Wrong.field-0) in
    let Q : Stop → Type 0 = λ stop. NextRegion c.lines.regions c.lines.rest.now (Err stop) in
    wrong_region c.args.count c.args.text.now c.lines.rest.now c.lines.regions _ c.lines.invariant (omega (arith, c.lines-test.true, c.len.ensures)) refl
    (subst Q c.in-Err-Wrong.field-0-is (subst P c.as_slice.ensures c.in-Err-Wrong.ensures))

pub returns : goal.returns
returns c = regions_done Two c.args.count c.args.text.now c.lines.rest.now c.lines.regions c.lines.invariant (omega (arith, c.lines-test.false, c.len.ensures))
