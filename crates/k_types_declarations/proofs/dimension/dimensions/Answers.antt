use Rattle.std.proofs.Common.{Ok, subst, sym}
use Rattle.k_types_meaning.specs.Dimensions.{dimensions}
use Rattle.k_types_rules.specs.Views.{Refuses}
use Rattle.k_types_declarations.specs.Results.{GivesSizes}
use Rattle.k_types_objects.specs.KeptSizes.{sizes_in}
use Rattle.k_types_declarations.proofs.SizesLaws.{judges_more, judges_all, judges_refused}
use Rattle.k_types_declarations.proofs.dimension.dimensions.Goals as goal

pub loop-dim-preserved : goal.loop-dim-preserved
loop-dim-preserved c =
    judges_more c.args.names.now c.as_slice-dim-items.result.now c.loop-dim.dim-index c.dim-item.result c.loop-dim.list c.push.new.self c.in-Ok.size
    c.args.taken.now c.loop-dim.taken c.dimension.new.taken c.loop-dim-test.true c.dim-item.is c.loop-dim.invariant c.in-Ok.ensures c.in_ok-push.ensures.ok

pub returns-in-Err : goal.returns-in-Err
returns-in-Err c =
    subst (λ dims. Refuses c.in-Err.fault (dimensions c.args.names.now dims)) c.as_slice-dim-items.ensures
    (judges_refused c.args.names.now c.as_slice-dim-items.result.now c.loop-dim.dim-index c.dim-item.result c.loop-dim.list c.args.taken.now c.loop-dim.taken
    c.in-Err.fault c.loop-dim-test.true c.dim-item.is c.loop-dim.invariant c.in-Err.ensures)

pub returns : goal.returns
returns c =
    let given : GivesSizes (Ok (sizes_in c.loop-dim.list)) c.args.taken.now c.loop-dim.taken (dimensions c.args.names.now c.args.dims.now) =
    subst (λ dims. GivesSizes (Ok (sizes_in c.loop-dim.list)) c.args.taken.now c.loop-dim.taken (dimensions c.args.names.now dims)) c.as_slice-dim-items.ensures
    (judges_all c.args.names.now c.as_slice-dim-items.result.now c.loop-dim.dim-index c.loop-dim.list c.args.taken.now c.loop-dim.taken c.loop-dim-test.false c.loop-dim.invariant) in
    subst (λ sizes. GivesSizes (Ok sizes) c.args.taken.now c.loop-dim.taken (dimensions c.args.names.now c.args.dims.now)) (sym c.of_list.ensures) given
