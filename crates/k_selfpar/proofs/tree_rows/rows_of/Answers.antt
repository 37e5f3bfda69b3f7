use Rattle.std.proofs.Common.{sym, subst}
use Rattle.k_selfpar.specs.Items.{IsRowOf}
use Rattle.k_selfpar.specs.Sums.{AreSmall}
use Rattle.k_selfpar.specs.declared.sums.Sums.{Sums}
use Rattle.k_selfpar.proofs.Rowed.{group_items, more_rowed, none_rowed, small_part}
use Rattle.k_selfpar.proofs.tree_rows.rows_of.Goals as goal

pub loop-first-init : goal.loop-first-init
loop-first-init c = none_rowed c.args.dict.now c.args.items.now c.new-rows.result c.requires.items c.requires.sorted c.new-rows.ensures

pub sums_of-requires-clause-items : goal.sums_of-requires-clause-items
sums_of-requires-clause-items c =
    group_items c.args.dict.now c.args.items.now c.loop-first.rest.now c.loop-first.rows c.loop-first.invariant c.in-Some.first.now c.in-Some.field-0-1.now
    c.in-Some.ensures.cases.0 c.split_region.result.0.now c.split_region.result.1.now c.split_region.ensures.whole c.split_region.ensures.same c.split_region.ensures.other

pub sums_of-requires-clause-small : goal.sums_of-requires-clause-small
sums_of-requires-clause-small c =
    small_part c.args.dict.now c.args.items.now c.loop-first.rest.now c.loop-first.rows c.loop-first.invariant c.split_region.result.0.now c.split_region.result.1.now
    c.split_region.ensures.whole c.requires.small

pub row_of-requires : goal.row_of-requires
row_of-requires c =
    let P : Sums → Type 0 = AreSmall in
    subst P (sym c.sums_of.ensures)
    (small_part c.args.dict.now c.args.items.now c.loop-first.rest.now c.loop-first.rows c.loop-first.invariant c.split_region.result.0.now c.split_region.result.1.now
    c.split_region.ensures.whole c.requires.small)

pub loop-first-preserved : goal.loop-first-preserved
loop-first-preserved c =
    let P : Sums → Type 0 = λ s. IsRowOf c.in-Some.first.now.region s c.row_of.result in
    more_rowed c.args.dict.now c.args.items.now c.loop-first.rest.now c.loop-first.rows c.loop-first.invariant c.in-Some.first.now c.in-Some.field-0-1.now
    c.in-Some.ensures.cases.0 c.split_region.result.0.now c.split_region.result.1.now c.split_region.ensures.whole c.split_region.ensures.same c.split_region.ensures.other
    c.row_of.result c.push.new.self (subst P c.sums_of.ensures c.row_of.ensures) c.in_ok-push.ensures.ok
