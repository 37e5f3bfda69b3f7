use Rattle.std.proofs.Common.{◌+◌, ◌*◌, ◌<◌, ◌^◌, sym, ap, ◌∙◌, subst, List, map}
use Rattle.std.proofs.lemmas.List.{nil_from_length}
use Rattle.k_dict_entries.specs.Tallies.{total as count_all}
use Rattle.k_dict_entries.specs.declared.entry.Run.{Run}
use Rattle.k_selfpar.specs.Grouping.{item_for, tallied}
use Rattle.k_selfpar.proofs.Grouped.{all_tallied, can_tally, more_tallied, none_tallied}
use Rattle.k_selfpar.proofs.grouping.children_of.Goals as goal

pub loop-item-init : goal.loop-item-init
loop-item-init c = none_tallied c.args.dict.now c.args.items.now c.new-tally.result c.requires.items c.new-tally.ensures

pub count_runs-requires : goal.count_runs-requires
count_runs-requires c =
    let P : List Run → Type 0 = λ r. count_all c.loop-item.tally + c.in-Some.item.now.run.count * count_all r < 2 ^ 64 in
    subst P (sym c.as_slice.ensures)
    (can_tally c.args.dict.now c.requires.interned.earlier c.args.items.now c.loop-item.rest.now c.loop-item.tally c.loop-item.invariant c.in-Some.item.now
    c.in-Some.later.now c.in-Some.ensures.cases.0 c.entry.result.now c.entry.ensures.value c.requires.fits.few)

pub loop-item-preserved : goal.loop-item-preserved
loop-item-preserved c =
    more_tallied c.args.dict.now c.requires.interned.earlier c.args.items.now c.loop-item.rest.now c.loop-item.tally c.loop-item.invariant c.in-Some.item.now
    c.in-Some.later.now c.in-Some.ensures.cases.0 c.entry.result.now c.entry.ensures.value c.count_runs.new.tally
    (c.in_ok-count_runs.ensures ∙ ap (λ r. tallied c.in-Some.item.now.run.count r c.loop-item.tally) c.as_slice.ensures)

pub returns : goal.returns
returns c =
    all_tallied c.args.dict.now c.args.items.now c.loop-item.rest.now c.loop-item.tally c.in_ok-runs.runs c.in_ok-children.children.items
    c.sort_by_region.new.items.items c.loop-item.invariant (nil_from_length c.loop-item.rest.now c.in_default.ensures.cases) c.in_ok-runs.ensures
    (c.in_ok-children.ensures ∙ ap (map (item_for c.args.dict.now)) c.as_slice-2.ensures) c.sort_by_region.ensures.permutation c.in_ok-sort_by_region.ensures.sorted
