use Rattle.k_types_meaning.specs.declared.tree.declaration.TItem.{TItem}
use Rattle.k_types_meaning.specs.Bare.{bare_item}
use Rattle.k_types_meaning.specs.Numbered.{item_numbers}
use Rattle.std.proofs.Common.{◌<◌, ◌≤◌, length, arith}
use Rattle.k_types_numbers.proofs.CountingLaws.{list_done, list_more}
use Rattle.k_types_numbers.proofs.declaration.number_items.Goals as goal

pub loop-item-preserved : goal.loop-item-preserved
loop-item-preserved c =
    let within : c.loop-item.item-index < length c.loop-item.items = omega arith in
    list_more TItem bare_item item_numbers _ _ _ _ _ _ _ _ within c.loop-item.invariant c.in_ok-number_item.ensures

pub returns : goal.returns
returns c =
    let ended : length c.loop-item.items ≤ c.loop-item.item-index = omega arith in
    list_done TItem bare_item item_numbers _ _ _ _ _ ended c.loop-item.invariant
