use Rattle.k_types.proofs.Items.{items_begin, items_more}
use Rattle.k_types.proofs.item.place_items.Goals as goal

pub loop-item-init : goal.loop-item-init
loop-item-init c = items_begin c.args.defined.now c.args.file.now c.args.items.now c.requires.file c.requires.names c.requires.nodes

pub loop-item-preserved : goal.loop-item-preserved
loop-item-preserved c =
    items_more c.args.defined.now c.args.file.now c.loop-item.file c.loop-item.item-index c.args.items.now c.item-item.result
    c.loop-item.invariant c.loop-item-test.true c.item-item.is c.place_item.new.file c.in_ok-place_item.ensures
