use Rattle.std.proofs.Common.{◌<◌, length, arith}
use Rattle.k_world.specs.Changes.{memory_filled}
use Rattle.k_world.proofs.Filled.{item_filled}
use Rattle.k_world.proofs.run_state.objects.fill_items.Goals as goal

pub loop-item-preserved : goal.loop-item-preserved
loop-item-preserved c =
    let within : c.loop-item.item-index < length c.args.items.now = omega (arith, c.loop-item-test.true, c.loop-item.auto.item-index-end) in
    record {
      writable = c.store_item.ensures.writable;
      filled =
          item_filled c.args.object c.loop-item.objects c.store_item.new.objects (memory_filled c.args.objects.now c.args.object c.args.items.now)
          c.args.items.now c.loop-item.item-index _ within c.store_item.ensures.stored c.loop-item.invariant.filled;
    }
