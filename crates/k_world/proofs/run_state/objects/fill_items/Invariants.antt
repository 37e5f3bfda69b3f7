use Rattle.std.proofs.Common.{◌≡◌, drop, Ok}
use Rattle.std.specs.List.{fold}
use Rattle.k_mem.specs.Calls.{fill_of}
use Rattle.k_world.specs.Changes.{item_stored, memory_filled}
use Rattle.k_world.proofs.run_state.objects.fill_items.Given as goal

abbrev pub invariant-loop-item : goal.invariant-loop-item
invariant-loop-item l = record {
  writable : fill_of l.objects l.fn.object ≡ Ok tt;
  filled : fold (item_stored l.fn.object) l.objects (drop l.item-index l.items) ≡ memory_filled l.fn.objects l.fn.object l.fn.items;
}
