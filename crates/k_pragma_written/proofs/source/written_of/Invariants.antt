use Rattle.std.proofs.Common.{◌≡◌, ◌++◌, drop}
use Rattle.k_pragma_written.specs.Written.{loops_of_items, names_of_items}
use Rattle.k_pragma_written.proofs.source.written_of.Given as goal

abbrev pub invariant-loop-item : goal.invariant-loop-item
invariant-loop-item l = record {
  names : l.told.names ++ names_of_items (drop l.item-index l.item-items) ≡ names_of_items l.unit.items;
  bare : l.told.bare ++ loops_of_items (drop l.item-index l.item-items) ≡ loops_of_items l.unit.items;
}
