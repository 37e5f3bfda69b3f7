use Rattle.std.proofs.Common.{◌≡◌, ◌++◌, map, drop}
use Rattle.std.specs.BTreeMap.{get_by_text}
use Rattle.k_types_meaning.specs.Units.{all_names, defined_in}
use Rattle.k_types.specs.Defined.{IsIndexed}
use Rattle.k_types.proofs.defined.Defined.by.Given as goal

abbrev pub invariant-loop-item : goal.invariant-loop-item
invariant-loop-item l = record {
  names : l.names ++ all_names (map defined_in (drop l.item-index l.item-items)) ≡ all_names (map defined_in l.unit.items);
  places : IsIndexed l.names (get_by_text l.places);
}
