use Rattle.std.proofs.Common.{◌≡◌, drop}
use Rattle.k_types_meaning.specs.Units as rules
use Rattle.k_types.proofs.entry.has_main.Given as goal

abbrev pub invariant-loop-item : goal.invariant-loop-item
invariant-loop-item l = rules.has_main (drop l.item-index l.items) ≡ rules.has_main l.items
