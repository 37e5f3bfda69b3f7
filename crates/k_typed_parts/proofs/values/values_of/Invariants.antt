use Rattle.std.proofs.Common.{◌≡◌, ◌++◌, drop}
use Rattle.k_evaluation.specs.Declarations.{values_from}
use Rattle.k_typed_parts.proofs.values.values_of.Given as goal

abbrev pub invariant-loop-item : goal.invariant-loop-item
invariant-loop-item l = l.values.items ++ values_from (drop l.item-index l.item-items) ≡ values_from l.items
