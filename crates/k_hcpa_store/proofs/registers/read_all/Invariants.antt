use Rattle.std.proofs.Common.{◌≡◌, All, map, take}
use Rattle.k_world.specs.declared.value.Read.{Read}
use Rattle.k_world.specs.Operands.{source_in}
use Rattle.k_code.specs.Steps.{read_of}
use Rattle.k_hcpa_store.specs.Kept.{window}
use Rattle.k_hcpa_store.specs.Slots.{CanKeep}
use Rattle.k_hcpa_store.proofs.registers.read_all.Given as goal

abbrev pub invariant-loop-arg : goal.invariant-loop-arg
invariant-loop-arg l = record {
  read : l.reads.items ≡ map (read_of (window l.registers l.first)) (take l.arg-index l.args);
  keeps : All (λ (r : Read). CanKeep (source_in r.slot)) l.reads.items;
}
