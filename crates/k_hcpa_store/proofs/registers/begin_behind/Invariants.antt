use Rattle.std.proofs.Common.{◌≡◌, ◌+◌, ◌≤◌, ◌++◌, map, vec_len, vec_capacity}
use Rattle.k_code.specs.Steps.{parameters}
use Rattle.k_hcpa_store.specs.Calls.{held_up_to, slots_of}
use Rattle.k_hcpa_store.specs.Slots.{held_of}
use Rattle.k_hcpa_store.proofs.registers.begin_behind.Given as goal

abbrev pub invariant-loop-k : goal.invariant-loop-k
invariant-loop-k l = record {
  begun : map held_of l.list.items ≡ map held_of l.fn.list.items ++ held_up_to l.k (parameters l.f.params (slots_of l.reads));
  room : vec_len l.list + l.f.registers ≤ vec_capacity l.list + l.k;
}
