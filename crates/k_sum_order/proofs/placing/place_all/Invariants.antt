use Rattle.std.proofs.Common.{◌≡◌, ◌<◌, All, length}
use Rattle.k_dict_entries.specs.Entries.{AreDistinct}
use Rattle.k_sum_order.specs.Placing.{placed_all}
use Rattle.k_sum_order.specs.declared.batch.Ranked.{Ranked}
use Rattle.k_sum_order.proofs.Batches.{numbers_of}
use Rattle.k_sum_order.proofs.placing.place_all.Given as goal

abbrev pub invariant-loop-ranked : goal.invariant-loop-ranked
invariant-loop-ranked l = record {
  whole : placed_all l.entries (record { dict = l.table; numbers = l.numbers }) (numbers_of l.rest)
      ≡ placed_all l.entries (record { dict = l.fn.table; numbers = l.fn.numbers }) (numbers_of l.batch);
  count : length l.numbers ≡ length l.entries;
  within : All (λ (r : Ranked). r.number < length l.entries) l.rest;
  distinct : AreDistinct l.table;
}

abbrev pub decreases-loop-ranked : goal.decreases-loop-ranked
decreases-loop-ranked l = length l.rest
