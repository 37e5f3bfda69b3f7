use Rattle.std.proofs.Common.{◌≡◌, ◌≤◌, ◌-◌, ◌++◌, length}
use Rattle.k_selfpar.specs.Items.{occurring}
use Rattle.k_selfpar.proofs.item.occurring_entries.Given as goal

abbrev pub invariant-loop-count : goal.invariant-loop-count
invariant-loop-count l = record {
  few : length l.rest ≤ length l.counts;
  items : l.items.items ++ occurring l.dict (length l.counts - length l.rest) l.rest ≡ occurring l.dict 0 l.counts;
}

abbrev pub decreases-loop-count : goal.decreases-loop-count
decreases-loop-count l = length l.rest
