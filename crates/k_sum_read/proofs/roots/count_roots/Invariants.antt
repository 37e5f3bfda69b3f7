use Rattle.std.proofs.Common.{◌≡◌, ◌+◌, ◌≤◌, length}
use Rattle.k_dict_entries.specs.Tallies.{total}
use Rattle.k_dict_saved.specs.Extents.{capped}
use Rattle.k_sum_read.proofs.roots.count_roots.Given as goal

abbrev pub invariant-loop-root : goal.invariant-loop-root
invariant-loop-root l = record {
  count : capped (l.count + total l.rest) ≡ capped (total l.roots);
  few : l.count ≤ 18446744073709551615;
}

abbrev pub decreases-loop-root : goal.decreases-loop-root
decreases-loop-root l = length l.rest
