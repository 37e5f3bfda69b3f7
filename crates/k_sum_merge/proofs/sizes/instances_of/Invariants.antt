use Rattle.std.proofs.Common.{◌≡◌, ◌+◌, ◌≤◌, length}
use Rattle.k_dict_entries.specs.Entries.{NameBelow}
use Rattle.k_dict_saved.specs.Extents.{capped}
use Rattle.k_sum_merge.specs.Sizes.{instances_in}
use Rattle.k_sum_merge.proofs.sizes.instances_of.Given as goal

abbrev pub invariant-loop-run : goal.invariant-loop-run
invariant-loop-run l = record {
  count : capped (l.count + instances_in l.sizes l.rest) ≡ capped (instances_in l.sizes l.runs);
  few : l.count ≤ 18446744073709551615;
  below : NameBelow (length l.sizes) l.rest;
}

abbrev pub decreases-loop-run : goal.decreases-loop-run
decreases-loop-run l = length l.rest
