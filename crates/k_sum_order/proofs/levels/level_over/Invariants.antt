use Rattle.std.proofs.Common.{◌≡◌, max, length}
use Rattle.k_dict_entries.specs.Entries.{NameBelow}
use Rattle.k_sum_order.specs.Placing.{level_over}
use Rattle.k_sum_order.proofs.levels.level_over.Given as goal

abbrev pub invariant-loop-run : goal.invariant-loop-run
invariant-loop-run l = record {
  level : max l.level (level_over l.levels l.rest) ≡ level_over l.levels l.runs;
  below : NameBelow (length l.levels) l.rest;
}

abbrev pub decreases-loop-run : goal.decreases-loop-run
decreases-loop-run l = length l.rest
