use Rattle.std.proofs.Common.{◌≡◌, ◌+◌, length}
use Rattle.k_dict_entries.specs.Tallies.{total}
use Rattle.k_sum.specs.Joining.{counted_all}
use Rattle.k_sum.proofs.entries.count_all.Given as goal

abbrev pub invariant-loop-run : goal.invariant-loop-run
invariant-loop-run l = record {
  whole : counted_all l.rest l.tally ≡ counted_all l.runs l.fn.tally;
  sum : total l.tally + total l.rest ≡ total l.fn.tally + total l.runs;
}

abbrev pub decreases-loop-run : goal.decreases-loop-run
decreases-loop-run l = length l.rest
