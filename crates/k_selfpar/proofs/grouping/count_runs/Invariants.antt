use Rattle.std.proofs.Common.{◌≡◌, ◌+◌, ◌*◌, ◌<◌, ◌^◌, length}
use Rattle.k_dict_entries.specs.Tallies.{total as count_all}
use Rattle.k_selfpar.specs.Grouping.{tallied}
use Rattle.k_selfpar.proofs.grouping.count_runs.Given as goal

abbrev pub invariant-loop-run : goal.invariant-loop-run
invariant-loop-run l = record {
  done : tallied l.count l.rest l.tally ≡ tallied l.count l.runs l.fn.tally;
  room : count_all l.tally + l.count * count_all l.rest < 2 ^ 64;
}

abbrev pub decreases-loop-run : goal.decreases-loop-run
decreases-loop-run l = length l.rest
