use Rattle.std.proofs.Common.{◌≡◌, ◌+◌, ◌++◌, ◌<◌, ◌^◌, length}
use Rattle.k_dict_entries.specs.Tallies.{count_of, counted}
use Rattle.k_hcpa_summaries.proofs.level.with_child.Given as goal

-- the rest with the child is what is still to be added
abbrev pub invariant-loop-run : goal.invariant-loop-run
invariant-loop-run l = record {
  all : l.all ++ counted l.child 1 l.rest ≡ counted l.child 1 l.runs;
  few : count_of l.child l.rest + 1 < 2 ^ 64;
}

abbrev pub decreases-loop-run : goal.decreases-loop-run
decreases-loop-run l = length l.rest
