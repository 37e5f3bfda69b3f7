use Rattle.std.proofs.Common.{◌≡◌, length}
use Rattle.k_selfpar.specs.Counts.{CanCount, with_children}
use Rattle.k_selfpar.proofs.counts.count_children.Given as goal

abbrev pub invariant-loop-run : goal.invariant-loop-run
invariant-loop-run l = record {
  done : with_children l.count l.counts l.rest ≡ with_children l.count l.fn.counts l.runs;
  can : CanCount l.count l.counts l.rest;
}

abbrev pub decreases-loop-run : goal.decreases-loop-run
decreases-loop-run l = length l.rest
