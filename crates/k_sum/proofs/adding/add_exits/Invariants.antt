use Rattle.std.proofs.Common.{◌≡◌, ◌+◌, length}
use Rattle.k_sum.specs.Exits.{total, with_exits}
use Rattle.k_sum.proofs.adding.add_exits.Given as goal

abbrev pub invariant-loop-exit : goal.invariant-loop-exit
invariant-loop-exit l = record {
  whole : with_exits l.all l.rest ≡ with_exits l.fn.all l.exits;
  sum : total l.all + total l.rest ≡ total l.fn.all + total l.exits;
}

abbrev pub decreases-loop-exit : goal.decreases-loop-exit
decreases-loop-exit l = length l.rest
