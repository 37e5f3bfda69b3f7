use Rattle.std.proofs.Common.{ℕ, ◌<◌, ◌≤◌, length, get_or}
use Rattle.k_shadow.proofs.lists.innermost_live.Given as goal

-- at the levels behind it is not live
abbrev pub invariant-loop-live : goal.invariant-loop-live
invariant-loop-live l = record {
  few : l.live ≤ length l.numbers;
  gone : (k : ℕ) → l.live ≤ k → k < length l.numbers → l.stamp < get_or l.numbers k 0;
}

-- a level fewer each time
abbrev pub decreases-loop-live : goal.decreases-loop-live
decreases-loop-live l = l.live
