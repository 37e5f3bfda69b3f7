use Rattle.std.proofs.Common.{◌≡◌, ℕ, ◌+◌, ◌<◌, ◌≤◌, false, get_or}
use Rattle.k_replay.proofs.ready_set.first_from.Given as goal

abbrev pub invariant-loop-k : goal.invariant-loop-k
invariant-loop-k l = record {
  none : (j : ℕ) → l.from ≤ j → j < l.k → get_or l.flags j false ≡ false;
  near : l.k ≤ l.from + 2048;
}
