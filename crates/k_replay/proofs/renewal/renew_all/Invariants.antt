use Rattle.std.proofs.Common.{◌≡◌, ◌<◌, ℕ, false, get_or, length}
use Rattle.k_replay.specs.Plays.{can_give}
use Rattle.k_replay.proofs.renewal.renew_all.Given as goal

abbrev pub invariant-loop-k : goal.invariant-loop-k
invariant-loop-k l = record {
  lengths : length l.ready ≡ length l.steps;
  ready : (j : ℕ) → j < l.k → get_or l.ready j false ≡ can_give l.steps l.held l.values j;
}
