use Rattle.std.proofs.Common.{◌≡◌, length}
use Rattle.k_replay.specs.Rounds.{Turns}
use Rattle.k_replay.proofs.Advancing.{MovedSoFar}
use Rattle.k_replay.proofs.rounds.round.Given as goal

abbrev pub invariant-loop-i : goal.invariant-loop-i
invariant-loop-i l = record {
  turns : Turns l.workers l.first l.i (record { play = l.fn.core; tallies = l.fn.tallies.items }) (record { play = l.core; tallies = l.tallies.items });
  workers : length l.core.held ≡ l.workers;
  tallies : length l.tallies.items ≡ l.workers;
  moved : MovedSoFar l.workers l.first l.i l.fn.core l.core;
}
