use Rattle.std.proofs.Common.{◌≡◌, ◌<◌, length}
use Rattle.k_gen.specs.Draw as row
use Rattle.k_replay.specs.Progress.{weight}
use Rattle.k_replay.specs.Rounds.{Rounds, begun}
use Rattle.k_replay.proofs.rounds.run_rounds.Given as goal

abbrev pub invariant-loop-core : goal.invariant-loop-core
invariant-loop-core l = record {
  rounds : Rounds l.seed l.workers l.rounds (begun l.workers l.fn.core) (record { play = l.core; tallies = l.tallies.items });
  row : l.state ≡ row.state l.seed l.rounds;
  below : l.state < 2147483648;
  workers : length l.core.held ≡ l.workers;
  tallies : length l.tallies.items ≡ l.workers;
}

abbrev pub decreases-loop-core : goal.decreases-loop-core
decreases-loop-core l = weight l.core
