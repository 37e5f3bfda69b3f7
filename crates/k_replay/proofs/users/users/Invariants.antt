use Rattle.std.proofs.Common.{◌≡◌, length, take}
use Rattle.k_replay.specs.Kept.{AreUsers, NamesBelow}
use Rattle.k_replay.proofs.users.users.Given as goal

abbrev pub invariant-loop-k : goal.invariant-loop-k
invariant-loop-k l = record {
  lists : length l.users.items ≡ length l.steps;
  users : AreUsers l.users.items (take l.k l.steps);
  named : NamesBelow l.users.items l.k;
}
