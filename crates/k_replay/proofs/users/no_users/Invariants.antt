use Rattle.std.proofs.Common.{◌≡◌, replicate, []}
use Rattle.k_replay.proofs.users.no_users.Given as goal

abbrev pub invariant-loop-k : goal.invariant-loop-k
invariant-loop-k l = l.users.items ≡ replicate l._k []
