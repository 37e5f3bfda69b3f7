use Rattle.std.proofs.Common.{take}
use Rattle.k_replay.specs.Kept.{Renews}
use Rattle.k_replay.specs.Plays.{can_give}
use Rattle.k_replay.proofs.renewal.renew.Given as goal

abbrev pub invariant-loop-k : goal.invariant-loop-k
invariant-loop-k l = Renews (take l.k-index l.numbers) (can_give l.steps l.held l.values) l.fn.ready l.ready
