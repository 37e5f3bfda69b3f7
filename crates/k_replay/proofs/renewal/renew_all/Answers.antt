use Rattle.std.proofs.Common.{arith}
use Rattle.k_replay_record.proofs.Lists.{below_or_not}
use Rattle.std.proofs.Common.{length, inl, inr}
use Rattle.k_replay.proofs.Renewed.{none_past}
use Rattle.k_replay.proofs.renewal.renew_all.Goals as goal

pub returns-clause-ready : goal.returns-clause-ready
returns-clause-ready c = λ k. elim (below_or_not k (length c.args.steps.now)) [
  | inl low ↦ c.loop-k.invariant.ready k (omega (arith, low, c.loop-k-test.false))
  | inr past ↦ none_past c.args.steps.now c.args.held.now c.args.values.now c.loop-k.ready k c.loop-k.invariant.lengths past
]
