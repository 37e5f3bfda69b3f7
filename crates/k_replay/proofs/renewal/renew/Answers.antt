use Rattle.std.proofs.Common.{◌∙◌, ap, arith, Bool, set, get_or}
use Rattle.k_replay.specs.Plays.{can_give}
use Rattle.k_replay.proofs.Renewed.{renews_step}
use Rattle.k_replay.proofs.renewal.renew.Goals as goal

pub loop-k-preserved : goal.loop-k-preserved
loop-k-preserved c =
    renews_step c.args.numbers.now c.loop-k.k-index 0 (can_give c.args.steps.now c.args.held.now c.args.values.now) c.args.ready.now c.loop-k.ready c.set.new.self
    c.loop-k-test.true (omega (arith, c.requires c.loop-k.k-index 0 c.loop-k-test.true, c.loop-k.invariant.lengths)) c.loop-k.invariant
    (c.set.ensures ∙ ap (λ (b : Bool). set c.loop-k.ready (get_or c.args.numbers.now c.loop-k.k-index 0) b) c.can_give.ensures)
