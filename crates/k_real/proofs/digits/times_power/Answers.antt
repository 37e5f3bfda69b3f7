use Rattle.std.proofs.Common.{subst}
use Rattle.std.specs.Prelude.{◌+◌, ◌*◌}
use Rattle.k_real.specs.Digits.{value, Spells}
use Rattle.k_real.proofs.DigitLaws.{spelled_power}
use Rattle.k_real.proofs.digits.times_power.Goals as goal

pub loop-k-preserved : goal.loop-k-preserved
loop-k-preserved c = spelled_power (value c.args.xs.items) c.args.factor c.loop-k._k c.loop-k.ys.items c.in_ok-ys.ys.items c.loop-k.invariant (subst (λ u. Spells c.in_ok-ys.ys.items (value u * c.args.factor + 0)) c.deref.ensures.value c.in_ok-ys.ensures)
