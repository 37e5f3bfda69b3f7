use Rattle.k_real.proofs.DigitLaws.{times_spells}
use Rattle.k_real.proofs.digits.times.Goals as goal

pub returns : goal.returns
returns c = times_spells c.args.factor c.args.more c.args.xs.now c.in_ok-ys.ys.items c.requires.low c.requires.factor c.requires.more c.requires.digits c.in_ok-ys.ensures
