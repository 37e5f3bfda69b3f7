use Rattle.k_real.proofs.GeneralLaws.{tail_spells, none_spells}
use Rattle.k_real.proofs.general.without_first.Goals as goal

pub returns-then-ys-gt0 : goal.returns-then-ys-gt0
returns-then-ys-gt0 c = tail_spells c.args.ys.now c.requires

pub returns : goal.returns
returns c = none_spells c.args.ys.now c.requires c.if-ys-gt0.false
