use Rattle.k_real.proofs.ScientificLaws.{leading_spells}
use Rattle.k_real.proofs.scientific.leading.Goals as goal

pub returns : goal.returns
returns c = leading_spells c.args.xs.now c.in_ok-ys.ys.items c.args.a c.args.many c.requires c.in_ok-ys.ensures
