use Rattle.k_real.proofs.GeneralLaws.{carried_shown, own_shown}
use Rattle.k_real.proofs.general.shown.Goals as goal

pub returns-then-many-ys : goal.returns-then-many-ys
returns-then-many-ys c = carried_shown c.args.ys.now c.args.a c.args.many c.requires c.if-many-ys.true

pub returns : goal.returns
returns c = own_shown c.args.ys.now c.args.a c.args.many c.requires c.if-many-ys.false
