use Rattle.k_real.proofs.GeneralLaws.{carried_point, own_point}
use Rattle.k_real.proofs.general.point_at.Goals as goal

pub returns-then-many-ys-clause-value : goal.returns-then-many-ys-clause-value
returns-then-many-ys-clause-value c = carried_point c.args.ys.now c.args.a c.args.many c.places.result c.requires c.if-many-ys.true c.places.ensures.value

pub returns-clause-value : goal.returns-clause-value
returns-clause-value c = own_point c.args.ys.now c.args.a c.args.many c.places-2.result c.requires c.if-many-ys.false c.places-2.ensures.value
