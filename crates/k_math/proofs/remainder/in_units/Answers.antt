use Rattle.k_math.proofs.RemainderLaws.{in_units_is}
use Rattle.k_math.proofs.remainder.in_units.Goals as goal

pub returns : goal.returns
returns c = in_units_is c.nearest_u64_to_f64.result c.unit_power.result c.args.n c.args.k c.nearest_u64_to_f64.ensures c.requires.small c.unit_power.ensures
