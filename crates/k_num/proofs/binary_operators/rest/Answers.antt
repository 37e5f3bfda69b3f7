use Rattle.k_num.proofs.Ranges.{rest_is}
use Rattle.k_num.proofs.binary_operators.rest.Goals as goal

pub returns : goal.returns
returns c = rest_is c.args.a c.args.b c.ranges.a c.ranges.b
