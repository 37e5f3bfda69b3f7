use Rattle.std.specs.Int.{w128}
use Rattle.std.proofs.lemmas.Int.{quot_is}
use Rattle.k_num.proofs.Ranges.{held_range, fits_quotient}
use Rattle.k_num.proofs.binary_operators.quotient.Goals as goal

pub returns : goal.returns
returns c =
    quot_is w128 c.args.a c.args.b c.ranges.a c.ranges.b (fits_quotient c.args.a c.args.b (held_range c.args.kind c.args.a c.requires.left))
