use Rattle.k_num.proofs.Ranges.{natural_product_is}
use Rattle.k_num.proofs.binary_operators.product_of_naturals.Goals as goal

pub returns : goal.returns
returns c =
    natural_product_is c.args.kind c.args.a c.args.b c.ranges.a c.ranges.b c.requires.unsigned c.requires.left c.requires.right
