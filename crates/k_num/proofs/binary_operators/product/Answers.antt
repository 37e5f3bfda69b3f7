use Rattle.k_num.proofs.Ranges.{fits_product, product_is}
use Rattle.k_num.proofs.binary_operators.product.Goals as goal

pub returns : goal.returns
returns c =
    product_is c.args.a c.args.b c.ranges.a c.ranges.b
    (fits_product c.args.kind c.args.a c.args.b c.requires.signed c.requires.left c.requires.right)
