use Rattle.k_real.proofs.SizeLaws.{is_the_nan, is_no_nan, not_negative}
use Rattle.k_shaped.proofs.reals.is_negative.Goals as goal

pub is_sign_negative-requires : goal.is_sign_negative-requires
is_sign_negative-requires c = is_no_nan c.args.x c.if-x.false

pub returns-then-x : goal.returns-then-x
returns-then-x c = not_negative c.args.x (is_the_nan c.args.x c.if-x.true)
