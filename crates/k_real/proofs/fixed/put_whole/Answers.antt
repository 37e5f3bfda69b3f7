use Rattle.std.proofs.Common.{sym, subst}
use Rattle.k_real.specs.Digits.{AreDigits}
use Rattle.k_real.proofs.RoundingLaws.{rest_whole, dropped_digits}
use Rattle.k_real.proofs.SizeLaws.{whole_written, zero_written}
use Rattle.k_real.proofs.fixed.put_whole.Goals as goal

pub put_digits-requires : goal.put_digits-requires
put_digits-requires c = subst AreDigits (sym (rest_whole c.args.many c.args.ys.now)) (dropped_digits c.args.many c.args.ys.now c.requires)

pub returns-then-many-ys : goal.returns-then-many-ys
returns-then-many-ys c = whole_written c.args.ys.now c.args.out.now.items c.put_digits.new.out.items c.args.many c.requires c.if-many-ys.true c.in_ok-put_digits.ensures

pub returns : goal.returns
returns c = zero_written c.args.ys.now c.args.out.now.items c.put_digits-2.new.out.items c.args.many c.requires c.if-many-ys.false c.in_ok-put_digits-2.ensures
