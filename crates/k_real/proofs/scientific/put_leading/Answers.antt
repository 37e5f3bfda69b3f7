use Rattle.std.proofs.Common.{sym, subst}
use Rattle.k_real.specs.Digits.{AreDigits}
use Rattle.k_real.proofs.RoundingLaws.{rest_whole, dropped_digits}
use Rattle.k_real.proofs.ScientificLaws.{carried, not_carried}
use Rattle.k_real.proofs.scientific.put_leading.Goals as goal

pub put_one_digit-requires : goal.put_one_digit-requires
put_one_digit-requires c = subst AreDigits (sym (rest_whole 1 c.args.ys.now)) (dropped_digits 1 c.args.ys.now c.requires.digits.digits)

pub returns-then-many-ys : goal.returns-then-many-ys
returns-then-many-ys c =
    carried c.args.ys.now c.args.out.now.items c.put_one_digit.new.out.items c.args.a c.args.many c.args.all c.places.result c.requires.digits c.if-many-ys.true c.requires.all
    c.places.ensures.value c.in_ok-put_one_digit.ensures

pub returns : goal.returns
returns c =
    not_carried c.args.ys.now c.args.out.now.items c.put_one_digit-2.new.out.items c.args.a c.args.many c.args.all c.places-2.result c.requires.digits c.if-many-ys.false c.requires.all
    c.places-2.ensures.value c.in_ok-put_one_digit-2.ensures
