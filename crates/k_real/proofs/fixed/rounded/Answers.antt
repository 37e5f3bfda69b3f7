use Rattle.std.proofs.Common.{subst}
use Rattle.std.specs.Prelude.{◌*◌, ◌-◌, ◌^◌}
use Rattle.std.specs.Float.Ieee.Nearest.{closest}
use Rattle.k_real.specs.Digits.{value, Spells}
use Rattle.k_real.proofs.SizeLaws.{rounded_spells}
use Rattle.k_real.proofs.fixed.rounded.Goals as goal

pub returns : goal.returns
returns c =
    rounded_spells c.args.a c.args.many c.places.result c.in_ok-xs.xs.items c.in_ok-ys.ys.items c.requires c.in_ok-xs.ensures c.places.ensures.value
    (subst (λ u. Spells c.in_ok-ys.ys.items (closest (value u * 10 ^ (c.args.many - c.places.result)) (10 ^ (c.places.result - c.args.many)))) c.deref.ensures.value c.in_ok-ys.ensures)
