use Rattle.std.proofs.Common.{ap, sym, subst, ◌∙◌}
use Rattle.std.specs.Prelude.{◌+◌, ◌*◌, ◌^◌, if◌then◌else◌}
use Rattle.std.specs.Float.Ieee.Nearest.{closest}
use Rattle.k_real.specs.Digits.{value, AreDigits, Spells}
use Rattle.k_real.proofs.RoundingLaws.{narrowed_spells, nothing_left, dropped_digits, rest_whole}
use Rattle.k_real.proofs.digits.narrowed.Goals as goal

pub returns-then-many-xs : goal.returns-then-many-xs
returns-then-many-xs c =
    subst (λ z. Spells z (closest (value c.args.xs.now) (10 ^ c.args.many))) (sym c.new.ensures.items) (nothing_left c.args.xs.now c.args.many c.requires.digits c.if-many-xs.true)

pub times-requires-clause-digits : goal.times-requires-clause-digits
times-requires-clause-digits c = subst AreDigits (sym (rest_whole c.args.many c.args.xs.now)) (dropped_digits c.args.many c.args.xs.now c.requires.digits)

pub returns : goal.returns
returns c =
    narrowed_spells c.args.xs.now c.in_ok-ys.ys.items c.args.many c.one_if.result c.requires.digits (c.one_if.ensures.value ∙ ap (λ b. if b then 1 else 0) c.rounds_up.ensures)
    (subst (λ l. Spells c.in_ok-ys.ys.items (value l * 1 + c.one_if.result)) (rest_whole c.args.many c.args.xs.now) c.in_ok-ys.ensures)
