use Rattle.std.proofs.Common.{rules, ◌≡◌, ◌∙◌, true, arith}
use Rattle.k_hexadecimal.specs.Hexadecimal.{is_number}
use Rattle.k_hexadecimal.proofs.PowerLaws.{no_power, power_down, power_up, power_far}
use Rattle.k_hexadecimal.proofs.hexadecimal.with_power.Goals as goal

pub returns-then-not-is_number : goal.returns-then-not-is_number
returns-then-not-is_number c = λ m h. no_power c.args.p m c.args.behind c.args.minus c.args.digits.now (search (rules, c.is_number.ensures))

pub returns-then-e-eq-FAR : goal.returns-then-e-eq-FAR
returns-then-e-eq-FAR c =
    let some : is_number c.args.digits.now ≡ true = search (rules, c.is_number.ensures) in
    λ m h. c.far_code.ensures ∙ power_far c.args.p c.args.s m c.args.behind c.decimal_number-e.result c.args.minus c.args.digits.now h c.requires.room c.ranges.behind.fits some c.decimal_number-e.ensures (omega (arith, c.if-e-eq-FAR.true))

pub returns-then-minus : goal.returns-then-minus
returns-then-minus c =
    let some : is_number c.args.digits.now ≡ true = search (rules, c.is_number.ensures) in
    λ m h. power_down c.args.p m c.args.behind c.decimal_number-e.result c.args.minus c.args.digits.now c.code_of_value.result some c.if-minus.true c.decimal_number-e.ensures (λ k. omega (arith, k, c.if-e-eq-FAR.false))
    (c.code_of_value.ensures m h)

pub returns-else-minus : goal.returns-else-minus
returns-else-minus c =
    let some : is_number c.args.digits.now ≡ true = search (rules, c.is_number.ensures) in
    λ m h. power_up c.args.p m c.args.behind c.decimal_number-e.result c.args.minus c.args.digits.now c.code_of_value-else-minus.result some c.if-minus.false c.decimal_number-e.ensures (λ k. omega (arith, k, c.if-e-eq-FAR.false))
    (c.code_of_value-else-minus.ensures m h)
