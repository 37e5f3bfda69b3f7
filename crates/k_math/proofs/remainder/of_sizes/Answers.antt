use Rattle.std.proofs.Common.{◌<◌, ◌≤◌, arith, ap, ◌∙◌}
use Rattle.k_math.specs.Remainder.{of_units}
use Rattle.k_math.proofs.RemainderLaws.{smaller_left, greater_left}
use Rattle.k_math.proofs.remainder.of_sizes.Goals as goal

pub returns-then-e-d : goal.returns-then-e-d
returns-then-e-d c =
    let less : c.exponent-e.result < c.exponent-d.result = omega (arith, c.if-e-d.true) in
    c.in_units.ensures ∙ ap of_units (smaller_left c.args.a c.args.b c.significand-m.result c.exponent-e.result c.exponent-d.result c.significand-m.ensures.value c.exponent-e.ensures.value c.exponent-d.ensures.value less)

pub returns-else-e-d : goal.returns-else-e-d
returns-else-e-d c =
    let least : c.exponent-d.result ≤ c.exponent-e.result = omega (arith, c.if-e-d.false) in
    c.in_units-else-e-d.ensures
    ∙ ap of_units
    (greater_left c.args.a c.args.b c.significand-m.result c.exponent-e.result c.significand-n.result c.exponent-d.result c.left_over.result c.significand-m.ensures.value c.exponent-e.ensures.value
    c.significand-n.ensures.value c.exponent-d.ensures.value least c.requires c.left_over.ensures.value)
