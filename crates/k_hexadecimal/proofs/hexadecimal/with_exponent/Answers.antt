use Rattle.std.proofs.Common.{arith}
use Rattle.k_hexadecimal.proofs.StepLaws.{exponent_none, exponent_minus, exponent_plus, exponent_plain}
use Rattle.k_hexadecimal.proofs.hexadecimal.with_exponent.Goals as goal

pub returns-in-None : goal.returns-in-None
returns-in-None c = λ m h. exponent_none c.args.p m c.args.behind c.args.text.now c.in-None.ensures.cases

pub returns-then-b-eq45 : goal.returns-then-b-eq45
returns-then-b-eq45 c = λ m h. exponent_minus c.args.p m c.args.behind c.in-Some.b.now c.args.text.now c.in-Some.later.now c.with_power.result c.in-Some.ensures.cases.0 (omega (arith, c.if-b-eq45.true)) (c.with_power.ensures m h)

pub returns-then-b-eq43 : goal.returns-then-b-eq43
returns-then-b-eq43 c = λ m h. exponent_plus c.args.p m c.args.behind c.in-Some.b.now c.args.text.now c.in-Some.later.now c.with_power-then-b-eq43.result c.in-Some.ensures.cases.0 (omega (arith, c.if-b-eq43.true)) (c.with_power-then-b-eq43.ensures m h)

pub returns-else-b-eq43 : goal.returns-else-b-eq43
returns-else-b-eq43 c =
    λ m h. exponent_plain c.args.p m c.args.behind c.in-Some.b.now c.args.text.now c.in-Some.later.now c.with_power-else-b-eq43.result c.in-Some.ensures.cases.0 (λ k. omega (arith, k, c.if-b-eq45.false)) (λ k. omega (arith, k, c.if-b-eq43.false))
    (c.with_power-else-b-eq43.ensures m h)
