use Rattle.std.proofs.Common.{arith, refl}
use Rattle.k_hexadecimal.specs.Hexadecimal.{number}
use Rattle.k_hexadecimal.proofs.StepLaws.{fraction_none, fraction_point, fraction_whole}
use Rattle.k_hexadecimal.proofs.hexadecimal.with_fraction.Goals as goal

pub with_rest-requires-clause-some : goal.with_rest-requires-clause-some
with_rest-requires-clause-some c = (number c.requires.some.0 c.in-Some.later.now, c.read.ensures.value c.requires.some.0 c.requires.some.1)

pub returns-in-None : goal.returns-in-None
returns-in-None c = λ m h. fraction_none c.args.p m c.args.digits c.args.text.now c.in-None.ensures.cases

pub returns-then-b-eq46 : goal.returns-then-b-eq46
returns-then-b-eq46 c =
    λ m h. fraction_point c.args.p m c.args.digits c.in-Some.b.now _ c.args.text.now c.in-Some.later.now c.read.result.1.now c.with_rest.result c.in-Some.ensures.cases.0 (omega (arith, c.if-b-eq46.true)) c.read.ensures.rest refl
    (c.with_rest.ensures (number m c.in-Some.later.now) (c.read.ensures.value m h))

pub returns-else-b-eq46 : goal.returns-else-b-eq46
returns-else-b-eq46 c =
    λ m h. fraction_whole c.args.p m c.args.digits c.in-Some.b.now c.args.text.now c.in-Some.later.now c.with_rest-else-b-eq46.result c.in-Some.ensures.cases.0 (λ k. omega (arith, k, c.if-b-eq46.false)) (c.with_rest-else-b-eq46.ensures m h)
