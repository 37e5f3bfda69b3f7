use Rattle.std.proofs.Common.{arith}
use Rattle.k_hexadecimal.proofs.StepLaws.{text_none, text_zero, text_other}
use Rattle.k_hexadecimal.proofs.hexadecimal.of_bytes.Goals as goal

pub returns-in-None : goal.returns-in-None
returns-in-None c = text_none c.args.p c.args.text.now c.in-None.ensures.cases

pub returns-then-b-eq48 : goal.returns-then-b-eq48
returns-then-b-eq48 c = text_zero c.args.p c.in-Some.b.now c.args.text.now c.in-Some.later.now c.behind_zero.result c.in-Some.ensures.cases.0 (omega (arith, c.if-b-eq48.true)) c.behind_zero.ensures

pub returns-else-b-eq48 : goal.returns-else-b-eq48
returns-else-b-eq48 c = text_other c.args.p c.in-Some.b.now c.args.text.now c.in-Some.later.now c.in-Some.ensures.cases.0 (λ k. omega (arith, k, c.if-b-eq48.false))
