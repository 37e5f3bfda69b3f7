use Rattle.std.proofs.Common.{ap, sym, ◌∙◌, arith}
use Rattle.std.specs.Prelude.{min}
use Rattle.std.specs.Char.{is_ascii_digit}
use Rattle.k_shaped.specs.Spelling.{value}
use Rattle.k_shaped.specs.Reading.{front}
use Rattle.k_shaped.proofs.NumberLaws.{next_digit}
use Rattle.k_shaped.proofs.parts.number.Goals as goal

pub loop-b-preserved : goal.loop-b-preserved
loop-b-preserved c =
    record {
      low = omega (arith, c.min-n.ensures);
      whole =
          next_digit c.loop-b.n c.min-n.result c.in-Some.b.now c.in-Some.more.now (sym c.is_ascii_digit.ensures.value ∙ c.if-not-is_ascii_digit.false) (omega (arith, c.min-n.ensures, c.from.ensures))
          ∙ ap (λ r. min 4096 (value c.loop-b.n (front is_ascii_digit r))) (sym c.in-Some.ensures.cases.0) ∙ c.loop-b.invariant.whole;
    }
