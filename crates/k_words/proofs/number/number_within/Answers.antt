use Rattle.std.proofs.Common.{◌≡◌, arith, true}
use Rattle.std.proofs.lemmas.Grind.{common_steps}
use Rattle.k_words.specs.Number.{is_numeral}
use Rattle.k_words.proofs.Numbers.{number-none}
use Rattle.k_words.proofs.number.number_within.Goals as goal

pub returns-in-Err-clause-value : goal.returns-in-Err-clause-value
returns-in-Err-clause-value c =
    let numeral : is_numeral c.args.word.now ≡ true = grind (arith, common_steps) in
    number-none _ c.args.low c.args.high c.args.word.now c.in-Err.field-0 (omega (arith, c.ranges.high.fits)) numeral c.in-Err.ensures.value.0
