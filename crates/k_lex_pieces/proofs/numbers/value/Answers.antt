use Rattle.std.proofs.Common.{◌≡◌, ◌+◌, ◌*◌, ap, ◌∙◌, sym, arith}
use Rattle.k_lex_pieces.specs.Bytes.{digit_value}
use Rattle.k_lex_pieces.specs.Numbers.{value}
use Rattle.k_lex_pieces.proofs.NumberLaws.{value_grows}
use Rattle.k_lex_pieces.proofs.numbers.value.Goals as goal

pub returns-in-None : goal.returns-in-None
returns-in-None c =
    let next = c.loop-digit.so_far * c.args.base + digit_value c.in-Some.digit.now in
    let whole : value c.args.base next c.in-Some.more.now ≡ value c.args.base 0 c.args.digits.now =
    sym (ap (value c.args.base c.loop-digit.so_far) c.in-Some.ensures.cases.0) ∙ c.loop-digit.invariant in
    omega (arith, value_grows c.args.base next c.in-Some.more.now c.requires, c.in-None.ensures, whole)
