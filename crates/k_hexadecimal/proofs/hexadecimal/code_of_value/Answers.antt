use Rattle.std.proofs.Common.{◌+◌, ◌*◌, ◌^◌, arith, ap, ◌∙◌, refl}
use native.Mathlib.Nat.{mul-pos}
use lib.Pow.{pow_pos}
use Rattle.k_real.specs.Constants.{finite_code}
use Rattle.k_hexadecimal.specs.Hexadecimal.{code_with}
use Rattle.k_hexadecimal.proofs.HexadecimalLaws.{small_head, full_head, no_head, sixteen_pos, in_least}
use Rattle.k_hexadecimal.proofs.PowerLaws.{zero_code}
use Rattle.k_hexadecimal.proofs.hexadecimal.code_of_value.Goals as goal

pub pattern-requires-clause-head : goal.pattern-requires-clause-head
pattern-requires-clause-head c = small_head c.args.s c.requires.some.0 c.requires.some.1

pub pattern-requires-clause-full : goal.pattern-requires-clause-full
pattern-requires-clause-full c = full_head c.args.s c.requires.some.0 c.requires.some.1

pub returns-then-s-eq0 : goal.returns-then-s-eq0
returns-then-s-eq0 c = λ m h. zero_code c.args.p m c.args.up c.args.down c.args.behind (no_head c.args.s m (omega (arith, c.if-s-eq0.true)) h)

pub returns-else-s-eq0 : goal.returns-else-s-eq0
unfolding code_with
returns-else-s-eq0 c =
    let d = c.args.s.dropped in
    λ m h.
    c.finite_code.ensures
    ∙ ap finite_code
    (c.real_of_bits.ensures
    ∙ c.pattern.ensures.value (m * 2 ^ c.args.up) (2 ^ c.args.down * 16 ^ c.args.behind) (16 ^ d) h.0 (mul-pos (pow_pos c.args.down) (sixteen_pos c.args.behind)) (sixteen_pos d) h.1.below h.1.more
    (in_least c.args.s.head h.0 d c.args.up c.args.down c.args.behind _ _ _ m h.1.number_is (ap (λ l. c.args.up + 4 * d + l) (c.from.ensures ∙ c.sizes-digits.ensures.least)) refl))
