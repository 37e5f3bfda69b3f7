use Rattle.std.proofs.Common.{ap, subst, sym, ◌∙◌, T}
use Rattle.std.specs.Prelude.{if◌then◌else◌}
use Rattle.std.specs.Float.{is_sign_negative}
use Rattle.std.specs.Float.Ieee.{neg, of_bits}
use Rattle.k_math.proofs.RemainderLaws.{remainder_is, some_significand, by_zero}
use Rattle.k_math.proofs.remainder.of_numbers.Goals as goal

pub of_sizes-requires : goal.of_sizes-requires
unfolding of_bits
of_sizes-requires c = some_significand c.args.y c.code_of-else-y.result (subst T (sym c.well_formed.1.0.1) tt) c.code_of-else-y.ensures c.requires.second c.if-y.false

pub returns-then-y : goal.returns-then-y
unfolding of_bits
returns-then-y c = c.not_a_number.ensures ∙ by_zero c.args.x c.args.y c.requires.first c.requires.second c.if-y.true

pub returns-else-y : goal.returns-else-y
unfolding of_bits
returns-else-y c =
    c.signed.ensures ∙ ap (λ s. if s then neg c.of_sizes.result else c.of_sizes.result) c.is_negative.ensures
    ∙ ap (λ r. if is_sign_negative c.args.x then neg r else r) c.of_sizes.ensures
    ∙ remainder_is c.args.x c.args.y c.code_of.result c.code_of-else-y.result (subst T (sym c.well_formed.0.1) tt) (subst T (sym c.well_formed.1.0.1) tt) c.code_of.ensures c.code_of-else-y.ensures
    c.requires.first c.requires.second c.if-y.false
