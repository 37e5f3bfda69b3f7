use Rattle.std.proofs.Common.{sym, ◌∙◌}
use Rattle.k_math.proofs.RemainderLaws.{by_infinity, by_nan}
use Rattle.k_math.proofs.remainder.of_number.Goals as goal

pub returns-then-is_infinite : goal.returns-then-is_infinite
returns-then-is_infinite c = by_infinity c.args.x c.args.y c.requires (sym c.is_infinite.ensures.value ∙ c.if-is_infinite.true)

pub returns-else-is_infinite : goal.returns-else-is_infinite
returns-else-is_infinite c =
    c.not_a_number.ensures ∙ by_nan c.args.x c.args.y c.requires (sym c.is_finite.ensures.value ∙ c.if-is_finite.false) (sym c.is_infinite.ensures.value ∙ c.if-is_infinite.false)
