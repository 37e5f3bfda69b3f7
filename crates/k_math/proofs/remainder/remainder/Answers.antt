use Rattle.std.proofs.Common.{sym, ◌∙◌}
use Rattle.k_math.proofs.RemainderLaws.{of_infinite}
use Rattle.k_math.proofs.remainder.remainder.Goals as goal

pub returns-else-is_finite : goal.returns-else-is_finite
returns-else-is_finite c = c.not_a_number.ensures ∙ of_infinite c.args.x c.args.y (sym c.is_finite.ensures.value ∙ c.if-is_finite.false)
