use Rattle.std.proofs.Common.{sym, ◌∙◌}
use Rattle.k_math.proofs.SignLaws.{unsigned}
use Rattle.k_math.proofs.doubles.is_negative.Goals as goal

pub returns-then-is_nan : goal.returns-then-is_nan
returns-then-is_nan c = unsigned c.args.x (sym c.is_nan.ensures.value ∙ c.if-is_nan.true)
