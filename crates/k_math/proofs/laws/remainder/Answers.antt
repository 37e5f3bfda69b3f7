use Rattle.k_math.proofs.ExactLaws.{remainder_is_exact}
use Rattle.k_math.proofs.laws.remainder.Goals as goal

pub returns : goal.returns
returns c = remainder_is_exact
