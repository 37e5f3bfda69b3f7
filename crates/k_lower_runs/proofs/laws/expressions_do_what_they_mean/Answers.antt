use Rattle.k_lower_runs.proofs.Expressions.{expression_does}
use Rattle.k_lower_runs.proofs.laws.expressions_do_what_they_mean.Goals as goal

pub returns : goal.returns
returns c = expression_does
