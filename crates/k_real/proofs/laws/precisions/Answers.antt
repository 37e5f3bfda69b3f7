use Rattle.k_real.proofs.PrecisionLaws.{results_are_of_precision, converted_are_of_precision}
use Rattle.k_real.proofs.laws.precisions.Goals as goal

pub returns-clause-results : goal.returns-clause-results
returns-clause-results c = results_are_of_precision

pub returns-clause-converted : goal.returns-clause-converted
returns-clause-converted c = converted_are_of_precision
