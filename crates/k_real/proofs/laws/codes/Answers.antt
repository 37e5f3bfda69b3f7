use Rattle.k_real.proofs.CodeLaws.{codes_are_held, results_are_held, negated_are_held, converted_are_held}
use Rattle.k_real.proofs.laws.codes.Goals as goal

pub returns-clause-codes : goal.returns-clause-codes
returns-clause-codes c = codes_are_held

pub returns-clause-results : goal.returns-clause-results
returns-clause-results c = results_are_held

pub returns-clause-negated : goal.returns-clause-negated
returns-clause-negated c = negated_are_held

pub returns-clause-converted : goal.returns-clause-converted
returns-clause-converted c = converted_are_held
