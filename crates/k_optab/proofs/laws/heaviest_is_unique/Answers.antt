use Rattle.k_optab.proofs.Heaviest.{heaviest_unique, heaviest_to_unique}
use Rattle.k_optab.proofs.laws.heaviest_is_unique.Goals as goal

pub returns-clause-interval : goal.returns-clause-interval
returns-clause-interval c = heaviest_unique

pub returns-clause-operation : goal.returns-clause-operation
returns-clause-operation c = heaviest_to_unique
