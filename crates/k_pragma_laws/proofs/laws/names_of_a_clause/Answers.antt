use Rattle.k_pragma_laws.proofs.ClauseNames.{clause_names_are_variables}
use Rattle.k_pragma_laws.proofs.laws.names_of_a_clause.Goals as goal

pub returns : goal.returns
returns c = clause_names_are_variables
