use Rattle.k_selfpar_laws.proofs.Examples.{are_contexts, are_rows, dictionary}
use Rattle.k_selfpar_laws.proofs.laws.worked_example.Goals as goal

pub returns-clause-entries : goal.returns-clause-entries
returns-clause-entries c = dictionary

pub returns-clause-rows : goal.returns-clause-rows
returns-clause-rows c = are_rows

pub returns-clause-contexts : goal.returns-clause-contexts
returns-clause-contexts c = are_contexts
