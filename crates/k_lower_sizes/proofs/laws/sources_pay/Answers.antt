use Rattle.k_lower_sizes.proofs.Counts.{nodes_add_up}
use Rattle.k_lower_sizes.proofs.Strings.{strings_are_few}
use Rattle.k_lower_sizes.proofs.laws.sources_pay.Goals as goal

pub returns-clause-nodes : goal.returns-clause-nodes
returns-clause-nodes c = nodes_add_up

pub returns-clause-strings : goal.returns-clause-strings
returns-clause-strings c = strings_are_few
