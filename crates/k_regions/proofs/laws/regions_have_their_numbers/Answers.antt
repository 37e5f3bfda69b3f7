use Rattle.k_regions.proofs.Functions.{functions_named}
use Rattle.k_regions.proofs.Numbers.{have_numbers, no_others}
use Rattle.k_regions.proofs.laws.regions_have_their_numbers.Goals as goal

pub returns-clause-each : goal.returns-clause-each
returns-clause-each c = have_numbers

pub returns-clause-all : goal.returns-clause-all
returns-clause-all c = no_others

pub returns-clause-names : goal.returns-clause-names
returns-clause-names c = functions_named
