use Rattle.k_hcpa_laws.proofs.Saving.{enters_add_levels, exits_take_levels}
use Rattle.k_hcpa_laws.proofs.laws.instances_have_levels.Goals as goal

pub returns-clause-enter : goal.returns-clause-enter
returns-clause-enter c = enters_add_levels

pub returns-clause-exit : goal.returns-clause-exit
returns-clause-exit c = exits_take_levels
