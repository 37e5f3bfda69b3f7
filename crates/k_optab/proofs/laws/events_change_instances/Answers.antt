use Rattle.k_optab.proofs.Opening.{operations_keep, enters_open, idle_exits_keep}
use Rattle.k_optab.proofs.Leaving.{exits_close_the_last}
use Rattle.k_optab.proofs.laws.events_change_instances.Goals as goal

pub returns-clause-operation : goal.returns-clause-operation
returns-clause-operation c = operations_keep

pub returns-clause-enter : goal.returns-clause-enter
returns-clause-enter c = enters_open

pub returns-clause-exit : goal.returns-clause-exit
returns-clause-exit c = exits_close_the_last

pub returns-clause-idle : goal.returns-clause-idle
returns-clause-idle c = idle_exits_keep
