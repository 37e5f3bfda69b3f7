use Rattle.k_hcpa_summed.proofs.Leaving.{exits_summed}
use Rattle.k_hcpa_summed.proofs.Summaries.{entries_summed, nothing_summed, operations_summed}
use Rattle.k_hcpa_summed.proofs.laws.summaries_follow_events.Goals as goal

pub returns-clause-start : goal.returns-clause-start
returns-clause-start c = nothing_summed

pub returns-clause-operation : goal.returns-clause-operation
returns-clause-operation c = operations_summed

pub returns-clause-enter : goal.returns-clause-enter
returns-clause-enter c = entries_summed

pub returns-clause-exit : goal.returns-clause-exit
returns-clause-exit c = exits_summed
