use Rattle.k_lower_sizes.proofs.FunctionObjects.{all_open_few}
use Rattle.k_lower_sizes.proofs.Sources.{stay_small, take_their_cost}
use Rattle.k_lower_sizes.proofs.laws.functions_stay_small.Goals as goal

pub returns-clause-small : goal.returns-clause-small
returns-clause-small c = stay_small

pub returns-clause-opens : goal.returns-clause-opens
returns-clause-opens c = all_open_few

pub returns-clause-costs : goal.returns-clause-costs
returns-clause-costs c = take_their_cost
