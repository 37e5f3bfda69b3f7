use Rattle.k_evaluation.proofs.Runs.{kept_budget, bounded_time}
use Rattle.k_evaluation.proofs.laws.work_is_bounded.Goals as goal

pub returns-clause-operations : goal.returns-clause-operations
returns-clause-operations c = kept_budget

pub returns-clause-work : goal.returns-clause-work
returns-clause-work c = bounded_time
