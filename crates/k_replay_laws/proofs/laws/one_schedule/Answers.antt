use Rattle.k_replay_laws.proofs.One.{one_schedule, one_text}
use Rattle.k_replay_laws.proofs.laws.one_schedule.Goals as goal

pub returns-clause-schedule : goal.returns-clause-schedule
returns-clause-schedule c = one_schedule

pub returns-clause-text : goal.returns-clause-text
returns-clause-text c = one_text
