use Rattle.k_replay_laws.proofs.Made.{schedules_exist, texts_exist}
use Rattle.k_replay_laws.proofs.laws.schedules_exist.Goals as goal

pub returns-clause-schedule : goal.returns-clause-schedule
returns-clause-schedule c = schedules_exist

pub returns-clause-text : goal.returns-clause-text
returns-clause-text c = texts_exist
