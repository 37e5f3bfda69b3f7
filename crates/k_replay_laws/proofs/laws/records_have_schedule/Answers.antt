use Rattle.k_replay_laws.proofs.Seen.{records_have_schedule}
use Rattle.k_replay_laws.proofs.laws.records_have_schedule.Goals as goal

pub returns : goal.returns
returns c = records_have_schedule
