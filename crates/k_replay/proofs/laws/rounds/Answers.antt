use Rattle.k_replay.proofs.Calling.{rounds_give_the_serial_run}
use Rattle.k_replay.proofs.laws.rounds.Goals as goal

pub returns : goal.returns
returns c = rounds_give_the_serial_run
