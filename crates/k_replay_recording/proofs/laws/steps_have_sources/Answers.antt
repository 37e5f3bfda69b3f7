use Rattle.k_replay_recording.proofs.Sourced.{steps_have_sources}
use Rattle.k_replay_recording.proofs.laws.steps_have_sources.Goals as goal

pub returns : goal.returns
returns c = steps_have_sources
