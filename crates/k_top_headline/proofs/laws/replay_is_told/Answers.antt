use Rattle.k_top_headline.proofs.Replayed.{replay_is_told}
use Rattle.k_top_headline.proofs.laws.replay_is_told.Goals as goal

pub returns : goal.returns
returns c = replay_is_told
