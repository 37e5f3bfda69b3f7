use Rattle.k_top_exists.proofs.Heaviest.{chosen_exists}
use Rattle.k_top_exists.proofs.laws.heaviest_paths_exist.Goals as goal

pub returns : goal.returns
returns c = chosen_exists
