use Rattle.k_world_laws.proofs.Results.{results_are_held}
use Rattle.k_world_laws.proofs.laws.results_are_held.Goals as goal

pub returns : goal.returns
returns c = results_are_held
