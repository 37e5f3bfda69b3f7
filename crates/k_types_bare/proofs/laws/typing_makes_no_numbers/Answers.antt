use Rattle.k_types_bare.proofs.Units.{tree_bare}
use Rattle.k_types_bare.proofs.laws.typing_makes_no_numbers.Goals as goal

pub returns : goal.returns
returns c = tree_bare
