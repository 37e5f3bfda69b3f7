use Rattle.k_lower_valid.proofs.Programs.{flattened_is_valid}
use Rattle.k_lower_valid.proofs.laws.lowered_code_is_valid.Goals as goal

pub returns : goal.returns
returns c = flattened_is_valid
