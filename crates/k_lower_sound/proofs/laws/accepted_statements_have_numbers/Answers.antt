use Rattle.k_lower_sound.proofs.Apart.{statements_have_numbers}
use Rattle.k_lower_sound.proofs.laws.accepted_statements_have_numbers.Goals as goal

pub returns : goal.returns
returns c = statements_have_numbers
