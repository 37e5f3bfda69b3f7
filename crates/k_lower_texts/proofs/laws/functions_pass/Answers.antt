use Rattle.k_lower_texts.proofs.Sources.{functions_pass}
use Rattle.k_lower_texts.proofs.laws.functions_pass.Goals as goal

pub returns : goal.returns
returns c = functions_pass
