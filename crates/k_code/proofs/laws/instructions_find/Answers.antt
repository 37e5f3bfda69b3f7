use Rattle.k_code.proofs.Finding.{instructions_find}
use Rattle.k_code.proofs.laws.instructions_find.Goals as goal

pub returns : goal.returns
returns c = instructions_find
