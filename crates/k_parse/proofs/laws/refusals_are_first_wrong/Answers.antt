use Rattle.k_parse.proofs.FirstWrong.{first_wrong}
use Rattle.k_parse.proofs.laws.refusals_are_first_wrong.Goals as goal

pub returns : goal.returns
returns c = first_wrong
