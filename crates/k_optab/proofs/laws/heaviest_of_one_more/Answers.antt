use Rattle.k_optab.proofs.Heaviest.{heaviest_of_one_more}
use Rattle.k_optab.proofs.laws.heaviest_of_one_more.Goals as goal

pub returns : goal.returns
returns c = heaviest_of_one_more
