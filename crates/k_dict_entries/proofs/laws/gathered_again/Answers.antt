use Rattle.k_dict_entries.proofs.Again as again
use Rattle.k_dict_entries.proofs.laws.gathered_again.Goals as goal

pub returns : goal.returns
returns c = again.gathered_again
