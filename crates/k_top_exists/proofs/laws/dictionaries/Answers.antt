use Rattle.k_top_exists.proofs.Dictionaries.{dictionaries_exist}
use Rattle.k_top_exists.proofs.laws.dictionaries.Goals as goal

pub returns : goal.returns
returns c = dictionaries_exist
