use Rattle.k_dict_entries.proofs.Unique as unique
use Rattle.k_dict_entries.proofs.laws.dictionary_expands.Goals as goal

pub returns : goal.returns
returns c = unique.dictionary_expands
