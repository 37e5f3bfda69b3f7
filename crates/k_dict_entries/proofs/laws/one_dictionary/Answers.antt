use Rattle.k_dict_entries.proofs.Unique.{dictionary_exists, dictionary_is_unique}
use Rattle.k_dict_entries.proofs.laws.one_dictionary.Goals as goal

pub returns : goal.returns
returns c = record { exists = dictionary_exists; unique = dictionary_is_unique }
