use Rattle.k_dict_saved.proofs.Profiles as profiles
use Rattle.k_dict_saved.proofs.laws.read_of_write.Goals as goal

pub returns : goal.returns
returns c = record { same = profiles.read_of_write; one = profiles.one_saved }
