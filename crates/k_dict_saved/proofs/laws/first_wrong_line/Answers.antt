use Rattle.k_dict_saved.proofs.Files.{first_wrong_is_one}
use Rattle.k_dict_saved.proofs.Made.{no_file_wrong}
use Rattle.k_dict_saved.proofs.laws.first_wrong_line.Goals as goal

pub returns : goal.returns
returns c = record { one = first_wrong_is_one; none = no_file_wrong }
