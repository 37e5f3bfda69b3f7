use Rattle.k_dict_saved.proofs.Made.{one_text}
use Rattle.k_dict_saved.proofs.laws.text_of_one.Goals as goal

pub returns : goal.returns
returns c = one_text
