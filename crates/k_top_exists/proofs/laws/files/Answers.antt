use Rattle.k_top_exists.proofs.SavedLines.{file_or_wrong}
use Rattle.k_top_exists.proofs.laws.files.Goals as goal

pub returns : goal.returns
returns c = file_or_wrong
