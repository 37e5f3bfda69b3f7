use Rattle.k_sum_read.proofs.AnyFiles.{no_file_of_both}
use Rattle.k_sum_read.proofs.laws.first_line_tells.Goals as goal

pub returns : goal.returns
returns c = no_file_of_both
