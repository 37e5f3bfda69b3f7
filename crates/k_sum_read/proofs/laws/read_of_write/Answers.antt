use Rattle.k_sum_read.proofs.Whole as whole
use Rattle.k_sum_read.proofs.laws.read_of_write.Goals as goal

pub returns : goal.returns
returns c = record { same = whole.read_of_write; one = whole.file_of_one }
