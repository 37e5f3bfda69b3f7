use Rattle.k_top_exists.proofs.SavedFiles.{saved_file_is_answered}
use Rattle.k_top_exists.proofs.SumFiles.{file_of_three_is_answered, other_file_is_refused}
use Rattle.k_top_exists.proofs.laws.saved_files.Goals as goal

pub returns-clause-profile : goal.returns-clause-profile
returns-clause-profile c = saved_file_is_answered

pub returns-clause-sum : goal.returns-clause-sum
returns-clause-sum c = file_of_three_is_answered

pub returns-clause-other : goal.returns-clause-other
returns-clause-other c = other_file_is_refused
