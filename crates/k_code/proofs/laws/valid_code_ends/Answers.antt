use Rattle.k_code.proofs.Ending.{cycles_make_operations, valid_code_ends}
use Rattle.k_code.proofs.Stepping.{ends_once, one_outcome}
use Rattle.k_code.proofs.laws.valid_code_ends.Goals as goal

pub returns : goal.returns
returns c = record { cycles = cycles_make_operations; ends = valid_code_ends; once = ends_once; one = one_outcome }
