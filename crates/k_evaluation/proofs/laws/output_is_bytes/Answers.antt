use Rattle.k_evaluation.proofs.CleanRuns.{written_bytes}
use Rattle.k_evaluation.proofs.laws.output_is_bytes.Goals as goal

pub returns : goal.returns
returns c = written_bytes
