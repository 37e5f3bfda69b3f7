use Rattle.k_mem.proofs.LaidOut.{nothing_is_laid_out, stays_laid_out}
use Rattle.k_mem.proofs.laws.layout.Goals as goal

pub returns : goal.returns
returns c = record {
  start = nothing_is_laid_out;
  calls = stays_laid_out;
}
