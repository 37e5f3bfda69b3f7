use Rattle.k_marks_laws.proofs.Closed.{reductions_combine_in_sources}
use Rattle.k_marks_laws.proofs.laws.reduction_of_sources.Goals as goal

pub returns : goal.returns
returns c = reductions_combine_in_sources
