use Rattle.k_marks_laws.proofs.Adding.{reductions_combine}
use Rattle.k_marks_laws.proofs.laws.reduction.Goals as goal

pub returns : goal.returns
returns c = reductions_combine
