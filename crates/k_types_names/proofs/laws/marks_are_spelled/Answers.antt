use Rattle.k_types_names.proofs.Marks.{complete}
use Rattle.k_types_names.proofs.Spelled.{spelled}
use Rattle.k_types_names.proofs.laws.marks_are_spelled.Goals as goal

pub returns : goal.returns
returns c = λ text marks. (complete text marks, spelled text marks)
