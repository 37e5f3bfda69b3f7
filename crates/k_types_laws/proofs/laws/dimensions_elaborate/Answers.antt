use Rattle.k_types_laws.proofs.SizesElaborate.{object_sizes_elaborate, parameter_sizes_elaborate}
use Rattle.k_types_laws.proofs.laws.dimensions_elaborate.Goals as goal

pub returns : goal.returns
returns c = record { object = object_sizes_elaborate; parameter = parameter_sizes_elaborate }
