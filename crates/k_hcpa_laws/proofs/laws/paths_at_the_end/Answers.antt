use Rattle.k_hcpa_laws.proofs.Ending.{ends_keep_paths, operations_raise_paths, refused_operations_keep_paths}
use Rattle.k_hcpa_laws.proofs.laws.paths_at_the_end.Goals as goal

pub returns-clause-made : goal.returns-clause-made
returns-clause-made c = operations_raise_paths

pub returns-clause-refused : goal.returns-clause-refused
returns-clause-refused c = refused_operations_keep_paths

pub returns-clause-ends : goal.returns-clause-ends
returns-clause-ends c = ends_keep_paths
