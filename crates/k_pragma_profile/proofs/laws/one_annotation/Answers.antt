use Rattle.k_pragma_profile.proofs.Annotations.{run_annotation_is_unique}
use Rattle.k_pragma_profile.proofs.laws.one_annotation.Goals as goal

pub returns : goal.returns
returns c = run_annotation_is_unique
