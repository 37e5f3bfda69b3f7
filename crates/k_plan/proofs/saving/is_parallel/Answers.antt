use Rattle.std.proofs.lemmas.Bool.{leb-true, le-leb}
use Rattle.std.proofs.lemmas.Bool.Decides.{same_from_decides}
use Rattle.k_plan.proofs.saving.is_parallel.Goals as goal

pub returns : goal.returns
returns c = same_from_decides _ _ (c.at_least.ensures.0, c.at_least.ensures.1) (leb-true _ _, le-leb _ _)
