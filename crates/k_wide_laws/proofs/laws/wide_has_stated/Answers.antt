use Rattle.k_wide_laws.proofs.Stated.{wide_has_stated}
use Rattle.k_wide_laws.proofs.laws.wide_has_stated.Goals as goal

pub returns : goal.returns
returns c = wide_has_stated
