use Rattle.std.proofs.Common.{sym, ap, ◌∙◌}
use Rattle.k_hcpa_meaning.specs.Summing.{last_path}
use Rattle.k_hcpa_steps.proofs.Levels.{last_is}
use Rattle.k_hcpa_steps.proofs.instances.last_of.Goals as goal

pub returns-in-Some : goal.returns-in-Some
returns-in-Some c = sym (ap last_path c.in-Some.ensures.cases.0 ∙ last_is c.in-Some.field-0-1.now c.in-Some.path.now)
