use Rattle.k_gen_laws.proofs.Made.{made_programs_are_sources}
use Rattle.k_gen_laws.proofs.laws.made_programs_are_sources.Goals as goal

pub returns : goal.returns
returns c = made_programs_are_sources
