use Rattle.k_optab.proofs.Heaviest.{greatest_of_sources, time_from_sources}
use Rattle.k_optab.proofs.laws.time_from_sources.Goals as goal

pub returns-clause-time : goal.returns-clause-time
returns-clause-time c = time_from_sources

pub returns-clause-greatest : goal.returns-clause-greatest
returns-clause-greatest c = greatest_of_sources
