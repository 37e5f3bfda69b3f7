use Rattle.k_regions.proofs.Few.{are_few}
use Rattle.k_regions.proofs.Origins.{come_of_tokens}
use Rattle.k_regions.proofs.laws.regions_come_of_tokens.Goals as goal

pub returns-clause-few : goal.returns-clause-few
returns-clause-few c = are_few

pub returns-clause-tokens : goal.returns-clause-tokens
returns-clause-tokens c = come_of_tokens
