use Rattle.k_lex_groups.proofs.Ended.{open_goes_on, refused}
use Rattle.k_lex_groups.proofs.laws.refusals.Goals as goal

pub returns-clause-refused : goal.returns-clause-refused
returns-clause-refused c = refused

pub returns-clause-goes_on : goal.returns-clause-goes_on
returns-clause-goes_on c = open_goes_on
