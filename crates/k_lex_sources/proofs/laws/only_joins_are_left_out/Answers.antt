use Rattle.k_lex_sources.proofs.JoinLaws.{only_joins}
use Rattle.k_lex_sources.proofs.laws.only_joins_are_left_out.Goals as goal

pub returns : goal.returns
returns c = only_joins
