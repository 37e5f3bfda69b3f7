use Rattle.k_lex_expansion.proofs.Unique.{one}
use Rattle.k_lex_expansion.proofs.laws.expansions_are_one.Goals as goal

pub returns : goal.returns
returns c = one
