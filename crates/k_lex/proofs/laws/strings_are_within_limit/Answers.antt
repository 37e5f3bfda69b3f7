use Rattle.k_lex.proofs.TokenLaws.{strings_fit}
use Rattle.k_lex.proofs.laws.strings_are_within_limit.Goals as goal

pub returns : goal.returns
returns c = strings_fit
