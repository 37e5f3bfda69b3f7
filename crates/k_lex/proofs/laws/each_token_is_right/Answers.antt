use Rattle.k_lex.proofs.TokenLaws.{tokens_right}
use Rattle.k_lex.proofs.laws.each_token_is_right.Goals as goal

pub returns : goal.returns
returns c = tokens_right
