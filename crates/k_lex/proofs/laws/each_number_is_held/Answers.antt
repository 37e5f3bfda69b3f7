use Rattle.k_lex.proofs.TokenLaws.{numbers_held}
use Rattle.k_lex.proofs.laws.each_number_is_held.Goals as goal

pub returns : goal.returns
returns c = numbers_held
