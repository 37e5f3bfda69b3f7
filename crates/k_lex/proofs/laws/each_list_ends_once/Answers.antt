use Rattle.k_lex.proofs.TokenLaws.{ends_once}
use Rattle.k_lex.proofs.laws.each_list_ends_once.Goals as goal

pub returns : goal.returns
returns c = ends_once
