use Rattle.k_lex.proofs.TextLaws.{tokens_come_of_text}
use Rattle.k_lex.proofs.laws.tokens_come_of_text.Goals as goal

pub returns : goal.returns
returns c = tokens_come_of_text
