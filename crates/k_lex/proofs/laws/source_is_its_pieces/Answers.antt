use Rattle.k_lex.proofs.PlainLaws.{source_is_its_pieces}
use Rattle.k_lex.proofs.laws.source_is_its_pieces.Goals as goal

pub returns : goal.returns
returns c = source_is_its_pieces
