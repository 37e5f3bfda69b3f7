-- The lines of some sources, computed.
use Rattle.std.proofs.Common.{refl}
use Rattle.k_lex_pieces.specs.Pieces.{piece_by}
use Rattle.k_lex_sources.specs.Laws.{JoinedStringIsOne, ReadPragmasHaveNoQuotes, TrigraphsJoinNoLines}

pub joined_string_is_one : JoinedStringIsOne
unfolding piece_by
joined_string_is_one = refl

pub read_pragmas_have_no_quotes : ReadPragmasHaveNoQuotes
unfolding piece_by
read_pragmas_have_no_quotes = (refl, refl)

pub trigraphs_join_no_lines : TrigraphsJoinNoLines
unfolding piece_by
trigraphs_join_no_lines = refl
