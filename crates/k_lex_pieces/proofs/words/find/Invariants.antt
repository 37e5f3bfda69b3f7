use Rattle.std.proofs.Common.{◌≡◌, drop, map}
use Rattle.k_lex_pieces.specs.Bytes.{look_up}
use Rattle.k_lex_pieces.specs.Words.{row}
use Rattle.k_lex_pieces.proofs.words.find.Given as goal

abbrev pub invariant-loop-row : goal.invariant-loop-row
invariant-loop-row l = look_up (map row (drop l.row-index l.rows)) l.spelling ≡ look_up (map row l.rows) l.spelling
