use Rattle.std.proofs.Common.{sym}
use Rattle.k_lex_pieces.proofs.PieceLaws
use Rattle.k_lex_pieces.proofs.pieces.string_piece.Goals as goal

pub returns-in-None : goal.returns-in-None
returns-in-None c = PieceLaws.string_open c.args.rest.now (sym c.in-None.ensures.found)

pub returns-in-Some : goal.returns-in-Some
returns-in-Some c = PieceLaws.string_is c.args.rest.now c.in-Some.count (sym c.in-Some.ensures.found)
