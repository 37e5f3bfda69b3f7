use Rattle.std.proofs.Common.{arith}
use Rattle.k_lex_pieces.proofs.PieceLaws
use Rattle.k_lex_pieces.proofs.pieces.number_piece.Goals as goal

pub returns : goal.returns
returns c = PieceLaws.number_is c.args.first c.args.rest.now c.number_span.result (omega arith) c.requires c.number_span.ensures.found
