use Rattle.std.proofs.Common.{arith}
use Rattle.k_lex_pieces.proofs.PieceLaws
use Rattle.k_lex_pieces.proofs.pieces.name_piece.Goals as goal

pub returns : goal.returns
returns c = PieceLaws.name_is c.args.first c.args.rest.now c.span.result (omega arith) c.requires c.span.ensures.found
