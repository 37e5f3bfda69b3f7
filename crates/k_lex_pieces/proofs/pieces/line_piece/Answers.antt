use Rattle.k_lex_pieces.proofs.PieceLaws
use Rattle.k_lex_pieces.proofs.pieces.line_piece.Goals as goal

pub returns-clause-anywhere : goal.returns-clause-anywhere
returns-clause-anywhere c = PieceLaws.line_is c.args.rest.now c.span.result c.span.ensures.found

pub returns-clause-pragma : goal.returns-clause-pragma
returns-clause-pragma c = PieceLaws.pragma_line_is c.args.rest.now c.span.result c.span.ensures.found
