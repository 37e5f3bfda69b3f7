use Rattle.std.proofs.Common.{sym}
use Rattle.k_lex_pieces.proofs.PieceLaws
use Rattle.k_lex_pieces.proofs.pieces.comment_piece.Goals as goal

pub returns-in-None-clause-anywhere : goal.returns-in-None-clause-anywhere
returns-in-None-clause-anywhere c = PieceLaws.comment_open c.args.rest.now (sym c.in-None.ensures.found)

pub returns-in-None-clause-pragma : goal.returns-in-None-clause-pragma
returns-in-None-clause-pragma c = PieceLaws.pragma_comment_open c.args.rest.now (sym c.in-None.ensures.found)

pub returns-in-Some-clause-anywhere : goal.returns-in-Some-clause-anywhere
returns-in-Some-clause-anywhere c = PieceLaws.comment_is c.args.rest.now c.in-Some.count (sym c.in-Some.ensures.found)

pub returns-in-Some-clause-pragma : goal.returns-in-Some-clause-pragma
returns-in-Some-clause-pragma c = PieceLaws.pragma_comment_is c.args.rest.now c.in-Some.count (sym c.in-Some.ensures.found)
