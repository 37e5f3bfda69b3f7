use Rattle.std.proofs.Common.{sym, ap, ◌∙◌}
use Rattle.std.proofs.lemmas.List.{nil_from_length}
use Rattle.k_lex_pieces.specs.Pieces
use Rattle.k_lex_pieces.proofs.PieceLaws
use Rattle.k_lex_pieces.proofs.pieces.piece_at.Goals as goal

pub returns-in-None : goal.returns-in-None
returns-in-None c = PieceLaws.end_is ∙ ap (Pieces.piece_by Pieces.class_of) (sym (nil_from_length c.args.text.now c.in-None.ensures.cases))
