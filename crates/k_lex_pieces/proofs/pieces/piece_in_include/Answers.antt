use Rattle.std.proofs.Common.{sym, ap, ◌∙◌}
use Rattle.std.proofs.lemmas.List.{nil_from_length}
use Rattle.k_lex_pieces.specs.Pieces
use Rattle.k_lex_pieces.proofs.PieceLaws
use Rattle.k_lex_pieces.proofs.pieces.piece_in_include.Goals as goal

pub returns-in-None : goal.returns-in-None
returns-in-None c =
    let none = nil_from_length c.args.text.now c.in-None.ensures.cases in
    c.piece_at.ensures ∙ ap (Pieces.piece_by Pieces.class_of) none ∙ PieceLaws.include_end_is ∙ ap (Pieces.piece_by Pieces.class_in_include) (sym none)

pub returns-else-first-eq60 : goal.returns-else-first-eq60
returns-else-first-eq60 c =
    let more = c.in-Some.ensures.cases.0 in
    c.piece_at-else-first-eq60.ensures ∙ ap (Pieces.piece_by Pieces.class_of) more
    ∙ PieceLaws.include_other_is c.in-Some.first.now c.in-Some.rest.now (PieceLaws.test_fails _ _ c.if-first-eq60.false)
    ∙ ap (Pieces.piece_by Pieces.class_in_include) (sym more)
