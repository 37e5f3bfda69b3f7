use Rattle.std.proofs.Common.{◌∷◌, sym, ap, ◌∙◌}
use Rattle.std.proofs.lemmas.List.{nil_from_length}
use Rattle.k_lex_pieces.specs.Pieces
use Rattle.k_lex_pieces.proofs.PieceLaws
use Rattle.k_lex_pieces.proofs.pieces.pragma_slash.Goals as goal

pub returns-in-None : goal.returns-in-None
returns-in-None c =
    PieceLaws.pragma_slash_alone_is ∙ ap (λ t. Pieces.piece_by Pieces.class_in_pragma (47 ∷ t)) (sym (nil_from_length c.args.rest.now c.in-None.ensures.cases))

pub returns-else-next-eq47 : goal.returns-else-next-eq47
returns-else-next-eq47 c =
    PieceLaws.pragma_slash_is c.in-Some.next.now c.in-Some.behind.now (PieceLaws.test_fails _ _ c.if-next-eq42.false) (PieceLaws.test_fails _ _ c.if-next-eq47.false)
    ∙ ap (λ t. Pieces.piece_by Pieces.class_in_pragma (47 ∷ t)) (sym c.in-Some.ensures.cases.0)
