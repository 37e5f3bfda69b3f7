use Rattle.std.proofs.Common.{◌∷◌, sym, ap, ◌∙◌}
use Rattle.std.proofs.lemmas.List.{nil_from_length}
use Rattle.k_lex_pieces.specs.Pieces
use Rattle.k_lex_pieces.proofs.PieceLaws
use Rattle.k_lex_pieces.proofs.pieces.piece_in_pragma.Goals as goal

pub returns-in-None : goal.returns-in-None
returns-in-None c = PieceLaws.pragma_end_is ∙ ap (Pieces.piece_by Pieces.class_in_pragma) (sym (nil_from_length c.args.text.now c.in-None.ensures.cases))

pub returns-then-first-eq10 : goal.returns-then-first-eq10
returns-then-first-eq10 c =
    PieceLaws.pragma_newline_is c.in-Some.rest.now
    ∙ ap (Pieces.piece_by Pieces.class_in_pragma) (ap (λ b. b ∷ c.in-Some.rest.now) (sym c.if-first-eq10.true) ∙ sym c.in-Some.ensures.cases.0)

pub returns-else-first-eq10 : goal.returns-else-first-eq10
returns-else-first-eq10 c =
    PieceLaws.pragma_other_is c.in-Some.first.now c.in-Some.rest.now (PieceLaws.test_fails _ _ c.if-first-eq47.false) (PieceLaws.test_fails _ _ c.if-first-eq10.false)
    ∙ ap (Pieces.piece_by Pieces.class_in_pragma) (sym c.in-Some.ensures.cases.0)
