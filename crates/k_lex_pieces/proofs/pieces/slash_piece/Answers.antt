use Rattle.std.proofs.Common.{◌≡◌, [], ◌∷◌, sym, ap, ◌∙◌}
use Rattle.std.proofs.lemmas.List.{nil_from_length}
use Rattle.k_lex_pieces.specs.Pieces
use Rattle.k_lex_pieces.specs.Scans.{mark_at}
use Rattle.k_lex_pieces.proofs.PieceLaws
use Rattle.k_lex_pieces.proofs.pieces.slash_piece.Goals as goal

pub returns-in-None : goal.returns-in-None
returns-in-None c =
    let none : c.args.rest.now ≡ [] = nil_from_length c.args.rest.now c.in-None.ensures.cases in
    c.mark_at.ensures ∙ ap mark_at (c.requires ∙ ap (λ t. 47 ∷ t) none) ∙ PieceLaws.slash_alone_is
    ∙ ap (λ t. Pieces.piece_by Pieces.class_of (47 ∷ t)) (sym none)

pub returns-else-next-eq47 : goal.returns-else-next-eq47
returns-else-next-eq47 c =
    let more : c.args.rest.now ≡ c.in-Some.next.now ∷ c.in-Some.behind.now = c.in-Some.ensures.cases.0 in
    c.mark_at-else-next-eq47.ensures ∙ ap mark_at (c.requires ∙ ap (λ t. 47 ∷ t) more)
    ∙ PieceLaws.slash_is c.in-Some.next.now c.in-Some.behind.now (PieceLaws.test_fails _ _ c.if-next-eq42.false) (PieceLaws.test_fails _ _ c.if-next-eq47.false)
    ∙ ap (λ t. Pieces.piece_by Pieces.class_of (47 ∷ t)) (sym more)
