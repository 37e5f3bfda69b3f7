use Rattle.std.proofs.Common.{◌∷◌, sym, ap, ◌∙◌, arith}
use Rattle.k_lex_pieces.specs.Pieces
use Rattle.k_lex_pieces.specs.Scans.{mark_at}
use Rattle.k_lex_pieces.proofs.PieceLaws
use Rattle.k_lex_pieces.proofs.pieces.piece_from.Goals as goal

pub returns-then-is_blank : goal.returns-then-is_blank
returns-then-is_blank c = PieceLaws.blank_is c.args.first c.args.rest.now (omega arith) (sym c.is_blank.ensures ∙ c.if-is_blank.true)

pub returns-then-first-eq10 : goal.returns-then-first-eq10
returns-then-first-eq10 c =
    PieceLaws.newline_is c.args.rest.now ∙ ap (λ b. Pieces.piece_by Pieces.class_of (b ∷ c.args.rest.now)) (sym c.if-first-eq10.true)

pub returns-else-first-eq10 : goal.returns-else-first-eq10
returns-else-first-eq10 c = c.mark_at.ensures ∙ ap mark_at c.requires
    ∙ PieceLaws.other_is c.args.first c.args.rest.now (sym c.is_letter.ensures ∙ c.if-is_letter.false) (sym c.begins_number.ensures ∙ c.if-begins_number.false)
    (PieceLaws.test_fails _ _ c.if-first-eq39.false) (PieceLaws.test_fails _ _ c.if-first-eq34.false) (PieceLaws.test_fails _ _ c.if-first-eq47.false)
    (sym c.is_blank.ensures ∙ c.if-is_blank.false) (PieceLaws.test_fails _ _ c.if-first-eq10.false)
