use Rattle.std.proofs.Common.{◌≡◌, ◌+◌, take, sym, ap, ◌∙◌}
use Rattle.k_lex_pieces.proofs.PieceLaws
use Rattle.k_lex_pieces.proofs.pieces.character_piece.Goals as goal
use Rattle.k_lex_pieces.specs.Pieces

pub returns-in-None : goal.returns-in-None
returns-in-None c = PieceLaws.character_open c.args.rest.now (λ n e. absurd (cc c.in-None.ensures.found))

pub returns-then-item_length-count : goal.returns-then-item_length-count
returns-then-item_length-count c =
    PieceLaws.character_is c.args.rest.now c.in-Some.count (sym c.in-Some.ensures.found) (ap (λ k. k + 1) (sym c.item_length.ensures.found) ∙ c.if-item_length-count.true)

pub returns-else-item_length-count : goal.returns-else-item_length-count
returns-else-item_length-count c = PieceLaws.character_open c.args.rest.now (λ n e q.
    let same_end : n ≡ c.in-Some.count = cc (e, c.in-Some.ensures.found) in
    c.if-item_length-count.false (ap (λ k. k + 1) c.item_length.ensures.found ∙ ap (λ j. Pieces.item_length (take j c.args.rest.now) + 1) (sym same_end) ∙ q ∙ same_end))
