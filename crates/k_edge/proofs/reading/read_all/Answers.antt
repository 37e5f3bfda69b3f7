use Rattle.std.proofs.Common.{ℕ, ◌+◌, ◌≡◌, ◌≢◌, ◌≤◌, length, arith, ◌++◌, take, rules, ◌∙◌}
use Rattle.std.proofs.lemmas.List.{length-append, length-take-le}
use Rattle.k_edge.proofs.Drawn.{draws_more, not_ended}
use Rattle.k_edge.proofs.reading.read_all.Goals as goal

-- one byte more than the limit was taken
pub returns-then-count-room-clause-reads : goal.returns-then-count-room-clause-reads
returns-then-count-room-clause-reads g c =
    let within : c.in-Ok.count ≤ length c.read.new.buf = search rules in
    let read = c.in-Ok.ensures in
    let drawn = draws_more _ _ _ _ _ _ _ c.pieces.invariant.drawn within read in
    let some : c.in-Ok.count ≢ 0 = λ none. omega (arith, none) in
    let total : length (c.pieces.bytes.items ++ take c.in-Ok.count c.read.new.buf) ≡ c.args.limit + 1 =
    omega (arith, read.fits, length-append {A = ℕ}, length-take-le {A = ℕ}) in
    ((_, drawn, total), read.faultless ∙ c.pieces.invariant.faultless, read.ended ∙ not_ended _ _ _ some ∙ c.pieces.invariant.running)

-- no memory was found for the piece
pub returns-then-is_err-clause-reads : goal.returns-then-is_err-clause-reads
returns-then-is_err-clause-reads g c =
    let within : c.in-Ok.count ≤ length c.read.new.buf = search rules in
    let read = c.in-Ok.ensures in
    let drawn = draws_more _ _ _ _ _ _ _ c.pieces.invariant.drawn within read in
    let some : c.in-Ok.count ≢ 0 = search rules in
    let total : length (c.pieces.bytes.items ++ take c.in-Ok.count c.read.new.buf) ≤ c.args.limit =
    omega (arith, length-append {A = ℕ}, length-take-le {A = ℕ}) in
    ((_, drawn, total), read.faultless ∙ c.pieces.invariant.faultless, read.ended ∙ not_ended _ _ _ some ∙ c.pieces.invariant.running)
