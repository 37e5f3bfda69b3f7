use Rattle.std.proofs.Common.{◌∙◌, sym}
use Rattle.k_lower_blocks.proofs.Places.{block_is, block_stands, place_is}
use Rattle.k_lower_blocks.proofs.place.+places.Goals as goal

pub block_place-returns-in-Some : goal.block_place-returns-in-Some
block_place-returns-in-Some t c = λ w.
    block_stands w c.args.place c.place_of.result c.in-Some.first.now c.in-Some.field-0-1.now c.args.parts.now
    (sym c.as_slice.ensures ∙ c.in-Some.ensures.cases.0) (c.place_of.ensures w)

pub place_in-returns-in-Block : goal.place_in-returns-in-Block
place_in-returns-in-Block t c = λ w.
    block_is w c.block_place.result c.in-Block.spot c.in-Block.parts c.args.stmt.now c.in-Block.is (c.block_place.ensures w)

pub place_of-returns : goal.place_of-returns
place_of-returns t c = λ w. c.place_in.ensures w ∙ sym (place_is w c.args.stmt.now)
