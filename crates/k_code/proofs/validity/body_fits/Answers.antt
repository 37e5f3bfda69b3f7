use Rattle.k_code.proofs.Decided.{body_unfit, body_fits, jumps_within}
use Rattle.k_code.proofs.Marking.{extent_bounds, part_is_body}
use Rattle.k_code.proofs.validity.body_fits.Goals as goal

pub part-instrs-requires-clause-start : goal.part-instrs-requires-clause-start
part-instrs-requires-clause-start c = (extent_bounds c.args.code.now c.args.entry c.args.extent c.requires.extent c.requires.entry).0

pub part-instrs-requires-clause-end : goal.part-instrs-requires-clause-end
part-instrs-requires-clause-end c = rw c.as_slice.ensures ((extent_bounds c.args.code.now c.args.entry c.args.extent c.requires.extent c.requires.entry).1)

pub returns-then-not-all_in_range : goal.returns-then-not-all_in_range
returns-then-not-all_in_range c =
    body_unfit c.args.code.now c.args.entry c.part-instrs.result.now c.all_in_range.result
    (part_is_body c.args.code.now c.args.entry c.args.extent c.part-instrs.result.now c.requires.extent (rw c.as_slice.ensures at c.part-instrs.ensures))
    c.if-not-all_in_range.true c.all_in_range.ensures

pub is_balanced-requires-clause-within : goal.is_balanced-requires-clause-within
is_balanced-requires-clause-within c = jumps_within c.args.code.now c.args.entry c.part-instrs.result.now (c.all_in_range.ensures.0 c.if-not-all_in_range.false)

pub returns : goal.returns
returns c =
    body_fits c.args.code.now c.args.entry c.part-instrs.result.now c.all_in_range.result c.is_balanced.result
    (part_is_body c.args.code.now c.args.entry c.args.extent c.part-instrs.result.now c.requires.extent (rw c.as_slice.ensures at c.part-instrs.ensures))
    c.if-not-all_in_range.false c.all_in_range.ensures c.is_balanced.ensures
