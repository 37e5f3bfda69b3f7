use Rattle.k_code.proofs.Marking.{marks_long, next_bounds, extent_found}
use Rattle.k_code.proofs.validity.extents.extent_from.Goals as goal

pub next_mark-end-requires : goal.next_mark-end-requires
next_mark-end-requires c = marks_long c.args.code.now c.args.marks.now c.requires.marks c.args.entry c.requires.entry

pub part-requires-clause-start : goal.part-requires-clause-start
part-requires-clause-start c = (next_bounds c.args.code.now c.args.marks.now c.args.entry c.next_mark-end.result c.requires.marks c.next_mark-end.ensures).0

pub part-requires-clause-end : goal.part-requires-clause-end
part-requires-clause-end c =
    rw c.as_slice.ensures ((next_bounds c.args.code.now c.args.marks.now c.args.entry c.next_mark-end.result c.requires.marks c.next_mark-end.ensures).1)

pub returns : goal.returns
returns c =
    extent_found c.args.code.now c.args.marks.now c.args.entry c.next_mark-end.result c.all_needed-registers.result c.part.result.now c.requires.marks c.requires.entry
    c.next_mark-end.ensures c.all_needed-registers.ensures (rw c.as_slice.ensures at c.part.ensures)
