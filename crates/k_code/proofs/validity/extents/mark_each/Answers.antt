use Rattle.k_code.proofs.Marking.{marks_set, marked_done}
use Rattle.k_code.proofs.validity.extents.mark_each.Goals as goal

pub returns : goal.returns
returns c = marks_set c.args.funcs.now c.args.marks.now c.loop-func.marks (marked_done c.args.funcs.now c.loop-func.func-index c.loop-func.marks _ c.loop-func-test.false c.loop-func.invariant)
