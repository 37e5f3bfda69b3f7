use Rattle.k_code.proofs.Marking.{are_marks}
use Rattle.k_code.proofs.validity.extents.marks.Goals as goal

pub returns : goal.returns
returns c = are_marks c.args.code.now c.len.result c.in_ok-marks.marks.items c.mark_all.new.marks.items c.len.ensures c.in_ok-marks.ensures (rw c.as_slice.ensures at c.mark_all.ensures)
