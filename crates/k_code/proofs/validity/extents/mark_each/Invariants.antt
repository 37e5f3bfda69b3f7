use Rattle.std.proofs.Common.{◌≡◌, drop}
use Rattle.k_code.proofs.Marking.{marked}
use Rattle.k_code.proofs.validity.extents.mark_each.Given as goal

abbrev pub invariant-loop-func : goal.invariant-loop-func
invariant-loop-func l = marked (drop l.func-index l.funcs) l.marks ≡ marked l.funcs l.fn.marks
