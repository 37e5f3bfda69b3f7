use Rattle.k_code.specs.Decides.{AreExtentsOf}
use Rattle.k_code.proofs.validity.extents.extents.Given as goal

abbrev pub invariant-loop-entry : goal.invariant-loop-entry
invariant-loop-entry l = AreExtentsOf l.code l.entry l.list.items
