use Rattle.std.proofs.Common.{◌≡◌, ℕ, ◌<◌, Some, false}
use Rattle.std.specs.Prelude.{slice_get}
use Rattle.k_code.proofs.validity.extents.next_mark.Given as goal

abbrev pub invariant-loop-next : goal.invariant-loop-next
invariant-loop-next l = (k : ℕ) → l.first < k → k < l.next → slice_get l.marks k ≡ Some false
