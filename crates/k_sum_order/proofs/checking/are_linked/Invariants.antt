use Rattle.std.proofs.Common.{◌↔◌, length}
use Rattle.k_sum_order.specs.Placing.{AreLinked}
use Rattle.k_sum_order.proofs.checking.are_linked.Given as goal

abbrev pub invariant-loop-entry : goal.invariant-loop-entry
invariant-loop-entry l = AreLinked l.rest ↔ AreLinked l.entries

abbrev pub decreases-loop-entry : goal.decreases-loop-entry
decreases-loop-entry l = length l.rest
