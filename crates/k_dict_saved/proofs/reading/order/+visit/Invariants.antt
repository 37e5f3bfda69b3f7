use Rattle.std.proofs.Common.{length}
use Rattle.k_dict_saved.proofs.Visiting.{Visiting}
use Rattle.k_dict_saved.proofs.reading.order.+visit.Given as goal

abbrev pub decreases-visit : goal.decreases-visit
decreases-visit l = l.number

abbrev pub invariant-loop-run : goal.invariant-loop-run
invariant-loop-run l = Visiting l.entries l.number l.before l.count l.rest

abbrev pub decreases-loop-run : goal.decreases-loop-run
decreases-loop-run l = length l.rest
