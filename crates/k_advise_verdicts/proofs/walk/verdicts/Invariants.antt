use Rattle.std.proofs.Common.{length}
use Rattle.k_advise_verdicts.proofs.Telling.{Told}
use Rattle.k_advise_verdicts.proofs.walk.verdicts.Given as goal

abbrev pub invariant-loop-row : goal.invariant-loop-row
invariant-loop-row l = Told l.start l.fn.facts l.fn.standings l.fn.carried l.fn.shared l.fn.rows l.facts l.carried l.shared l.rest l.found

abbrev pub decreases-loop-row : goal.decreases-loop-row
decreases-loop-row l = length l.rest
