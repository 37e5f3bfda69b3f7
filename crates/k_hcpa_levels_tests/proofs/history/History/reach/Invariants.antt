use Rattle.std.proofs.Common.{length}
use Rattle.k_hcpa_levels_tests.proofs.history.History.reach.Given as goal

abbrev pub decreases-loop-event : goal.decreases-loop-event
decreases-loop-event g l = length l.rest
