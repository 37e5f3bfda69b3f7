use Rattle.std.proofs.Common.{◌-◌, length}
use Rattle.k_sum_read.proofs.ExitSteps.{AtExits}
use Rattle.k_sum_read.proofs.exit_lines.exits.Given as goal

abbrev pub invariant-lines : goal.invariant-lines
invariant-lines l = AtExits l.runs l.count l.text l.rest l.exits l.total

abbrev pub decreases-lines : goal.decreases-lines
decreases-lines l = l.count - length l.exits
