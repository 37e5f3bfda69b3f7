use Rattle.std.proofs.Common.{ℕ, ◌≡◌, ◌+◌, ◌-◌, length}
use Rattle.k_advise_verdicts.specs.Placing.{gathered_at}
use Rattle.k_advise_verdicts.proofs.gathering.reach.Given as goal

abbrev pub invariant-loop-table : goal.invariant-loop-table
invariant-loop-table l = (r : ℕ) → gathered_at l.table.items r ≡ gathered_at l.fn.table.items r

abbrev pub decreases-loop-table : goal.decreases-loop-table
decreases-loop-table l = l.region + 1 - length l.table.items
