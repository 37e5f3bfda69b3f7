use Rattle.std.proofs.Common.{◌≡◌, ℕ, ◌<◌, get_or}
use Rattle.k_shadow.specs.Rows.{seen, row_time}
use Rattle.k_shadow.proofs.row.Row.copy_to.Given as goal

-- the times so far are the row's
abbrev pub invariant-loop-level : goal.invariant-loop-level
invariant-loop-level g l = (k : ℕ) → k < l.level → get_or l.to k 0 ≡ row_time (seen l.self) (get_or l.numbers k 0) k
