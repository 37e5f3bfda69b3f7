use Rattle.std.proofs.Common.{ℕ, ◌≤◌, ◌⊎◌, length}
use Rattle.k_carry_pairs.specs.Carried.{IsAmong}
use Rattle.k_carry_storage_pairs.proofs.firsts.highest.Given as goal

-- each start is among the rest, or no higher
abbrev pub invariant-loop-start : goal.invariant-loop-start
invariant-loop-start l = (start : ℕ) → IsAmong start l.fn.starts → (start ≤ l.high) ⊎ IsAmong start l.rest

abbrev pub decreases-loop-start : goal.decreases-loop-start
decreases-loop-start l = length l.rest
