use Rattle.std.proofs.Common.{◌≡◌, ℕ, ◌<◌, get_or}
use Rattle.k_hcpa_times.proofs.each.zero_each.Given as goal

-- the times so far are 0
abbrev pub invariant-loop-time : goal.invariant-loop-time
invariant-loop-time l = (k : ℕ) → k < l.time-index → get_or l.times k 0 ≡ 0
