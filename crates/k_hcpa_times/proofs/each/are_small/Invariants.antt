use Rattle.std.proofs.Common.{ℕ, ◌<◌, ◌^◌, get_or}
use Rattle.k_hcpa_times.proofs.each.are_small.Given as goal

-- the times so far are small
abbrev pub invariant-loop-level : goal.invariant-loop-level
invariant-loop-level l = (k : ℕ) → k < l.level → get_or l.times k 0 < 2 ^ 32
