use Rattle.std.proofs.Common.{◌≡◌, ℕ, ◌<◌, ◌≤◌, max, get_or}
use Rattle.k_hcpa_times.proofs.each.raise_each.Given as goal

-- the times so far were raised, and the others are as before
abbrev pub invariant-loop-level : goal.invariant-loop-level
invariant-loop-level l = record {
  raised : (k : ℕ) → k < l.level → get_or l.times k 0 ≡ max (get_or l.initial.times k 0) (get_or l.by k 0);
  rest : (k : ℕ) → l.level ≤ k → get_or l.times k 0 ≡ get_or l.initial.times k 0;
}
