use Rattle.std.proofs.Common.{◌≡◌, ℕ, ◌+◌, ◌%◌, ◌^◌, ◌<◌, ◌≤◌, get_or, max}
use Rattle.k_shadow.proofs.lists.advance.Given as goal

-- the times so far are later and the paths so far were raised, and the others are as before
abbrev pub invariant-loop-level : goal.invariant-loop-level
invariant-loop-level l = record {
  later : (k : ℕ) → k < l.level → get_or l.times k 0 ≡ (get_or l.initial.times k 0 + l.latency) % 2 ^ 64;
  raised : (k : ℕ) → k < l.level → get_or l.paths k 0 ≡ max (get_or l.initial.paths k 0) (get_or l.times k 0);
  times : (k : ℕ) → l.level ≤ k → get_or l.times k 0 ≡ get_or l.initial.times k 0;
  paths : (k : ℕ) → l.level ≤ k → get_or l.paths k 0 ≡ get_or l.initial.paths k 0;
}
