use Rattle.std.proofs.Common.{◌≡◌, ℕ, ◌-◌, ◌<◌, ◌≤◌, length, get_or}
use Rattle.k_shadow.proofs.lists.copy_behind.Given as goal

-- the times so far were copied, and those before are as they were
abbrev pub invariant-loop-level : goal.invariant-loop-level
invariant-loop-level l = record {
  before : (k : ℕ) → k < l.first → get_or l.to k 0 ≡ get_or l.initial.to k 0;
  from_first : l.first ≤ l.level;
  behind : (k : ℕ) → l.first ≤ k → k < l.level → k < length l.from → get_or l.to k 0 ≡ get_or l.from k 0;
}

-- two levels fewer each time
abbrev pub decreases-loop-level : goal.decreases-loop-level
decreases-loop-level l = length l.from - l.level
