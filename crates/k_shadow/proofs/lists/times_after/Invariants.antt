use Rattle.std.proofs.Common.{◌≡◌, ℕ, ◌<◌, ◌≤◌, get_or, max}
use Rattle.k_shadow.specs.Content.{after_none}
use Rattle.k_shadow.proofs.lists.times_after.Given as goal

-- the times so far are those of the operation, the paths so far were raised, and the others are as before
abbrev pub invariant-loop-level : goal.invariant-loop-level
invariant-loop-level l = record {
  done : (k : ℕ) → k < l.level → get_or l.times k 0 ≡ after_none l.before l.latency k;
  raised : (k : ℕ) → k < l.level → get_or l.paths k 0 ≡ max (get_or l.initial.paths k 0) (after_none l.before l.latency k);
  rest : (k : ℕ) → l.level ≤ k → get_or l.paths k 0 ≡ get_or l.initial.paths k 0;
}
