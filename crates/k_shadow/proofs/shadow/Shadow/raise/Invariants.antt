use Rattle.std.proofs.Common.{◌≡◌, ℕ, ◌+◌, ◌<◌, ◌≤◌, get_or, max}
use Rattle.k_shadow.specs.Content.{time_at}
use Rattle.k_shadow.proofs.shadow.Shadow.raise.Given as goal

-- the times so far were raised, and the others are as before
abbrev pub invariant-loop-level : goal.invariant-loop-level
invariant-loop-level g l = record {
  raised : (k : ℕ) → k < l.level → get_or l.times k 0 ≡ max (get_or l.initial.times k 0) (time_at (g.Self.Shadow.content l.self) k l.loc);
  rest : (k : ℕ) → l.level ≤ k → get_or l.times k 0 ≡ get_or l.initial.times k 0;
  steps : l.steps ≡ l.initial.steps + l.level;
}
