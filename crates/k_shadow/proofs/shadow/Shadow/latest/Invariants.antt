use Rattle.std.proofs.Common.{◌≡◌, ℕ, ◌+◌, ◌<◌, get_or, max}
use Rattle.k_shadow.specs.Content.{time_at}
use Rattle.k_shadow.proofs.shadow.Shadow.latest.Given as goal

-- the times so far are the later ones
abbrev pub invariant-loop-level : goal.invariant-loop-level
invariant-loop-level g l = record {
  done : (k : ℕ) → k < l.level → get_or l.times k 0 ≡ max (time_at (g.Self.Shadow.content l.self) k l.loc) (get_or l.before k 0);
  steps : l.steps ≡ l.initial.steps + l.level;
}
