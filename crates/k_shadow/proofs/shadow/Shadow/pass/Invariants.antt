use Rattle.std.proofs.Common.{◌≡◌, ℕ, ◌+◌, ◌<◌, length, get_or}
use Rattle.k_shadow.specs.Content.{time_at}
use Rattle.k_shadow.proofs.shadow.Shadow.pass.Given as goal

-- the times so far are the location's
abbrev pub invariant-loop-level : goal.invariant-loop-level
invariant-loop-level g l = record {
  wide : length l.passed ≡ 32;
  done : (k : ℕ) → k < l.level → get_or l.passed k 0 ≡ time_at (g.Self.Shadow.content l.self) k l.from;
  steps : l.steps ≡ l.initial.steps + l.level;
}
