use Rattle.std.proofs.Common.{◌≡◌, ℕ, ◌+◌, ◌<◌, ◌≤◌, max}
use Rattle.k_shadow.specs.Content.{time_at}
use Rattle.k_shadow.proofs.shadow.Shadow.later_lanes.Given as goal

-- the lanes so far were raised, and the others are as before
abbrev pub invariant-loop-level : goal.invariant-loop-level
invariant-loop-level g l = record {
  raised : (k : ℕ) → k < l.level → g.V.TimeLanes.time l.times k ≡ max (g.V.TimeLanes.time l.fn.before k) (time_at (g.Self.Shadow.content l.self) k l.loc);
  rest : (k : ℕ) → l.level ≤ k → k < g.V.TimeLanes.count → g.V.TimeLanes.time l.times k ≡ g.V.TimeLanes.time l.fn.before k;
  steps : l.steps ≡ l.initial.steps + l.level;
}
