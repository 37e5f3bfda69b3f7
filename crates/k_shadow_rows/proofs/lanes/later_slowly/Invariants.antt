use Rattle.std.proofs.Common.{◌≡◌, ◌+◌, ◌^◌, ℕ, ◌<◌, ◌≤◌, get_or, max}
use Rattle.k_shadow.specs.Rows.{row_time}
use Rattle.k_shadow_rows.specs.Rows.{row_in}
use Rattle.k_shadow_rows.proofs.lanes.later_slowly.Given as goal

-- the lanes so far were raised, for a step each, and the others are as before
abbrev pub invariant-loop-level : goal.invariant-loop-level
invariant-loop-level g l = record {
  raised : (k : ℕ) → k < l.level → row_time (row_in l.rows l.loc) (get_or l.starts k 0) k < 2 ^ 32 → g.V.TimeLanes.time l.times k ≡ max (g.V.TimeLanes.time l.fn.before k) (row_time (row_in l.rows l.loc) (get_or l.starts k 0) k);
  steps : l.steps ≡ l.initial.steps + l.level;
  rest : (k : ℕ) → l.level ≤ k → k < g.V.TimeLanes.count → g.V.TimeLanes.time l.times k ≡ g.V.TimeLanes.time l.fn.before k;
}
