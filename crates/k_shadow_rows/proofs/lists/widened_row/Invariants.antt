use Rattle.std.proofs.Common.{◌≡◌, ℕ, ◌<◌, ◌≤◌}
use Rattle.k_shadow_rows.proofs.lists.widened_row.Given as goal

-- the stamp and the times so far are the row's, and the other times are 0
abbrev pub invariant-loop-level : goal.invariant-loop-level
invariant-loop-level g l = record {
  stamp : (g.W.LevelRow.seen l.wide).stamp ≡ (g.R.LevelRow.seen l.row).stamp;
  same : (k : ℕ) → k < l.level → (g.W.LevelRow.seen l.wide).time k ≡ (g.R.LevelRow.seen l.row).time k;
  rest : (k : ℕ) → l.level ≤ k → (g.W.LevelRow.seen l.wide).time k ≡ 0;
}
