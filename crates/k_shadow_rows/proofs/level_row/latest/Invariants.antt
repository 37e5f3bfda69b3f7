use Rattle.std.proofs.Common.{◌≡◌, ℕ, ◌+◌, ◌<◌, get_or, max}
use Rattle.k_shadow_rows.proofs.level_row.latest.Given as goal

-- the times so far are the later ones, for a step each
abbrev pub invariant-loop-level : goal.invariant-loop-level
invariant-loop-level g l = record {
  later : (k : ℕ) → k < l.level → get_or l.times k 0 ≡ max ((g.R.LevelRow.seen l.row).time k) (get_or l.before k 0);
  steps : l.steps ≡ l.initial.steps + l.level;
}
