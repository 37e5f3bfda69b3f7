use Rattle.std.proofs.Common.{◌≡◌, ℕ, ◌+◌, ◌<◌, ◌≤◌, get_or, max}
use Rattle.k_shadow_rows.proofs.level_row.raise.Given as goal

-- the times so far were raised, for a step each, and the others are as before
abbrev pub invariant-loop-level : goal.invariant-loop-level
invariant-loop-level g l = record {
  raised : (k : ℕ) → k < l.level → get_or l.times k 0 ≡ max (get_or l.initial.times k 0) ((g.R.LevelRow.seen l.row).time k);
  steps : l.steps ≡ l.initial.steps + l.level;
  rest : (k : ℕ) → l.level ≤ k → get_or l.times k 0 ≡ get_or l.initial.times k 0;
}
