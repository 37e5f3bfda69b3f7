use Rattle.std.proofs.Common.{◌≡◌, ℕ, ◌+◌, ◌*◌, ◌<◌, ◌≤◌, get_or, length}
use Rattle.k_shadow_rows.specs.Given.{AreGiven, after_live_rows}
use Rattle.k_shadow_rows.specs.Rows.{rows_at}
use Rattle.k_shadow_rows.proofs.given.give_both.Given as goal

-- the levels so far were given their times, for two steps each
abbrev pub invariant-loop-level : goal.invariant-loop-level
invariant-loop-level g l = record {
  size : length l.rows ≡ length l.initial.rows;
  steps : l.steps ≡ l.initial.steps + 2 * l.level;
  live : (k : ℕ) → k < l.level → get_or l.numbers k 0 ≤ l.stamp;
  given : AreGiven (after_live_rows (rows_at g.R.LevelRow.seen g.R.LevelRow.blank l.initial.rows l.left) (rows_at g.R.LevelRow.seen g.R.LevelRow.blank l.initial.rows l.right) l.before l.latency) l.to 0 l.level (rows_at g.R.LevelRow.seen g.R.LevelRow.blank l.initial.rows) (rows_at g.R.LevelRow.seen g.R.LevelRow.blank l.rows) l.initial.paths l.paths;
}
