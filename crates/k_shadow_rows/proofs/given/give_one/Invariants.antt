use Rattle.std.proofs.Common.{◌≡◌, ℕ, ◌+◌, ◌<◌, ◌≤◌, get_or, length}
use Rattle.k_shadow_rows.specs.Given.{AreGiven, after_live_row}
use Rattle.k_shadow_rows.specs.Rows.{rows_at}
use Rattle.k_shadow_rows.proofs.given.give_one.Given as goal

-- the levels so far were given their times, for a step each
abbrev pub invariant-loop-level : goal.invariant-loop-level
invariant-loop-level g l = record {
  size : length l.rows ≡ length l.initial.rows;
  from : l.low ≤ l.level;
  steps : l.steps + l.low ≡ l.initial.steps + l.level;
  live : (k : ℕ) → l.low ≤ k → k < l.level → get_or l.numbers k 0 ≤ l.stamp;
  given : AreGiven (after_live_row (rows_at g.R.LevelRow.seen g.R.LevelRow.blank l.initial.rows l.from) l.before l.latency) l.to l.low l.level (rows_at g.R.LevelRow.seen g.R.LevelRow.blank l.initial.rows) (rows_at g.R.LevelRow.seen g.R.LevelRow.blank l.rows) l.initial.paths l.paths;
}
