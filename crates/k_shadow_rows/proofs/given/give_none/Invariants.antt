use Rattle.std.proofs.Common.{◌≡◌, ◌≤◌, length}
use Rattle.k_shadow.specs.Content.{after_none}
use Rattle.k_shadow_rows.specs.Given.{AreGiven}
use Rattle.k_shadow_rows.specs.Rows.{rows_at}
use Rattle.k_shadow_rows.proofs.given.give_none.Given as goal

-- the levels so far were given their times
abbrev pub invariant-loop-level : goal.invariant-loop-level
invariant-loop-level g l = record {
  size : length l.rows ≡ length l.initial.rows;
  from : l.low ≤ l.level;
  given : AreGiven (after_none l.before l.latency) l.to l.low l.level (rows_at g.R.LevelRow.seen g.R.LevelRow.blank l.initial.rows) (rows_at g.R.LevelRow.seen g.R.LevelRow.blank l.rows) l.initial.paths l.paths;
}
