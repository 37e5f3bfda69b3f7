use Rattle.std.proofs.Common.{◌≡◌, ℕ, ◌<◌, ◌≤◌, length, max, min}
use Rattle.k_shadow_rows.specs.Rows.{rows_at}
use Rattle.k_shadow_rows.proofs.lists.clear_rows.Given as goal

-- the rows so far have the stamp 0, and the others are as before
abbrev pub invariant-loop-at : goal.invariant-loop-at
invariant-loop-at g l = record {
  within : l.at ≤ max l.first (min l.end (length l.rows.items));
  among : (k : ℕ) → l.first ≤ k → k < l.at → (rows_at g.R.LevelRow.seen g.R.LevelRow.blank l.rows.items k).stamp ≡ 0;
  before : (k : ℕ) → k < l.first → rows_at g.R.LevelRow.seen g.R.LevelRow.blank l.rows.items k ≡ rows_at g.R.LevelRow.seen g.R.LevelRow.blank l.initial.rows.items k;
  behind : (k : ℕ) → l.at ≤ k → rows_at g.R.LevelRow.seen g.R.LevelRow.blank l.rows.items k ≡ rows_at g.R.LevelRow.seen g.R.LevelRow.blank l.initial.rows.items k;
  size : length l.rows.items ≡ length l.initial.rows.items;
}
