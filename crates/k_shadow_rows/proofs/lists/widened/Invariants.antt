use Rattle.std.proofs.Common.{◌≡◌, ℕ, ◌+◌, ◌<◌, ◌≤◌, length, vec_len, vec_capacity}
use Rattle.k_shadow_rows.specs.Rows.{rows_at}
use Rattle.k_shadow_rows.proofs.lists.widened.Given as goal

-- each row so far was widened, and there is room for the others
abbrev pub invariant-loop-row : goal.invariant-loop-row
invariant-loop-row g l = record {
  size : vec_len l.wide ≡ l.row-index;
  room : vec_len l.wide + length l.rows ≤ vec_capacity l.wide + l.row-index;
  same : (k : ℕ) → k < l.row-index → rows_at g.W.LevelRow.seen g.W.LevelRow.blank l.wide.items k ≡ rows_at g.R.LevelRow.seen g.R.LevelRow.blank l.rows k;
}
