use Rattle.std.proofs.Common.{◌≡◌, ℕ, ◌-◌, ◌<◌, get_or, length}
use Rattle.k_shadow_rows.proofs.level_row.write.Given as goal

-- the row has its stamp, and the times so far were written
abbrev pub invariant-loop-level : goal.invariant-loop-level
invariant-loop-level g l = record {
  stamp : (g.R.LevelRow.seen l.row).stamp ≡ l.stamp;
  written : (k : ℕ) → k < l.level → k < length l.times → (g.R.LevelRow.seen l.row).time k ≡ get_or l.times k 0;
}

-- two levels fewer each time
abbrev pub decreases-loop-level : goal.decreases-loop-level
decreases-loop-level g l = length l.times - l.level
