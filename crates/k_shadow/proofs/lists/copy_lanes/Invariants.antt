use Rattle.std.proofs.Common.{◌≡◌, ℕ, ◌<◌, ◌≤◌, get_or}
use Rattle.k_shadow.proofs.lists.copy_lanes.Given as goal

-- the times so far were copied
abbrev pub invariant-loop-level : goal.invariant-loop-level
invariant-loop-level g l = record {
  done : (k : ℕ) → k < l.level → get_or l.to k 0 ≡ get_or l.narrow k 0;
  small : (k : ℕ) → k < l.level → get_or l.to k 0 ≤ 4294967295;
}
