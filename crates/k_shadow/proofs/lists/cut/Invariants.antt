use Rattle.std.proofs.Common.{◌≡◌, ℕ, ◌<◌, ◌%◌, ◌^◌, length, get_or}
use Rattle.k_shadow.proofs.lists.cut.Given as goal

-- the times so far have their lanes
abbrev pub invariant-loop-level : goal.invariant-loop-level
invariant-loop-level g l = record {
  wide : length l.narrow ≡ 32;
  done : (k : ℕ) → k < l.level → get_or l.narrow k 0 ≡ get_or l.times k 0 % 2 ^ 32;
}
