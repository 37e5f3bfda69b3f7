use Rattle.std.proofs.Common.{ℕ, ◌+◌, ◌<◌, ◌≤◌, get_or}
use Rattle.std.specs.Prelude.{IsSome}
use Rattle.std.specs.Ordering.{nat_cmp}
use Rattle.std.specs.BTreeMap.{BTreeMap, get}
use Rattle.k_shadow.proofs.Changed.{Changed}
use Rattle.k_shadow.proofs.maps.hold_in_all.Given as goal

-- the locations stand in the maps so far, and no time has changed
abbrev pub invariant-loop-level : goal.invariant-loop-level
invariant-loop-level l = record {
  changed : Changed (λ level m. m) l.level l.initial.maps l.maps;
  stand : (k : ℕ) (d : BTreeMap ℕ ℕ) → k < l.level → (at : ℕ) → l.first ≤ at → at < l.first + l.count → IsSome (get nat_cmp (get_or l.maps k d) at);
}
