use Rattle.std.proofs.Common.{◌≡◌, ℕ, ◌<◌, ◌≤◌}
use Rattle.std.specs.Prelude.{IsSome}
use Rattle.std.specs.Ordering.{nat_cmp}
use Rattle.std.specs.BTreeMap.{get}
use Rattle.k_shadow.specs.Maps.{map_time}
use Rattle.k_shadow.proofs.maps.hold_in.Given as goal

-- the locations so far stand in the map
abbrev pub invariant-loop-loc : goal.invariant-loop-loc
invariant-loop-loc l = record {
  times : (at : ℕ) → map_time l.map at ≡ map_time l.initial.map at;
  kept : (at : ℕ) → IsSome (get nat_cmp l.initial.map at) → IsSome (get nat_cmp l.map at);
  so_far : (at : ℕ) → l.first ≤ at → at < l.loc → IsSome (get nat_cmp l.map at);
}
