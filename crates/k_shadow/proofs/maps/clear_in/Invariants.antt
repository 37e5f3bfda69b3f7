use Rattle.std.proofs.Common.{◌≡◌, ℕ, cond, ◌&&◌, nat_le, nat_lt}
use Rattle.std.specs.Prelude.{IsSome}
use Rattle.std.specs.Ordering.{nat_cmp}
use Rattle.std.specs.BTreeMap.{get}
use Rattle.k_shadow.specs.Maps.{map_time}
use Rattle.k_shadow.proofs.maps.clear_in.Given as goal

-- the locations so far have time 0
abbrev pub invariant-loop-loc : goal.invariant-loop-loc
invariant-loop-loc l = record {
  times : (at : ℕ) → map_time l.map at ≡ cond (nat_le l.first at && nat_lt at l.loc) 0 (map_time l.initial.map at);
  held : (at : ℕ) → IsSome (get nat_cmp l.initial.map at) → IsSome (get nat_cmp l.map at);
}
