-- For contracts between crates: nobody has to believe it.
-- What a list of maps stands for.
use Rattle.std.specs.Prelude.{ℕ, ◌-◌, ◌<◌, List, ◌++◌, length, map, replicate, slice_index_or, unwrap_or, IsSome}
use Rattle.std.specs.Ordering.{nat_cmp}
use Rattle.std.specs.BTreeMap.{BTreeMap, get}

-- the time of a location, 0 where it is absent
abbrev pub map_time : BTreeMap ℕ ℕ → ℕ → ℕ
map_time m = λ loc. unwrap_or (get nat_cmp m loc) 0

-- the maps of `depth` live levels, of which the innermost that no map was made for are empty
abbrev pub levels_in : List (BTreeMap ℕ ℕ) → ℕ → List (ℕ → ℕ)
levels_in maps depth = map map_time maps ++ replicate (depth - length maps) (λ _. 0)

-- the location stands in each of these maps
abbrev pub StandsIn : List (BTreeMap ℕ ℕ) → ℕ → Type 0
StandsIn maps loc = (k : ℕ) (d : BTreeMap ℕ ℕ) → k < length maps → IsSome (get nat_cmp (slice_index_or maps k d) loc)
