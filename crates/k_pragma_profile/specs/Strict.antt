-- Believed with the theorem on the top call, where storage is asked for.
-- The loops that may be marked where turns may share no storage either, and each instance is to be looked at.
use Rattle.std.specs.Prelude.{ℕ, ◌==◌, ◌&&◌, not, nat_eq, Bool, false, List, length, slice_get, Option, Some, None}
use Rattle.std.specs.List.{filter, list_any}
use Rattle.k_carry_pairs.specs.declared.pairs.LoopPairs.{LoopPairs}
use Rattle.k_carry_storage_pairs.specs.declared.pairs.LoopStorage.{LoopStorage}

-- this tells a storage pair of the loop of this region
abbrev pub has_pairs : ℕ → LoopStorage → Bool
has_pairs region l = nat_eq l.region region && not (length l.pairs == 0)

-- one of these does
abbrev pub is_shared : List LoopStorage → ℕ → Bool
is_shared shared region = list_any (has_pairs region) shared

-- this flag is set, if it is there
abbrev pub is_set : Option Bool → Bool
is_set None = false
is_set (Some flag) = flag

-- an instance of this region was too deep to be looked at, by flags of the regions
abbrev pub is_deep : List Bool → ℕ → Bool
is_deep deep region = is_set (slice_get deep region)

-- a loop of this region shares nothing, and each of its instances was looked at
abbrev pub is_strict : List Bool → List LoopStorage → LoopPairs → Bool
is_strict deep shared l = not (is_shared shared l.region) && not (is_deep deep l.region)

-- THE LOOPS THAT SHARE NOTHING and of which each instance was looked at, among those that are told with what they carry
unfoldable pub strictly_markable : List Bool → List LoopStorage → List LoopPairs → List LoopPairs
strictly_markable deep shared loops = filter (is_strict deep shared) loops
