-- For contracts between crates: nobody has to believe it.
-- The operations that are the first of an instance to make an access, among those that are kept.
use Rattle.std.specs.Prelude.{ℕ, ◌≡◌, ◌≤◌, ◌⊎◌, ◌&&◌, nat_eq, nat_lt, Bool, false, if◌then◌else◌, List, [], ◌∷◌, ◌++◌, reverse, Option, Some, None}
use Rattle.k_num.specs.Top.{top}
use Rattle.k_carry_pairs.specs.declared.origin.Origin.{Origin}
use Rattle.k_carry_pairs.specs.Carried.{IsAmong}

-- the one of two that has the lower number
abbrev pub lower : Origin → Origin → Origin
lower a b = if nat_lt b.number a.number then b else a

-- the best so far, if there is one, or another one that may be better
abbrev pub best_of : Option Origin → Origin → Option Origin
best_of None x = Some x
best_of (Some best) x = Some (lower best x)

-- the same, where those count alone that are not before the start
abbrev pub nearer : ℕ → Option Origin → Origin → Option Origin
nearer start best x = if nat_lt x.number start then best else best_of best x

-- the one of the lowest number of those that are not before the start
abbrev pub least : ℕ → List Origin → Option Origin → Option Origin
least start [] best = best
least start (x ∷ origins) best = least start origins (nearer start best x)

-- they have one number and one place
abbrev pub is_origin : Origin → Origin → Bool
is_origin a b = nat_eq a.number b.number && (nat_eq a.place.line b.place.line && nat_eq a.place.column b.place.column)

-- it is this one, where there is one
abbrev pub is_one_of : Option Origin → Origin → Bool
is_one_of None x = false
is_one_of (Some last) x = is_origin last x

-- one more behind the others, unless it is the last of them
abbrev pub added : Origin → List Origin → List Origin
added x firsts = if is_one_of (top (reverse firsts)) x then firsts else firsts ++ x ∷ []

-- one more, if there is one
abbrev pub added_if : Option Origin → List Origin → List Origin
added_if None firsts = firsts
added_if (Some x) firsts = added x firsts

-- for each start the first that is not before it, behind others
abbrev pub listed : List ℕ → List Origin → List Origin → List Origin
listed [] origins firsts = firsts
listed (start ∷ starts) origins firsts = listed starts origins (added_if (least start origins None) firsts)

-- none is higher
abbrev pub AreBelow : List ℕ → ℕ → Type 0
AreBelow starts high = (start : ℕ) → IsAmong start starts → start ≤ high

-- one of these is before no start
abbrev pub OneIsBehind : List ℕ → List Origin → Type 0
OneIsBehind starts origins = (x : Origin) × (IsAmong x origins × AreBelow starts x.number)

-- one more is kept, unless one of those that are kept is before no start
abbrev pub IsNoted : List ℕ → Origin → List Origin → List Origin → Type 0
IsNoted starts x old new = ((new ≡ old) × OneIsBehind starts old) ⊎ (new ≡ listed starts old [] ++ x ∷ [])
