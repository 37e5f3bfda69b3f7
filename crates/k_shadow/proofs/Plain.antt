-- What the calls make of the maps of live levels.
use Rattle.std.proofs.Common.{◌≡◌, ℕ, ◌+◌, ◌-◌, ◌<◌, ◌≤◌, zero, suc, List, [], ◌∷◌, ◌++◌, length, take, drop, map, replicate, cond, Bool, ◌&&◌, nat_le, nat_lt, refl, ap, sym, ◌∙◌, arith, length-append, append_assoc, ⊎_elim}
use Rattle.std.specs.BTreeMap.{BTreeMap, is_at}
use Rattle.std.specs.Map.{lookup}
use Rattle.std.specs.Option.{unwrap_or}
use Rattle.std.specs.Ordering.{nat_cmp}
use Rattle.std.proofs.lemmas.Bool.{cases_lt}
use Rattle.std.proofs.lemmas.Bool.Decides.{nat_tests}
use Rattle.std.proofs.lemmas.List.{append-nil, length-map, length-replicate, map-append, map-id, map_push, take-map, take_at, length-take-le, replicate_more}
use Rattle.k_shadow.specs.Content.{without}
use Rattle.k_shadow.specs.Maps.{map_time, levels_in}
use Rattle.k_shadow.proofs.Changed.{Changed, each_made}

-- a vector after a write of its elements as a slice
pub refilled : {A : Type 0} (n : ℕ) (new old : List A) → length new ≡ n → take n (new ++ drop (length new) old) ≡ new
refilled n new old h = take_at new (drop (length new) old) n h

-- the map that is empty at every location
abbrev none : ℕ → ℕ
none = λ _. 0

pub length-levels_in : (maps : List (BTreeMap ℕ ℕ)) (depth : ℕ) → length maps ≤ depth → length (levels_in maps depth) ≡ depth
length-levels_in maps depth h = omega (arith, length-append (map map_time maps) (replicate (depth - length maps) none), length-map maps map_time, length-replicate (depth - length maps) none)

-- every live level has a map
pub levels_in_full : (maps : List (BTreeMap ℕ ℕ)) (depth : ℕ) → length maps ≡ depth → levels_in maps depth ≡ map map_time maps
levels_in_full maps depth h =
    let e : depth - length maps ≡ 0 = omega arith in
    ap (λ n. map map_time maps ++ replicate n none) e ∙ append-nil (map map_time maps)

-- a level more, which has no map yet
pub levels_in-entered : (maps : List (BTreeMap ℕ ℕ)) (depth : ℕ) → length maps ≤ depth → levels_in maps (depth + 1) ≡ levels_in maps depth ++ none ∷ []
levels_in-entered maps depth h =
    let e : depth + 1 - length maps ≡ depth - length maps + 1 = omega arith in
    ap (λ n. map map_time maps ++ replicate n none) e
    ∙ ap (λ ms. map map_time maps ++ ms) (sym (replicate_more (depth - length maps) none))
    ∙ sym (append_assoc (map map_time maps) (replicate (depth - length maps) none) (none ∷ []))

-- the innermost level is left, and it had no map
pub levels_in-left : (maps : List (BTreeMap ℕ ℕ)) (depth : ℕ) → length maps ≤ depth → levels_in maps depth ≡ take depth (levels_in maps (depth + 1))
levels_in-left maps depth h =
    sym (ap (λ ms. take depth ms) (levels_in-entered maps depth h) ∙ take_at (levels_in maps depth) (none ∷ []) depth (length-levels_in maps depth h))

-- the innermost level is left, and it had a map
pub levels_in-left_full : (maps : List (BTreeMap ℕ ℕ)) (depth : ℕ) → length maps ≡ depth + 1 → levels_in (take depth maps) depth ≡ take depth (levels_in maps (depth + 1))
levels_in-left_full maps depth h =
    levels_in_full (take depth maps) depth (length-take-le depth maps (omega arith))
    ∙ sym (take-map map_time depth maps)
    ∙ ap (λ ms. take depth ms) (sym (levels_in_full maps (depth + 1) h))

-- an empty map is made for the next level
pub levels_in-push : (maps : List (BTreeMap ℕ ℕ)) (m : BTreeMap ℕ ℕ) (depth : ℕ) → length maps < depth → ((at : ℕ) → map_time m at ≡ 0) → levels_in (maps ++ m ∷ []) depth ≡ levels_in maps depth
levels_in-push maps m depth h empty =
    let e : depth - length (maps ++ m ∷ []) ≡ depth - (length maps + 1) = omega (arith, length-append maps (m ∷ [])) in
    let one : depth - length maps ≡ suc (depth - (length maps + 1)) = omega arith in
    let made : map_time m ≡ none = λ i at. empty at i in
    ap (λ ms. ms ++ replicate (depth - length (maps ++ m ∷ [])) none) (map_push map_time maps m)
    ∙ append_assoc (map map_time maps) (map_time m ∷ []) (replicate (depth - length (maps ++ m ∷ [])) none)
    ∙ ap (λ n. map map_time maps ++ map_time m ∷ replicate n none) e
    ∙ ap (λ f. map map_time maps ++ f ∷ replicate (depth - (length maps + 1)) none) made
    ∙ ap (λ n. map map_time maps ++ replicate n none) (sym one)

map-replicate : (f : (ℕ → ℕ) → ℕ → ℕ) (n : ℕ) → f none ≡ none → map f (replicate n none) ≡ replicate n none
map-replicate f zero h = refl
map-replicate f (suc n) h = λ i. h i ∷ map-replicate f n h i

-- one function of each map
pub levels_in-map : (f : (ℕ → ℕ) → ℕ → ℕ) (old new : List (BTreeMap ℕ ℕ)) (depth : ℕ) → f none ≡ none → length new ≡ length old → map map_time new ≡ map f (map map_time old) → levels_in new depth ≡ map f (levels_in old depth)
levels_in-map f old new depth empty same h =
    ap (λ n. map map_time new ++ replicate (depth - n) none) same
    ∙ ap (λ ms. ms ++ replicate (depth - length old) none) h
    ∙ ap (λ ms. map f (map map_time old) ++ ms) (sym (map-replicate f (depth - length old) empty))
    ∙ sym (map-append f (map map_time old) (replicate (depth - length old) none))

-- a map that is empty stays so where locations are taken away
pub without_none : (first count : ℕ) → without first count none ≡ none
without_none first count = λ i at. nothing (nat_le first at && nat_lt at (first + count)) i
  where
    nothing : (b : Bool) → ◌≡◌ {A = ℕ} (cond b 0 0) 0
    nothing b = grind (arith, nat_tests)

-- maps whose times were kept
pub same_times : (n : ℕ) (old new : List (BTreeMap ℕ ℕ)) → Changed (λ k m. m) n old new → map map_time new ≡ map map_time old
same_times n old new h =
    each_made (λ m. m) old new h.same_length (λ k d lt at. ⊎_elim
    (λ (less : k < n). h.done k d less at)
    (λ (more : n ≤ k). ap (λ x. map_time x at) (h.rest k d more))
    (cases_lt k n))
    ∙ map-id (map map_time old)

-- a map without entries is empty at every location
pub empty_time : (m : BTreeMap ℕ ℕ) → m.entries ≡ [] → (at : ℕ) → map_time m at ≡ 0
empty_time m h at = ap (λ es. unwrap_or (lookup (is_at (nat_cmp at)) es) 0) h
