-- The orders of places, pairs and what is found; sorted lists; and that there is one with the same items.
use Rattle.std.proofs.Common.{◌≡◌, ◌<◌, ◌⊎◌, ◌&&◌, nat_eq, nat_lt, Bool, true, false, List, [], ◌∷◌, arith, refl, sym, subst, inl, inr, ◌∙◌}
use Rattle.std.specs.Prelude.{if◌then◌else◌, ◌||◌}
use Rattle.k_num.specs.declared.place.Place.{Place}
use Rattle.k_carry_pairs.specs.declared.found.Found.{Found}
use Rattle.k_carry_pairs.specs.declared.pairs.Pair.{Pair}
use Rattle.k_carry_pairs.specs.Carried.{AllPass, AreSorted, IsAmong, pair_before, place_before, same_place}
use Rattle.k_carry_pairs.specs.Gathered.{found_before, put}
use Rattle.k_carry_pairs.proofs.Lists.{passes}

-- an order: what stands before something does not stand behind it, and it stands before all that the other one does
pub record IsOrder {X : Type 0} (before : X → X → Bool) : Type 0 where
  pub one_way : (x y : X) → before x y ≡ true → before y x ≡ true → ⊥
  pub on : (x y z : X) → before x y ≡ true → before y z ≡ true → before x z ≡ true

place_one_way : (a b : Place) → place_before a b ≡ true → place_before b a ≡ true → ⊥
place_one_way a b one two = grind arith

place_on : (a b c : Place) → place_before a b ≡ true → place_before b c ≡ true → place_before a c ≡ true
place_on a b c one two = grind arith

place_same : (a b : Place) → place_before a b ≡ false → place_before b a ≡ false → a ≡ b
place_same a b one two =
    let line : a.line ≡ b.line = grind arith in
    let column : a.column ≡ b.column = grind arith in
    (λ i. record { line = line i; column = column i })

same_is : (a b : Place) → same_place a b ≡ true → a ≡ b
same_is a b same =
    let line : a.line ≡ b.line = grind arith in
    let column : a.column ≡ b.column = grind arith in
    (λ i. record { line = line i; column = column i })

place_not_itself : (a : Place) → place_before a a ≡ true → ⊥
place_not_itself a is = place_one_way a a is is

-- a test of two parts
either : (p s q : Bool) → (p || (s && q)) ≡ true → (p ≡ true) ⊎ ((s ≡ true) × (q ≡ true))
either true s q is = inl refl
either false true true is = inr (refl, refl)
either false true false is = absurd (cc is)
either false false q is = absurd (cc is)

by_first : (p x : Bool) → p ≡ true → (p || x) ≡ true
by_first true x is = refl
by_first false x is = absurd (cc is)

by_second : (p s q : Bool) → s ≡ true → q ≡ true → (p || (s && q)) ≡ true
by_second true s q one two = refl
by_second false true true one two = refl
by_second false true false one two = absurd (cc two)
by_second false false q one two = absurd (cc one)

-- which part says that one pair stands before the other
pair_parts : (a b : Pair) → pair_before a b ≡ true → (place_before a.from b.from ≡ true) ⊎ ((a.from ≡ b.from) × (place_before a.to b.to ≡ true))
pair_parts a b is = elim (either (place_before a.from b.from) (same_place a.from b.from) (place_before a.to b.to) is) [
  | inl first ↦ inl first
  | inr second ↦ inr (same_is a.from b.from second.0, second.1)
]

pair_by_second : (a b : Pair) → a.from ≡ b.from → place_before a.to b.to ≡ true → pair_before a b ≡ true
pair_by_second a b same is =
    let itself : same_place a.from a.from ≡ true = grind arith in
    by_second (place_before a.from b.from) (same_place a.from b.from) (place_before a.to b.to)
    (subst (λ (x : Place). same_place a.from x ≡ true) same itself) is

pair_one_way : (a b : Pair) → pair_before a b ≡ true → pair_before b a ≡ true → ⊥
pair_one_way a b one two = by (pair_parts a b one) (pair_parts b a two)
  where
    by : (place_before a.from b.from ≡ true) ⊎ ((a.from ≡ b.from) × (place_before a.to b.to ≡ true))
        → (place_before b.from a.from ≡ true) ⊎ ((b.from ≡ a.from) × (place_before b.to a.to ≡ true)) → ⊥
    by (inl first) (inl back) = place_one_way a.from b.from first back
    by (inl first) (inr back) = place_not_itself a.from (subst (λ (x : Place). place_before a.from x ≡ true) back.0 first)
    by (inr first) (inl back) = place_not_itself b.from (subst (λ (x : Place). place_before b.from x ≡ true) first.0 back)
    by (inr first) (inr back) = place_one_way a.to b.to first.1 back.1

pair_on : (a b c : Pair) → pair_before a b ≡ true → pair_before b c ≡ true → pair_before a c ≡ true
pair_on a b c one two = by (pair_parts a b one) (pair_parts b c two)
  where
    first_way : place_before a.from c.from ≡ true → pair_before a c ≡ true
    first_way is = by_first (place_before a.from c.from) (same_place a.from c.from && place_before a.to c.to) is

    by : (place_before a.from b.from ≡ true) ⊎ ((a.from ≡ b.from) × (place_before a.to b.to ≡ true))
        → (place_before b.from c.from ≡ true) ⊎ ((b.from ≡ c.from) × (place_before b.to c.to ≡ true)) → pair_before a c ≡ true
    by (inl first) (inl on) = first_way (place_on a.from b.from c.from first on)
    by (inl first) (inr on) = first_way (subst (λ (x : Place). place_before a.from x ≡ true) on.0 first)
    by (inr first) (inl on) = first_way (subst (λ (x : Place). place_before x c.from ≡ true) (sym first.0) on)
    by (inr first) (inr on) = pair_by_second a c (first.0 ∙ on.0) (place_on a.to b.to c.to first.1 on.1)

pair_same : (a b : Pair) → pair_before a b ≡ false → pair_before b a ≡ false → a ≡ b
pair_same a b one two =
    let from_line : a.from.line ≡ b.from.line = grind arith in
    let from_column : a.from.column ≡ b.from.column = grind arith in
    let to_line : a.to.line ≡ b.to.line = grind arith in
    let to_column : a.to.column ≡ b.to.column = grind arith in
    (λ i. record { from = record { line = from_line i; column = from_column i }; to = record { line = to_line i; column = to_column i } })

pub pairs_ordered : IsOrder pair_before
pairs_ordered = record { one_way = pair_one_way; on = pair_on }

-- which part says that of what is found
pub found_parts : (a b : Found) → found_before a b ≡ true → (a.region < b.region) ⊎ ((a.region ≡ b.region) × (pair_before a.pair b.pair ≡ true))
found_parts a b is = elim (either (nat_lt a.region b.region) (nat_eq a.region b.region) (pair_before a.pair b.pair) is) [
  | inl first ↦ inl (grind arith)
  | inr second ↦ (let one : nat_eq a.region b.region ≡ true = second.0 in let same : a.region ≡ b.region = grind arith in inr (same, second.1))
]

found_one_way : (a b : Found) → found_before a b ≡ true → found_before b a ≡ true → ⊥
found_one_way a b one two = by (found_parts a b one) (found_parts b a two)
  where
    by : (a.region < b.region) ⊎ ((a.region ≡ b.region) × (pair_before a.pair b.pair ≡ true))
        → (b.region < a.region) ⊎ ((b.region ≡ a.region) × (pair_before b.pair a.pair ≡ true)) → ⊥
    by (inl first) (inl back) = omega (arith, first, back)
    by (inl first) (inr back) = omega (arith, first, back.0)
    by (inr first) (inl back) = omega (arith, first.0, back)
    by (inr first) (inr back) = pair_one_way a.pair b.pair first.1 back.1

pub found_on : (a b c : Found) → found_before a b ≡ true → found_before b c ≡ true → found_before a c ≡ true
found_on a b c one two = by (found_parts a b one) (found_parts b c two)
  where
    first_way : a.region < c.region → found_before a c ≡ true
    first_way is = by_first (nat_lt a.region c.region) (nat_eq a.region c.region && pair_before a.pair c.pair) (grind arith)

    by : (a.region < b.region) ⊎ ((a.region ≡ b.region) × (pair_before a.pair b.pair ≡ true))
        → (b.region < c.region) ⊎ ((b.region ≡ c.region) × (pair_before b.pair c.pair ≡ true)) → found_before a c ≡ true
    by (inl first) (inl on) = first_way (omega (arith, first, on))
    by (inl first) (inr on) = first_way (omega (arith, first, on.0))
    by (inr first) (inl on) = first_way (omega (arith, first.0, on))
    by (inr first) (inr on) =
        let same : a.region ≡ c.region = first.0 ∙ on.0 in
        let itself : nat_eq a.region c.region ≡ true = grind arith in
        by_second (nat_lt a.region c.region) (nat_eq a.region c.region) (pair_before a.pair c.pair) itself (pair_on a.pair b.pair c.pair first.1 on.1)

found_same : (a b : Found) → found_before a b ≡ false → found_before b a ≡ false → a ≡ b
found_same a b one two =
    let region : a.region ≡ b.region = grind arith in
    let before : pair_before a.pair b.pair ≡ false = grind arith in
    let behind : pair_before b.pair a.pair ≡ false = grind arith in
    let pair : a.pair ≡ b.pair = pair_same a.pair b.pair before behind in
    (λ i. record { region = region i; pair = pair i })

pub found_ordered : IsOrder found_before
found_ordered = record { one_way = found_one_way; on = found_on }

-- what stands behind one that stands behind another stands behind that
all_behind : {X : Type 0} (before : X → X → Bool) → IsOrder before → (x y : X) (xs : List X) → before x y ≡ true → AllPass (before y) xs → AllPass (before x) xs
all_behind before order x y [] is all = tt
all_behind before order x y (z ∷ xs) is all = (order.on x y z is all.0, all_behind before order x y xs is all.1)

-- a sorted list with the same items is the same
pub sorted_same : {X : Type 0} (before : X → X → Bool) → IsOrder before → (xs ys : List X) → AreSorted before xs → AreSorted before ys
    → ((x : X) → IsAmong x xs → IsAmong x ys) → ((x : X) → IsAmong x ys → IsAmong x xs) → xs ≡ ys
sorted_same before order [] [] a b to back = refl
sorted_same before order [] (y ∷ ys) a b to back = absurd (back y (inl refl))
sorted_same before order (x ∷ xs) [] a b to back = absurd (to x (inl refl))
sorted_same {X = X} before order (x ∷ xs) (y ∷ ys) a b to back =
    let first : y ≡ x = same_first (to x (inl refl)) (back y (inl refl)) in
    (λ i. first_is first i ∷ sorted_same before order xs ys a.1 b.1 (λ z is. rest_to first z is (to z (inr is))) (λ z is. rest_back first z is (back z (inr is))) i)
  where
    first_is : y ≡ x → x ≡ y
    first_is same = sym same

    same_first : IsAmong x (y ∷ ys) → IsAmong y (x ∷ xs) → y ≡ x
    same_first (inl here) back = here
    same_first (inr later) (inl here) = sym here
    same_first (inr later) (inr behind) = absurd (order.one_way y x (passes (before y) ys x b.0 later) (passes (before x) xs y a.0 behind))

    rest_to : y ≡ x → (z : X) → IsAmong z xs → IsAmong z (y ∷ ys) → IsAmong z ys
    rest_to first z is (inr later) = later
    rest_to first z is (inl here) =
        let itself : before x x ≡ true = subst (λ (w : X). before x w ≡ true) (sym here ∙ first) (passes (before x) xs z a.0 is) in
        absurd (order.one_way x x itself itself)

    rest_back : y ≡ x → (z : X) → IsAmong z ys → IsAmong z (x ∷ xs) → IsAmong z xs
    rest_back first z is (inr later) = later
    rest_back first z is (inl here) =
        let itself : before y y ≡ true = subst (λ (w : X). before y w ≡ true) (sym here ∙ sym first) (passes (before y) ys z b.0 is) in
        absurd (order.one_way y y itself itself)

-- what stands before a list and before what is put into it stands before all of it
put_behind : (f g : Found) (found : List Found) → found_before g f ≡ true → AllPass (found_before g) found → AllPass (found_before g) (put f found)
put_behind f g [] is all = (is, tt)
put_behind f g (h ∷ found) is all = by (found_before h f) (found_before f h) (put_behind f g found is all.1)
  where
    by : (a b : Bool) → AllPass (found_before g) (put f found)
        → AllPass (found_before g) (if a then h ∷ put f found else (if b then f ∷ h ∷ found else h ∷ found))
    by true b rest = (all.0, rest)
    by false true rest = (is, all)
    by false false rest = all

pub put_sorted : (f : Found) (found : List Found) → AreSorted found_before found → AreSorted found_before (put f found)
put_sorted f [] sorted = (tt, tt)
put_sorted f (g ∷ found) sorted = by (found_before g f) (found_before f g) refl refl (put_sorted f found sorted.1)
  where
    by : (a b : Bool) → found_before g f ≡ a → found_before f g ≡ b → AreSorted found_before (put f found)
        → AreSorted found_before (if a then g ∷ put f found else (if b then f ∷ g ∷ found else g ∷ found))
    by true b before behind rest = (put_behind f g found before sorted.0, rest)
    by false true before behind rest = ((behind, all_behind found_before found_ordered f g found behind sorted.0), sorted)
    by false false before behind rest = sorted

-- what was put there is there
pub put_there : (f : Found) (found : List Found) → IsAmong f (put f found)
put_there f [] = inl refl
put_there f (g ∷ found) = by (found_before g f) (found_before f g) refl refl (put_there f found)
  where
    by : (a b : Bool) → found_before g f ≡ a → found_before f g ≡ b → IsAmong f (put f found)
        → IsAmong f (if a then g ∷ put f found else (if b then f ∷ g ∷ found else g ∷ found))
    by true b before behind rest = inr rest
    by false true before behind rest = inl refl
    by false false before behind rest = inl (found_same g f before behind)

-- and so is what was there
pub put_old : (f x : Found) (found : List Found) → IsAmong x found → IsAmong x (put f found)
put_old f x [] is = absurd is
put_old f x (g ∷ found) is = by (found_before g f) (found_before f g) is (λ later. put_old f x found later)
  where
    by : (a b : Bool) → IsAmong x (g ∷ found) → (IsAmong x found → IsAmong x (put f found))
        → IsAmong x (if a then g ∷ put f found else (if b then f ∷ g ∷ found else g ∷ found))
    by true b (inl here) rest = inl here
    by true b (inr later) rest = inr (rest later)
    by false true is rest = inr is
    by false false is rest = is

-- and nothing else
pub put_either : (f x : Found) (found : List Found) → IsAmong x (put f found) → (f ≡ x) ⊎ IsAmong x found
put_either f x [] (inl here) = inl here
put_either f x [] (inr none) = absurd none
put_either f x (g ∷ found) is = by (found_before g f) (found_before f g) is (λ later. put_either f x found later)
  where
    by : (a b : Bool) → IsAmong x (if a then g ∷ put f found else (if b then f ∷ g ∷ found else g ∷ found))
        → (IsAmong x (put f found) → (f ≡ x) ⊎ IsAmong x found) → (f ≡ x) ⊎ IsAmong x (g ∷ found)
    by true b (inl here) rest = inr (inl here)
    by true b (inr later) rest = elim (rest later) [
      | inl new ↦ inl new
      | inr old ↦ inr (inr old)
    ]
    by false true (inl here) rest = inl here
    by false true (inr later) rest = inr later
    by false false is rest = inr is
