-- The places of names in a list.
use Rattle.std.proofs.Common.{ℕ, zero, suc, ◌+◌, ◌≡◌, refl, sym, ap, ◌∙◌, subst, Bool, true, false, cond, List, [], ◌∷◌, ◌++◌, take, length, Option, Some, None, option_map, arith, ltb}
use Rattle.std.specs.Prelude.{◌||◌, is_some, nat_lt}
use Rattle.std.specs.Cmp.Lexicographic.{same_text, nat_list_eq_equiv}
use Rattle.std.specs.Map.{update}
use Rattle.std.specs.Str.{bytes_eq}
use Rattle.k_types_meaning.specs.Names.{place_in}
use Rattle.k_types_meaning.specs.Units.{is_name}
use Rattle.k_types.specs.Defined.{IsIndexed, or_place, place_of, placed}

-- a place, and this number where there is none
abbrev pub place_or : Option ℕ → ℕ → ℕ
place_or None n = n
place_or (Some m) n = m

-- whether a place is below this
abbrev pub is_below : Option ℕ → ℕ → Bool
is_below None n = false
is_below (Some m) n = nat_lt m n

later_or : (o : Option ℕ) (n : ℕ) → place_or (option_map suc o) (suc n) ≡ 1 + place_or o n
later_or None n = omega arith
later_or (Some m) n = omega arith

-- the place of a name, with the length of the list where it is not there
pub place_is : (names : List (List ℕ)) (x : List ℕ) → place_or (place_of names x) (length names) ≡ place_in names x
place_is [] x = refl
place_is (y ∷ ys) x =
    elim (bytes_eq y x) as (λ b. place_or (cond b (Some 0) (option_map suc (place_of ys x))) (length (y ∷ ys)) ≡ cond b 0 (1 + place_in ys x))
    [ true ↦ refl | false ↦ later_or (place_of ys x) (length ys) ∙ ap (λ n. 1 + n) (place_is ys x) ]

some_later : (o : Option ℕ) → is_some (option_map suc o) ≡ is_some o
some_later None = refl
some_later (Some m) = refl

-- a name is there where it has a place
pub there_is : (names : List (List ℕ)) (x : List ℕ) → is_some (place_of names x) ≡ is_name names x
there_is [] x = refl
there_is (y ∷ ys) x =
    elim (bytes_eq y x) as (λ b. is_some (cond b (Some 0) (option_map suc (place_of ys x))) ≡ (b || is_name ys x))
    [ true ↦ refl | false ↦ some_later (place_of ys x) ∙ there_is ys x ]

none_below : (o : Option ℕ) → is_below o 0 ≡ false
none_below None = refl
none_below (Some m) = grind arith

later_below : (o : Option ℕ) (n : ℕ) → is_below (option_map suc o) (suc n) ≡ is_below o n
later_below None n = refl
later_below (Some m) n = grind arith

-- a name is among the first so many where its place is below
pub before_is : (names : List (List ℕ)) (x : List ℕ) (n : ℕ) → is_below (place_of names x) n ≡ is_name (take n names) x
before_is names x zero = none_below (place_of names x)
before_is [] x (suc n) = refl
before_is (y ∷ ys) x (suc n) =
    elim (bytes_eq y x) as (λ b. is_below (cond b (Some 0) (option_map suc (place_of ys x))) (suc n) ≡ (b || is_name (take n ys) x))
    [ true ↦ grind arith | false ↦ later_below (place_of ys x) n ∙ before_is ys x n ]

-- the place of a name behind one name more
abbrev or_last : Bool → Option ℕ → ℕ → Option ℕ
or_last b None n = cond b (Some n) None
or_last b (Some m) n = Some m

later_last : (b : Bool) (o : Option ℕ) (n : ℕ) → option_map suc (or_last b o n) ≡ or_last b (option_map suc o) (suc n)
later_last true None n = refl
later_last false None n = refl
later_last b (Some m) n = refl

place-last : (names : List (List ℕ)) (y x : List ℕ) → place_of (names ++ y ∷ []) x ≡ or_last (bytes_eq y x) (place_of names x) (length names)
place-last [] y x = refl
place-last (z ∷ zs) y x =
    elim (bytes_eq z x) as (λ b. cond b (Some 0) (option_map suc (place_of (zs ++ y ∷ []) x)) ≡ or_last (bytes_eq y x) (cond b (Some 0) (option_map suc (place_of zs x))) (length (z ∷ zs)))
    [ true ↦ refl | false ↦ ap (option_map suc) (place-last zs y x) ∙ (later_last (bytes_eq y x) (place_of zs x) (length zs) ∙ ap (or_last (bytes_eq y x) (option_map suc (place_of zs x))) (grind arith)) ]

-- one name more gets its place
last_placed : (o : Option ℕ) (n : ℕ) → or_place o n ≡ or_last true o n
last_placed None n = refl
last_placed (Some m) n = refl

not_last : (o : Option ℕ) (n : ℕ) → o ≡ or_last false o n
not_last None n = refl
not_last (Some m) n = refl

pub indexed_more : (names : List (List ℕ)) (y : List ℕ) (places : List ℕ → Option ℕ) → IsIndexed names places → IsIndexed (names ++ y ∷ []) (placed places y (length names))
indexed_more names y places is x = by (bytes_eq y x) refl
  where
    by : (b : Bool) → bytes_eq y x ≡ b → placed places y (length names) x ≡ place_of (names ++ y ∷ []) x
    by true same =
        ap (λ b. cond b (or_place (places y) (length names)) (places x)) same
        ∙ (ap (λ o. or_place o (length names)) (is y ∙ ap (place_of names) (same_text y x (sym same)))
        ∙ (last_placed (place_of names x) (length names)
        ∙ (ap (λ b. or_last b (place_of names x) (length names)) (sym same) ∙ sym (place-last names y x))))
    by false other =
        ap (λ b. cond b (or_place (places y) (length names)) (places x)) other
        ∙ (is x ∙ (not_last (place_of names x) (length names)
        ∙ (ap (λ b. or_last b (place_of names x) (length names)) (sym other) ∙ sym (place-last names y x))))

-- what is put in place of nothing
pub vacant : (o : Option ℕ) (n : ℕ) → is_some o ≡ false → Some n ≡ or_place o n
vacant None n free = refl
vacant (Some m) n free = cc

-- a name more, by what was kept of it
pub indexed_with : (names new : List (List ℕ)) (y copy : List ℕ) (f g : List ℕ → Option ℕ) (n : ℕ) → new ≡ names ++ copy ∷ [] → copy ≡ y → g ≡ placed f y n → n ≡ length names
    → IsIndexed names f → IsIndexed new g
indexed_with names new y copy f g n grown same is count indexed x =
    ap (λ h. h x) is
    ∙ (ap (λ k. placed f y k x) count
    ∙ (indexed_more names y f indexed x
    ∙ ap (λ ns. place_of ns x) (sym (grown ∙ ap (λ c. names ++ c ∷ []) same))))
