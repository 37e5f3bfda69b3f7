-- A list made of numbers and their places.
use Rattle.std.proofs.Common.{◌≡◌, ℕ, ◌+◌, ◌<◌, zero, suc, List, [], ◌∷◌, ◌++◌, length, take, map, get_or, refl, ap, ◌∙◌, arith}
use Rattle.k_shadow.specs.Rows.{with_places}

module _ {A : Type 0} (f : ℕ → ℕ → A) where
  pub length-with_places : (k : ℕ) (ns : List ℕ) → length (with_places f k ns) ≡ length ns
  length-with_places k [] = refl
  length-with_places k (n ∷ ns) = ap (λ m. suc m) (length-with_places (k + 1) ns)

  -- a number more at the end
  pub with_places-append : (k : ℕ) (ns : List ℕ) (n : ℕ) → with_places f k (ns ++ n ∷ []) ≡ with_places f k ns ++ f n (k + length ns) ∷ []
  with_places-append k [] n = let e : k ≡ k + 0 = omega arith in ap (λ j. f n j ∷ []) e
  with_places-append k (m ∷ ns) n =
      let e : k + 1 + length ns ≡ k + length (m ∷ ns) = omega arith in
      ap (λ xs. f m k ∷ xs) (with_places-append (k + 1) ns n ∙ ap (λ j. with_places f (k + 1) ns ++ f n j ∷ []) e)

  pub with_places-take : (k j : ℕ) (ns : List ℕ) → with_places f k (take j ns) ≡ take j (with_places f k ns)
  with_places-take k zero ns = refl
  with_places-take k (suc j) [] = refl
  with_places-take k (suc j) (n ∷ ns) = ap (λ xs. f n k ∷ xs) (with_places-take (k + 1) j ns)

  -- what stands at a place
  pub get_or-with_places : (k : ℕ) (ns : List ℕ) (i : ℕ) (d : A) → i < length ns → get_or (with_places f k ns) i d ≡ f (get_or ns i 0) (k + i)
  get_or-with_places k [] i d h = absurd (omega arith)
  get_or-with_places k (n ∷ ns) zero d h = let e : k ≡ k + 0 = omega arith in ap (λ j. f n j) e
  get_or-with_places k (n ∷ ns) (suc i) d h =
      let e : k + 1 + i ≡ k + suc i = omega arith in
      get_or-with_places (k + 1) ns i d (omega arith) ∙ ap (λ j. f (get_or ns i 0) j) e

-- a function of each item
pub map-with_places : {A B : Type 0} (g : A → B) (f : ℕ → ℕ → A) (k : ℕ) (ns : List ℕ) → map g (with_places f k ns) ≡ with_places (λ n j. g (f n j)) k ns
map-with_places g f k [] = refl
map-with_places g f k (n ∷ ns) = ap (λ xs. g (f n k) ∷ xs) (map-with_places g f (k + 1) ns)

-- functions that agree
pub with_places_same : {A : Type 0} (f g : ℕ → ℕ → A) (k : ℕ) (ns : List ℕ) → ((n j : ℕ) → f n j ≡ g n j) → with_places f k ns ≡ with_places g k ns
with_places_same f g k [] h = refl
with_places_same f g k (n ∷ ns) h = λ i. h n k i ∷ with_places_same f g (k + 1) ns h i
