-- What is combined by an operation whose operands may come in any order: a list's items may come in any order.
use Rattle.std.proofs.Common.{arith, ◌≡◌, ◌<◌, ℕ, zero, suc, List, [], ◌∷◌, length, get_or, set, refl, sym, ap, ◌∙◌}
use Rattle.std.specs.List.{fold}
use Rattle.std.specs.List.Sorted.{IsPermutation}
use Rattle.std.proofs.lemmas.List.Edits.{swap_is}
use Rattle.std.proofs.lemmas.List.Sorted.{IsPermutation-keeps}

module _ {X : Type 0} (f : X → X → X) (turn : (a x y : X) → f (f a x) y ≡ f (f a y) x) where
  -- the first item changes places with a later one
  first_moved : (xs : List X) (j : ℕ) (x d a : X) → j < length xs → fold f (f a (get_or xs j d)) (set xs j x) ≡ fold f (f a x) xs
  first_moved [] j x d a h = absurd (omega arith)
  first_moved (z ∷ zs) zero x d a h = ap (λ b. fold f b zs) (turn a z x)
  first_moved (z ∷ zs) (suc j) x d a h =
      ap (λ b. fold f b (set zs j x)) (turn a (get_or zs j d) z) ∙ first_moved zs j x d (f a z) (omega arith) ∙ ap (λ b. fold f b zs) (turn a z x)

  two_moved : (xs : List X) (i j : ℕ) (d a : X) → i < length xs → j < length xs
      → fold f a (set (set xs i (get_or xs j d)) j (get_or xs i d)) ≡ fold f a xs
  two_moved [] i j d a p q = absurd (omega arith)
  two_moved (x ∷ xs) zero zero d a p q = refl
  two_moved (x ∷ xs) zero (suc j) d a p q = first_moved xs j x d a (omega arith)
  two_moved (x ∷ xs) (suc i) zero d a p q = first_moved xs i x d a (omega arith)
  two_moved (x ∷ xs) (suc i) (suc j) d a p q = two_moved xs i j d (f a x) (omega arith) (omega arith)

  pub fold-IsPermutation : (a : X) (xs ys : List X) → IsPermutation xs ys → fold f a xs ≡ fold f a ys
  fold-IsPermutation a xs ys =
      IsPermutation-keeps xs (λ l. fold f a xs ≡ fold f a l) refl
      (λ l i j p q h. h ∙ sym (two_moved l i j a a p q) ∙ ap (fold f a) (swap_is l i j a p q)) ys
