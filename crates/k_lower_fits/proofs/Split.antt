-- A property of all items of a list that is put together of parts.
use Rattle.std.proofs.Common.{◌≡◌, List, [], ◌∷◌, ◌++◌, subst}
use Rattle.std.specs.Prelude.{All}
use Rattle.std.proofs.lemmas.List.Elements.{All-head, All-tail}
use Rattle.k_types_meaning.proofs.Fine.{AllOf}

module _ {A : Type 0} (P : A → Type 0) where
  pub front : (xs ys : List A) → AllOf P (xs ++ ys) → AllOf P xs
  front [] ys h = tt
  front (x ∷ xs) ys h = (h.0, front xs ys h.1)

  pub behind : (xs ys : List A) → AllOf P (xs ++ ys) → AllOf P ys
  behind [] ys h = h
  behind (x ∷ xs) ys h = behind xs ys h.1

  pub joined : (xs ys : List A) → AllOf P xs → AllOf P ys → AllOf P (xs ++ ys)
  joined [] ys h k = k
  joined (x ∷ xs) ys h k = (h.0, joined xs ys h.1 k)

  pub two : (all xs ys : List A) → all ≡ xs ++ ys → AllOf P all → AllOf P xs × AllOf P ys
  two all xs ys is h =
      let k : AllOf P (xs ++ ys) = subst (AllOf P) is h in
      (front xs ys k, behind xs ys k)

  pub same : (all xs : List A) → all ≡ xs → AllOf P all → AllOf P xs
  same all xs is h = subst (AllOf P) is h

  pub all_of : (xs : List A) → All P xs → AllOf P xs
  all_of [] h = tt
  all_of (x ∷ xs) h = (All-head P x xs h, all_of xs (All-tail P x xs h))
