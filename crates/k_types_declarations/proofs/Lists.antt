-- Parts that are judged one after the other: those before one were made, and those from it on make the rest.
use Rattle.std.proofs.Common.{◌≡◌, inl, inr, ℕ, ◌+◌, ◌<◌, ◌≤◌, List, [], ◌∷◌, ◌++◌, drop, get_or, length, map, refl, sym, ap, ◌∙◌, subst, append_assoc, append-nil}
use Rattle.std.proofs.lemmas.List.{drop_more, drop_all}
use Rattle.k_types_meaning.specs.declared.fault.TypeFault.{TypeFault}
use Rattle.k_types_meaning.specs.Made.{Made, Fine, Faulty, both, all_made, then_made}
use Rattle.k_types_rules.specs.Views.{Refuses}

-- what is made before what others make
abbrev pub made_before : {A : Type 0} → List A → Made (List A) → Made (List A)
made_before xs (Fine more) = Fine (xs ++ more)
made_before xs (Faulty f fs) = Faulty f fs

-- what is made before nothing
pub none_before : {A : Type 0} (m : Made (List A)) → made_before [] m ≡ m
none_before (Fine more) = refl
none_before (Faulty f fs) = refl

-- what is made goes before what others make
pub one_more : {A : Type 0} (xs : List A) (x : A) (m : Made A) (rest : Made (List A)) → m ≡ Fine x
    → made_before xs (both m rest (λ y ys. Fine (y ∷ ys))) ≡ made_before (xs ++ x ∷ []) rest
one_more xs x m rest is = ap (λ v. made_before xs (both v rest (λ y ys. Fine (y ∷ ys)))) is ∙ behind xs x rest
  where
    behind : {A : Type 0} (xs : List A) (x : A) (rest : Made (List A)) → made_before xs (both (Fine x) rest (λ y ys. Fine (y ∷ ys))) ≡ made_before (xs ++ x ∷ []) rest
    behind xs x (Fine more) = ap Fine (sym (append_assoc xs (x ∷ []) more))
    behind xs x (Faulty f fs) = refl

-- a fault goes before what others make
pub refuses_both : {A B C : Type 0} (f : TypeFault) (m : Made A) (rest : Made B) (next : A → B → Made C) → Refuses f m → Refuses f (both m rest next)
refuses_both f m rest next (inl is) = inl is
refuses_both f (Fine a) rest next (inr none) = absurd none
refuses_both f (Faulty g gs) (Fine b) next (inr is) = inr is
refuses_both f (Faulty g gs) (Faulty h hs) next (inr is) = inr is

-- the first fault is that of what others make
pub refuses_before : {A : Type 0} (f : TypeFault) (xs : List A) (m : Made (List A)) → Refuses f m → Refuses f (made_before xs m)
refuses_before f xs m (inl is) = inl is
refuses_before f xs (Fine a) (inr none) = absurd none
refuses_before f xs (Faulty g gs) (inr is) = inr is

-- the item at a place of a list, before those behind it
pub rest_from : {A : Type 0} (xs : List A) (i : ℕ) (x : A) → i < length xs → x ≡ get_or xs i x → drop i xs ≡ x ∷ drop (i + 1) xs
rest_from xs i x inside is = drop_more xs i x inside ∙ ap (λ y. y ∷ drop (i + 1) xs) (sym is)

module _ {A B : Type 0} (f : A → Made B) (xs : List A) where
  -- the parts before one were made
  abbrev pub SoFar : ℕ → List B → Type 0
  SoFar i made = made_before made (all_made (map f (drop i xs))) ≡ all_made (map f xs)

  -- none was made
  pub at_start : SoFar 0 []
  at_start = none_before (all_made (map f xs))

  -- the parts from one on, with that
  from_here : (i : ℕ) (x : A) → i < length xs → x ≡ get_or xs i x
      → all_made (map f (drop i xs)) ≡ both (f x) (all_made (map f (drop (i + 1) xs))) (λ y ys. Fine (y ∷ ys))
  from_here i x inside is = ap (λ rest. all_made (map f rest)) (rest_from xs i x inside is)

  -- one more was made
  pub step : (i : ℕ) (x : A) (made : List B) (y : B) → i < length xs → x ≡ get_or xs i x → f x ≡ Fine y → SoFar i made → SoFar (i + 1) (made ++ y ∷ [])
  step i x made y inside is fine so_far =
      sym (one_more made y (f x) (all_made (map f (drop (i + 1) xs))) fine)
      ∙ (ap (made_before made) (sym (from_here i x inside is)) ∙ so_far)

  -- all were made
  pub at_end : (i : ℕ) (made : List B) → length xs ≤ i → SoFar i made → all_made (map f xs) ≡ Fine made
  at_end i made end so_far =
      sym so_far ∙ (ap (λ rest. made_before made (all_made (map f rest))) (drop_all i xs end) ∙ ap Fine (append-nil made))

  -- one has a fault
  pub refused_at : (i : ℕ) (x : A) (made : List B) (t : TypeFault) → i < length xs → x ≡ get_or xs i x → SoFar i made → Refuses t (f x)
      → Refuses t (all_made (map f xs))
  refused_at i x made t inside is so_far refuses =
      subst (Refuses t) so_far
      (refuses_before t made (all_made (map f (drop i xs)))
      (subst (Refuses t) (sym (from_here i x inside is)) (refuses_both t (f x) (all_made (map f (drop (i + 1) xs))) (λ y ys. Fine (y ∷ ys)) refuses)))

-- a fault stays
pub refuses_then : {A B : Type 0} (f : TypeFault) (m : Made A) (next : A → Made B) → Refuses f m → Refuses f (then_made m next)
refuses_then f m next (inl is) = inl is
refuses_then f (Fine a) next (inr none) = absurd none
refuses_then f (Faulty g gs) next (inr is) = inr is
