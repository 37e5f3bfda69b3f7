-- What is known of balances, after one more is noted.
use Rattle.std.proofs.Common.{◌≡◌, ◌≢◌, ℕ, zero, suc, ◌<◌, inl, inr, List, [], ◌∷◌, length, Option, Some, None, Bool, true, false, refl, sym, ◌∙◌, ap, arith}
use Rattle.std.specs.Prelude.{◌⊎◌, slice_get, slice_set}
use Rattle.std.proofs.lemmas.Option.{none-some, same_Some}
use Rattle.k_code.specs.declared.balance.Balance.{Balance}
use Rattle.k_code.specs.Decides.{Adds, Agrees, Differs, IsKnown, IsOpen}

-- an element that was written
pub get_set_same : {X : Type 0} (xs : List X) (k : ℕ) (x : X) → k < length xs → slice_get (slice_set xs k x) k ≡ Some x
get_set_same [] k x h = absurd (omega arith)
get_set_same (y ∷ xs) zero x h = refl
get_set_same (y ∷ xs) (suc k) x h = get_set_same xs k x (omega arith)

-- every other is as before
pub get_set_other : {X : Type 0} (xs : List X) (k j : ℕ) (x : X) → j ≢ k → slice_get (slice_set xs k x) j ≡ slice_get xs j
get_set_other [] k j x ne = refl
get_set_other (y ∷ xs) zero zero x ne = absurd (ne refl)
get_set_other (y ∷ xs) zero (suc j) x ne = refl
get_set_other (y ∷ xs) (suc k) zero x ne = refl
get_set_other (y ∷ xs) (suc k) (suc j) x ne = get_set_other xs k j x (λ e. ne (ap (λ n. suc n) e))

-- where none is known none is
pub not_both : (list : List (Option Balance)) (k : ℕ) (c : Balance) → IsOpen list k → IsKnown list k c → ⊥
not_both list k c open_is known = none-some c (same_Some None (Some c) (sym open_is ∙ known))

-- nothing is added where it was known
pub stays_added : (at : ℕ → Type 0) (b : Balance) (old : List (Option Balance)) → ((t : ℕ) → at t → IsKnown old t b) → Adds at b old old
stays_added at b old is = record { long = refl; here = is; kept = λ t c e. e; only = λ t c e. inl e }

-- at the places of both
both_add : (one two at : ℕ → Type 0) (b : Balance) (old mid new : List (Option Balance)) → ((t : ℕ) → at t → one t ⊎ two t) → ((t : ℕ) → one t → at t) → ((t : ℕ) → two t → at t)
    → Adds one b old mid → Adds two b mid new → Adds at b old new
both_add one two at b old mid new parts from_one from_two x y = record {
  long = y.long ∙ x.long;
  here = λ t there. here t (parts t there);
  kept = λ t c e. y.kept t c (x.kept t c e);
  only = λ t c e. second t c (y.only t c e);
}
  where
    here : (t : ℕ) → one t ⊎ two t → IsKnown new t b
    here t (inl p) = y.kept t b (x.here t p)
    here t (inr p) = y.here t p

    first : (t : ℕ) (c : Balance) → IsKnown old t c ⊎ (one t × (c ≡ b)) → IsKnown old t c ⊎ (at t × (c ≡ b))
    first t c (inl e) = inl e
    first t c (inr p) = inr (from_one t p.0, p.1)

    second : (t : ℕ) (c : Balance) → IsKnown mid t c ⊎ (two t × (c ≡ b)) → IsKnown old t c ⊎ (at t × (c ≡ b))
    second t c (inl e) = first t c (x.only t c e)
    second t c (inr p) = inr (from_two t p.0, p.1)

-- a difference behind what was added was there before
was_different : (one two at : ℕ → Type 0) (b : Balance) (old mid : List (Option Balance)) → ((t : ℕ) → two t → at t) → Adds one b old mid → Differs two b mid → Differs at b old
was_different one two at b old mid from_two x d =
    elim (x.only d.place d.other d.known) [
      | inl was ↦ record { place = d.place; other = d.other; there = from_two d.place d.there; known = was; differs = d.differs }
      | inr now ↦ absurd (d.differs now.1)
    ]

-- the targets of a test: one after the other
pub first_differs : (one at : ℕ → Type 0) (b : Balance) (old new mid : List (Option Balance)) → ((t : ℕ) → one t → at t) → Agrees false one b old mid → Agrees false at b old new
first_differs one at b old new mid from_one d = record { place = d.place; other = d.other; there = from_one d.place d.there; known = d.known; differs = d.differs }

pub then_agrees : (one two at : ℕ → Type 0) (b : Balance) (old mid new : List (Option Balance)) (answer : Bool) → ((t : ℕ) → at t → one t ⊎ two t) → ((t : ℕ) → one t → at t) → ((t : ℕ) → two t → at t)
    → Agrees true one b old mid → Agrees answer two b mid new → Agrees answer at b old new
then_agrees one two at b old mid new true parts from_one from_two x y = both_add one two at b old mid new parts from_one from_two x y
then_agrees one two at b old mid new false parts from_one from_two x y = was_different one two at b old mid from_two x y

-- at places that are the same
pub agrees_at : (one at : ℕ → Type 0) (b : Balance) (old new : List (Option Balance)) (answer : Bool) → ((t : ℕ) → at t → one t) → ((t : ℕ) → one t → at t) → Agrees answer one b old new → Agrees answer at b old new
agrees_at one at b old new true to from x = record {
  long = x.long;
  here = λ t there. x.here t (to t there);
  kept = x.kept;
  only = λ t c e. elim (x.only t c e) [
    | inl was ↦ inl was
    | inr now ↦ inr (from t now.0, now.1)
  ];
}
agrees_at one at b old new false to from d = first_differs one at b old new new from d
