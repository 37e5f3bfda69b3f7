-- Lists in order of region, of which those of lower regions are left behind.
use Rattle.std.proofs.Common.{ℕ, ◌≡◌, ◌≢◌, ◌⊎◌, ◌<◌, ◌≤◌, nat_eq, nat_lt, Bool, true, false, List, [], ◌∷◌, Option, Some, None, arith, refl, sym, ap, ◌∙◌, subst, inl, inr}
use Rattle.std.specs.Prelude.{if◌then◌else◌}
use Rattle.std.proofs.lemmas.Bool.Decides.{eqb_tells, nat_tests}
use Rattle.k_carry_pairs.specs.Carried.{AllPass, AreSorted}
use Rattle.k_advise_verdicts.specs.Told.{Passes, by_number, front, of_region}

-- a number that is below another
pub below : (a b : ℕ) → nat_lt a b ≡ true → a < b
below a b is = grind (arith, nat_tests)

module _ (X : Type 0) (number : X → ℕ) where
  -- behind this item, and behind those that may be left out before a region
  pub record Reached (region : ℕ) (all rest : List X) : Type 0 where
    pub same : (r : ℕ) → region ≤ r → of_region number r rest ≡ of_region number r all
    pub sorted : AreSorted (by_number number) rest

  pub at_first : (region : ℕ) (all : List X) → AreSorted (by_number number) all → Reached region all all
  at_first region all sorted = record { same = λ r h. refl; sorted = sorted }

  -- an item of another region is not the one
  other : (r : ℕ) (x : X) (xs : List X) → number x ≢ r → of_region number r (x ∷ xs) ≡ of_region number r xs
  other r x xs differ = by (eqb_tells (number x) r)
    where
      by : ((nat_eq (number x) r ≡ true) × (number x ≡ r)) ⊎ ((nat_eq (number x) r ≡ false) × (number x ≢ r))
          → (if nat_eq (number x) r then Some x else of_region number r xs) ≡ of_region number r xs
      by (inl here) = absurd (differ here.1)
      by (inr there) = ap (λ (b : Bool). if b then Some x else of_region number r xs) there.0

  pub left_behind : (region : ℕ) (all rest later : List X) (x : X) → Reached region all rest → rest ≡ x ∷ later → number x < region → Reached region all later
  left_behind region all rest later x h is less = record {
    same = λ r from. sym (other r x later (λ same. apart r from same)) ∙ ap (of_region number r) (sym is) ∙ h.same r from;
    sorted = parts.1;
  }
    where
      parts : AreSorted (by_number number) (x ∷ later)
      parts = subst (λ l. AreSorted (by_number number) l) is h.sorted

      apart : (r : ℕ) → region ≤ r → number x ≡ r → ⊥
      apart r from same = omega arith

  -- none of those behind an item is of a lower region
  none_behind : (r : ℕ) (x : X) (xs : List X) → r < number x → AllPass (by_number number x) xs → of_region number r xs ≡ None
  none_behind r x [] less all = refl
  none_behind r x (y ∷ ys) less all = other r y ys (λ same. apart same (below (number x) (number y) all.0)) ∙ none_behind r x ys less all.1
    where
      apart : number y ≡ r → number x < number y → ⊥
      apart same more = omega arith

  stops : (r : ℕ) (x : X) (later : List X) → AreSorted (by_number number) (x ∷ later) → r ≤ number x → front number r (x ∷ later) ≡ of_region number r (x ∷ later)
  stops r x later sorted from = by (eqb_tells (number x) r)
    where
      further : number x ≢ r → r < number x
      further differ = grind arith

      by : ((nat_eq (number x) r ≡ true) × (number x ≡ r)) ⊎ ((nat_eq (number x) r ≡ false) × (number x ≢ r))
          → (if nat_eq (number x) r then Some x else None) ≡ (if nat_eq (number x) r then Some x else of_region number r later)
      by (inl here) =
          ap (λ (b : Bool). if b then Some x else None) here.0 ∙ sym (ap (λ (b : Bool). if b then Some x else of_region number r later) here.0)
      by (inr there) = ap (λ (o : Option X). if nat_eq (number x) r then Some x else o) (sym (none_behind r x later (further there.1) sorted.0))

  pub stopped : (region : ℕ) (all rest later : List X) (x : X) → Reached region all rest → rest ≡ x ∷ later → region ≤ number x → Passes number region all rest
  stopped region all rest later x h is from = record {
    same = h.same;
    sorted = h.sorted;
    first = subst (λ l. front number region l ≡ of_region number region l) (sym is)
        (stops region x later (subst (λ l. AreSorted (by_number number) l) is h.sorted) from);
  }

  pub ended : (region : ℕ) (all rest : List X) → Reached region all rest → rest ≡ [] → Passes number region all rest
  ended region all rest h is = record {
    same = h.same;
    sorted = h.sorted;
    first = subst (λ l. front number region l ≡ of_region number region l) (sym is) refl;
  }
