-- How many runs of two sums together ended with a value.
use Rattle.std.proofs.Common.{◌≡◌, ℕ, ℤ, ◌+◌, Bool, true, false, List, [], ◌∷◌, refl, sym, ap, subst, arith, int_lt, if◌then◌else◌}
use Rattle.std.specs.Ordering.{int_eq, is_eq}
use Rattle.std.proofs.lemmas.Bool.Decides.{Decides-int_eq}
use Rattle.k_sum.specs.Exits.{counted, with_exits}
use Rattle.k_sum.specs.Laws.{ExitsAddUp, ended_with}
use Rattle.k_sum.specs.declared.exits.Exit.{Exit}
use Rattle.k_sum.proofs.Counting.{cmp-same}

-- one of three, by two tests
abbrev three : Bool → Bool → List Exit → List Exit → List Exit → List Exit
three one other x y z = if one then x else (if other then y else z)

split : (test : Bool) (n m rest : ℕ) → (if test then n + m else 0) + rest ≡ (if test then n else 0) + ((if test then m else 0) + rest)
split true n m rest = omega arith
split false n m rest = omega arith

module _ (value w : ℤ) (n : ℕ) (x : Exit) (exits : List Exit)
    (rest : ended_with value (counted w n exits) ≡ (if int_eq w value then n else 0) + ended_with value exits) where
  abbrev first : List Exit
  first = record { value = w; runs = n } ∷ x ∷ exits

  abbrev later : List Exit
  later = x ∷ counted w n exits

  abbrev more : List Exit
  more = record { value = x.value; runs = n + x.runs } ∷ exits

  by_order : (one other : Bool) → int_lt w x.value ≡ one → int_lt x.value w ≡ other
      → ended_with value (three one other first later more) ≡ (if int_eq w value then n else 0) + ended_with value (x ∷ exits)
  by_order true other p q = refl
  by_order false true p q = omega arith
  by_order false false p q =
      let same : w ≡ x.value = (Decides-int_eq w x.value).0 (ap is_eq (cmp-same w x.value p q)) in
      let P : ℤ → Type 0 = λ u. ended_with value more ≡ (if int_eq u value then n else 0) + ended_with value (x ∷ exits) in
      subst P (sym same) (split (int_eq x.value value) n x.runs (ended_with value exits))

ended-counted : (value w : ℤ) (n : ℕ) (exits : List Exit) → ended_with value (counted w n exits) ≡ (if int_eq w value then n else 0) + ended_with value exits
ended-counted value w n [] = refl
ended-counted value w n (x ∷ exits) =
    by_order value w n x exits (ended-counted value w n exits) (int_lt w x.value) (int_lt x.value w) refl refl

ended-with : (value : ℤ) (exits more : List Exit) → ended_with value (with_exits exits more) ≡ ended_with value exits + ended_with value more
ended-with value exits [] = omega arith
ended-with value exits (x ∷ more) =
    let rest = ended-with value (counted x.value x.runs exits) more in let one = ended-counted value x.value x.runs exits in omega arith

pub exits_add_up : ExitsAddUp
exits_add_up one other value =
    let first = ended-with value [] one.exits in let second = ended-with value (with_exits [] one.exits) other.exits in omega arith
