-- Signed numbers at the front.
use Rattle.std.proofs.Common.{◌≡◌, ℕ, ℤ, pos, negsuc, suc, ◌+◌, ◌-◌, ◌/◌, ◌%◌, ◌<◌, ◌≤◌, ◌&&◌, List, [], ◌∷◌, ◌++◌, Option, Some, None, nat_le, refl, sym, ap, ◌∙◌, subst, inl, inr, arith, if◌then◌else◌, ◌==◌, le-leb, ne_eqb, append_assoc}
use Rattle.std.specs.Prelude.{option_and_then, FitsSigned}
use Rattle.std.specs.Int.{w32}
use Rattle.std.specs.Fmt.{decimal, signed_decimal}
use Rattle.std.proofs.lemmas.Bool.{and_parts, and_from, cases_Bool, eqb-true, leb-true}
use Rattle.std.proofs.lemmas.Option.{none-some, same_Some}
use Rattle.std.proofs.lemmas.Fmt.{decimal_by_steps}
use Rattle.k_scan.specs.Numbers.{NoDigit, below, number_at, signed_at, small}
use Rattle.k_scan.proofs.Digits.{number_again, number_takes}
use Rattle.k_scan.proofs.Front.{chosen}

-- a step behind a number
behind : {X : Type 0} (o : Option (ℕ × List ℕ)) (f : ℕ × List ℕ → Option X) (x : X) → option_and_then f o ≡ Some x → (p : ℕ × List ℕ) × (o ≡ Some p) × (f p ≡ Some x)
behind None f x h = absurd (none-some x h)
behind (Some p) f x h = (p, refl, h)

small_takes : (text : List ℕ) (z : ℤ) (rest : List ℕ) → option_and_then small (number_at text) ≡ Some (z, rest) → (text ≡ signed_decimal z ++ rest) × FitsSigned w32 z
small_takes text z rest h =
    let b = behind (number_at text) small (z, rest) h in
    let n : ℕ = b.0.0 in let later : List ℕ = b.0.1 in
    let parts = chosen (nat_le n 2147483647) (Some (pos n, later)) (z, rest) b.2 in
    let pair = same_Some (pos n, later) (z, rest) parts.1 in
    let one : pos n ≡ z = ap (λ p. p.0) pair in let other : later ≡ rest = ap (λ p. p.1) pair in
    let bound : n ≤ 2147483647 = leb-true n 2147483647 parts.0 in
    let takes = number_takes text n later b.1 in
    let fits : FitsSigned w32 (pos n) = omega arith in
    let P : ℤ → Type 0 = FitsSigned w32 in
    (takes.0 ∙ (λ i. signed_decimal (one i) ++ other i), subst P one fits)

below_takes : (text : List ℕ) (z : ℤ) (rest : List ℕ) → option_and_then below (number_at text) ≡ Some (z, rest) → (45 ∷ text ≡ signed_decimal z ++ rest) × FitsSigned w32 z
below_takes text z rest h =
    let b = behind (number_at text) below (z, rest) h in
    let n : ℕ = b.0.0 in let later : List ℕ = b.0.1 in
    let parts = chosen (nat_le 1 n && nat_le n 2147483648) (Some (negsuc (n - 1), later)) (z, rest) b.2 in
    let bounds = and_parts (nat_le 1 n) (nat_le n 2147483648) parts.0 in
    let low : 1 ≤ n = leb-true 1 n bounds.0 in let high : n ≤ 2147483648 = leb-true n 2147483648 bounds.1 in
    let pair = same_Some (negsuc (n - 1), later) (z, rest) parts.1 in
    let one : negsuc (n - 1) ≡ z = ap (λ p. p.0) pair in let other : later ≡ rest = ap (λ p. p.1) pair in
    let takes = number_takes text n later b.1 in
    let back : n ≡ suc (n - 1) = omega arith in
    let fits : FitsSigned w32 (negsuc (n - 1)) = omega arith in
    let P : ℤ → Type 0 = FitsSigned w32 in
    (ap (λ l. 45 ∷ l) takes.0 ∙ (λ i. 45 ∷ (decimal (back i) ++ later)) ∙ (λ i. signed_decimal (one i) ++ other i), subst P one fits)

-- a signed number that is taken off stands at the front
pub signed_takes : (text : List ℕ) (z : ℤ) (rest : List ℕ) → signed_at text ≡ Some (z, rest) → (text ≡ signed_decimal z ++ rest) × FitsSigned w32 z
signed_takes [] z rest h = absurd (none-some (z, rest) h)
signed_takes (b ∷ text) z rest h = elim (cases_Bool (b == 45)) [
  | inl is ↦ (let here : option_and_then below (number_at text) ≡ Some (z, rest) =
      sym (ap (λ t. if t then option_and_then below (number_at text) else option_and_then small (number_at (b ∷ text))) is) ∙ h in
      let takes = below_takes text z rest here in
      let byte : b ≡ 45 = eqb-true b 45 is in (ap (λ k. k ∷ text) byte ∙ takes.0, takes.1))
  | inr not ↦ small_takes (b ∷ text) z rest
      (sym (ap (λ t. if t then option_and_then below (number_at text) else option_and_then small (number_at (b ∷ text))) not) ∙ h)
]

-- no number begins with a sign
abbrev NoSign : ℕ → List ℕ → Type 0
NoSign n ds = (rest : List ℕ) → signed_at (ds ++ rest) ≡ option_and_then small (number_at (ds ++ rest))

no_sign_one : (n : ℕ) → n < 10 → NoSign n ((48 + n) ∷ [])
no_sign_one n lt rest =
    let other : (48 + n ≡ 45) → ⊥ = λ e. omega arith in
    ap (λ t. if t then option_and_then below (number_at rest) else option_and_then small (number_at ((48 + n) ∷ rest))) (ne_eqb (48 + n) 45 other)

no_sign_more : (n : ℕ) (ds : List ℕ) → 10 ≤ n → NoSign (n / 10) ds → NoSign n (ds ++ (48 + n % 10) ∷ [])
no_sign_more n ds large before rest =
    let same = append_assoc ds ((48 + n % 10) ∷ []) rest in
    ap signed_at same ∙ before ((48 + n % 10) ∷ rest) ∙ sym (ap (λ l. option_and_then small (number_at l)) same)

-- a signed number at the front is taken off, where no digit stands behind it
pub signed_again : (z : ℤ) (rest : List ℕ) → FitsSigned w32 z → NoDigit rest → signed_at (signed_decimal z ++ rest) ≡ Some (z, rest)
signed_again (pos n) rest fits alone =
    let bound : n ≤ 2147483647 = omega (arith, fits) in
    decimal_by_steps NoSign no_sign_one no_sign_more n (omega arith) rest
    ∙ ap (option_and_then small) (number_again n rest (omega arith) alone)
    ∙ ap (λ t. if t then Some (pos n, rest) else None) (le-leb n 2147483647 bound)
signed_again (negsuc n) rest fits alone =
    let bound : suc n ≤ 2147483648 = omega (arith, fits) in
    let back : suc n - 1 ≡ n = omega arith in
    ap (option_and_then below) (number_again (suc n) rest (omega arith) alone)
    ∙ ap (λ t. if t then Some (negsuc (suc n - 1), rest) else None)
    (and_from (nat_le 1 (suc n)) (nat_le (suc n) 2147483648) (le-leb 1 (suc n) (omega arith)) (le-leb (suc n) 2147483648 bound))
    ∙ ap (λ k. Some (negsuc k, rest)) back
