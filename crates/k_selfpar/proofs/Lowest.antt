-- Lowest terms: dividing by the greatest common divisor reaches them, and they are unique.
use Rattle.std.specs.Prelude.{ℕ, zero, suc, ◌≡◌, refl, ◌+◌, ◌-◌, ◌*◌, ◌^◌, ◌/◌, ◌%◌, ◌<◌, ◌≤◌}
use Rattle.std.specs.Int.{◌∣◌, IsGcd}
use Rattle.std.proofs.Common.{arith, sym, ap, subst, ◌∙◌, inl, inr}
use Rattle.std.proofs.lemmas.Nat.Gcd.{le_of_dvd}
use Rattle.std.proofs.Math.Nat.{div-mul_cancel, div-le_self, dvd-mul_left, div-add-mod, mod-lt, pos_of_dvd_of_pos, le_of_mul-le-mul_left, eq_of_mul-eq-mul_right}
use Rattle.k_selfpar.specs.Ratio.{Divides, IsLowest, IsRatio, IsFraction, OneRatio, OneFraction}

-- std's divisibility, and that of the definitions
divides_of_dvd : (d n : ℕ) → d ∣ n → Divides d n
divides_of_dvd d n h = (n / d, sym (div-mul_cancel d h))

dvd_of_divides : (d n : ℕ) → Divides d n → d ∣ n
dvd_of_divides d n h = subst (λ m. d ∣ m) (sym h.1) (dvd-mul_left d h.0)

-- a divisor of two numbers divides a multiple of one and the other together
divides_sum : (d a n b : ℕ) → Divides d n → Divides d b → Divides d (n * a + b)
divides_sum d a n b h k = (h.0 * a + k.0, scaled d a n b h.0 k.0 h.1 k.1)
  where
    scaled : (d a n b x y : ℕ) → n ≡ x * d → b ≡ y * d → n * a + b ≡ (x * a + y) * d
    scaled d a n b x y e f = rw (e, f) (omega arith)

-- a step of Euclid's algorithm keeps lowest terms
lowest_step : (m n : ℕ) → IsLowest m n → IsLowest n (m % n)
lowest_step m n low d h k = low d (subst (Divides d) (div-add-mod m n) (divides_sum d (m / n) n (m % n) h k)) h

-- where n and b take the place of m = n * a + b and n, what is left of p takes the place of q
left_over : (n a b p q : ℕ) → 0 < n → (n * a + b) * q ≡ p * n → (a * q ≤ p) × (n * (p - a * q) ≡ q * b)
left_over n a b p q some e = (le, exactly (p - a * q) (omega (arith, le)))
  where
    le : a * q ≤ p
    le = le_of_mul-le-mul_left {k = n} (omega arith) some

    taken : (n a b q x : ℕ) → (n * a + b) * q ≡ (a * q + x) * n → n * x ≡ q * b
    taken n a b q x e = omega arith

    exactly : (x : ℕ) → p ≡ a * q + x → n * x ≡ q * b
    exactly x f = taken n a b q x (e ∙ ap (λ y. y * n) f)

-- p/q is m/n, each part times one number
abbrev IsMultiple : ℕ → ℕ → ℕ → ℕ → Type 0
IsMultiple m n p q = (k : ℕ) × (p ≡ k * m) × (q ≡ k * n)

multiple_step : (m n p q : ℕ) → (m / n) * q ≤ p → IsMultiple n (m % n) q (p - (m / n) * q) → IsMultiple m n p q
multiple_step m n p q le h =
    (h.0, whole (m / n) (m % n) p q h.0 le h.1 h.2 ∙ ap (λ y. h.0 * y) (div-add-mod m n), h.1)
  where
    scaled : (a b q k : ℕ) → q ≡ k * n → a * q + k * b ≡ k * (n * a + b)
    scaled a b q k e = rw e (omega arith)

    whole : (a b p q k : ℕ) → a * q ≤ p → q ≡ k * n → p - a * q ≡ k * b → p ≡ k * (n * a + b)
    whole a b p q k le e f = omega (arith, f, le, scaled a b q k e)

-- every fraction of the value of one in lowest terms is a multiple of it: by Euclid's algorithm on m and n
multiple : (fuel m n p q : ℕ) → n < fuel → IsLowest m n → m * q ≡ p * n → IsMultiple m n p q
multiple zero m n p q lt low e = absurd (omega arith)
multiple (suc fuel) m zero p q lt low e = (p, rw one (omega arith), none)
  where
    one : m ≡ 1
    one = low m (1, omega arith) (0, omega arith)

    none : q ≡ p * 0
    none = omega (arith, sym (ap (λ y. y * q) one) ∙ e)
multiple (suc fuel) m (suc n) p q lt low e =
    let step = left_over (suc n) (m / suc n) (m % suc n) p q (omega arith) (ap (λ y. y * q) (div-add-mod m (suc n)) ∙ e) in
    let less : m % suc n < suc n = mod-lt m (omega arith) in
    multiple_step m (suc n) p q step.0
    (multiple fuel (suc n) (m % suc n) q (p - (m / suc n) * q) (omega arith) (lowest_step m (suc n) low) step.1)

-- two fractions in lowest terms of one value have the same parts
same_parts : (m n p q : ℕ) → IsLowest m n → IsLowest p q → m * q ≡ p * n → (m ≡ p) × (n ≡ q)
same_parts m n p q low low' e = same (multiple (suc n) m n p q (omega arith) low e)
  where
    same : IsMultiple m n p q → (m ≡ p) × (n ≡ q)
    same h =
        let one : h.0 ≡ 1 = low' h.0 (m, omega (arith, h.1)) (n, omega (arith, h.2)) in
        (omega (arith, h.1, ap (λ k. k * m) one), omega (arith, h.2, ap (λ k. k * n) one))

pub one_fraction : OneFraction
one_fraction f g low low' e =
    let same = same_parts f.0 f.1 g.0 g.1 low.lowest low'.lowest e in
    λ i. (same.0 i, same.1 i)

pub one_ratio : OneRatio
one_ratio a b m n p q (inl h) (inl k) = (h.1 ∙ sym k.1, h.2 ∙ sym k.2)
one_ratio a b m n p q (inl h) (inr k) = absurd (omega (arith, h.0, k.0))
one_ratio a b m n p q (inr h) (inl k) = absurd (omega (arith, h.0, k.0))
one_ratio a b m n p q (inr h) (inr k) =
    same_parts m n p q h.3 k.3 (eq_of_mul-eq-mul_right b h.0 (m * q) (p * n) (crossed a b m n p q h.2 k.2))
  where
    crossed : (a b m n p q : ℕ) → m * b ≡ a * n → p * b ≡ a * q → (m * q) * b ≡ (p * n) * b
    crossed a b m n p q e f = omega (arith, ap (λ y. y * q) e, ap (λ y. y * n) f)

pub gcd_positive : (a b g : ℕ) → 0 < b → IsGcd a b g → 0 < g
gcd_positive a b g some h = pos_of_dvd_of_pos h.1 some

-- a product that is not 0 has no factor 0
factor_positive : (x y n : ℕ) → x * y ≡ n → 0 < n → 0 < x
factor_positive zero y n e some = absurd (omega arith)
factor_positive (suc x) y n e some = omega arith

-- what divides a quotient by g divides the number, times g
divides_scaled : (d g x n : ℕ) → x * g ≡ n → Divides d x → d * g ∣ n
divides_scaled d g x n e h = dvd_of_divides (d * g) n (h.0, omega (arith, e, ap (λ y. y * g) h.1))

-- a number times g is no more than g only for 0 and 1
at_most_one : (d g : ℕ) → 0 < g → 0 < d → d * g ≤ g → d ≡ 1
at_most_one zero g some more le = absurd (omega arith)
at_most_one (suc zero) g some more le = refl
at_most_one (suc (suc d)) g some more le = absurd (omega arith)

-- divided by the greatest common divisor, a and b are in lowest terms
quotients_lowest : (a b g : ℕ) → 0 < b → IsGcd a b g → IsLowest (a / g) (b / g)
quotients_lowest a b g some h d x y =
    let positive : 0 < g = gcd_positive a b g some h in
    let a_is : a / g * g ≡ a = div-mul_cancel g h.0 in
    let b_is : b / g * g ≡ b = div-mul_cancel g h.1 in
    let divides : d * g ∣ g = h.2 (d * g) (divides_scaled d g (a / g) a a_is x) (divides_scaled d g (b / g) b b_is y) in
    let more : 0 < b / g = factor_positive (b / g) g b b_is some in
    let d_more : 0 < d = factor_positive d y.0 (b / g) (omega (arith, y.1)) more in
    at_most_one d g positive d_more (le_of_dvd positive divides)

pub quotients_ratio : (a b g : ℕ) → 0 < b → IsGcd a b g → IsRatio a b (a / g) (b / g)
quotients_ratio a b g some h =
    let a_is : a / g * g ≡ a = div-mul_cancel g h.0 in
    let b_is : b / g * g ≡ b = div-mul_cancel g h.1 in
    inr (some, factor_positive (b / g) g b b_is some, value (a / g) (b / g) a_is b_is, quotients_lowest a b g some h)
  where
    value : (x y : ℕ) → x * g ≡ a → y * g ≡ b → x * b ≡ a * y
    value x y e f = omega (arith, ap (λ z. z * y) e, ap (λ z. x * z) f)

pub quotients_fraction : (a b g : ℕ) → 0 < b → a < 2 ^ 62 → b < 2 ^ 62 → IsGcd a b g → IsFraction (a / g, b / g)
quotients_fraction a b g some a_fits b_fits h = record {
  divisible = factor_positive (b / g) g b (div-mul_cancel g h.1) some;
  num_fits = omega (arith, div-le_self a g, a_fits);
  den_fits = omega (arith, div-le_self b g, b_fits);
  lowest = quotients_lowest a b g some h;
}

-- where a number is divided by 0, the ratio is that of 1 to 1
pub unit_ratio : (a b num den : ℕ) → b ≡ 0 → IsRatio 1 1 num den → IsRatio a b num den
unit_ratio a b num den none (inl h) = absurd (omega (arith, h.0))
unit_ratio a b num den none (inr h) =
    let same : num ≡ den = omega (arith, h.2) in
    let one : num ≡ 1 = h.3 num (1, omega arith) (1, omega (arith, same)) in
    inl (none, one, omega (arith, same, one))
