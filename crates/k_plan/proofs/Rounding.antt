-- A number divided by another, rounded up.
use Rattle.std.proofs.Common.{ℕ, ◌+◌, ◌*◌, ◌<◌, ◌≤◌, arith}
use Rattle.std.proofs.Math.Nat.{lt_of_mul-lt-mul_right, mul-le-mul_left, mul-le-mul_right}
use Rattle.std.proofs.lemmas.Grind.{div_ceil_times}
use Rattle.std.specs.Int.{div_ceil}

-- it is the least whole number that is no less than the quotient
pub rounds_up : (a b n : ℕ) → 0 < b → (div_ceil a b ≤ n → a ≤ n * b) × (a ≤ n * b → div_ceil a b ≤ n)
rounds_up a b n some =
    let is = div_ceil_times a b some in
    (λ le. through is.0 (mul-le-mul_right b le), λ le. least (div_ceil a b) is.1 le)
  where
    through : {x y z : ℕ} → x ≤ y → y ≤ z → x ≤ z
    through e f = omega arith

    least : (d : ℕ) → d * b < a + b → a ≤ n * b → d ≤ n
    least d lt le =
        let more : d * b < (n + 1) * b = grind arith in
        let under : d < n + 1 = lt_of_mul-lt-mul_right b more in
        omega arith

-- work divided by a fraction that is 1 or more is no more than the work
pub part_of_work : (work num den : ℕ) → 0 < den → den ≤ num → div_ceil (work * den) num ≤ work
part_of_work work num den some le = (rounds_up (work * den) num work (omega arith)).1 (mul-le-mul_left work le)
