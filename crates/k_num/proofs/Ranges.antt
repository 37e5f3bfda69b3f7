-- Every kind's values lie from -2^63 to 2^64 - 1, so that sums, differences, products of signed values and quotients fit an i128.
use Rattle.std.proofs.Common.{arith, ◌≡◌, ◌^◌, ◌-◌, ◌*◌, ◌≤◌, IsTrue, true, false, ℕ, zero, suc, pos, negsuc, neg_ℤ, ℤ, ◌+ℤ◌, ◌-ℤ◌, ◌*ℤ◌, ◌≤ℤ◌, ◌<ℤ◌, FitsSigned, to_z, of_z, refl, ap, ◌∙◌}
use Rattle.std.specs.Prelude.{unsigned_abs, int_div, int_rem}
use Rattle.std.specs.Int.{w128}
use Rattle.std.proofs.lemmas.Int.{ints, fits_signed_mul, fits_signed_from_abs, to_z-of_z, rem_is, quot-rem}
use Rattle.std.proofs.Math.Nat.{div-le_self}
use Rattle.k_num.specs.declared.numbers.Kind.{Kind}
use Rattle.k_num.specs.declared.numbers.Kind.TheVariants.{I8, U8, I16, U16, I32, U32, I64, U64}
use Rattle.k_num.specs.Kind.{is_held, is_signed}

pub record InRange (v : ℤ) : Type 0 where
  pub low : negsuc (2 ^ 63 - 1) ≤ℤ v
  pub high : v <ℤ pos (2 ^ 64)

pub held_range : (kind : Kind) (v : ℤ) → IsTrue (is_held kind v) → InRange v
held_range I8 v h = record { low = grind (arith, ints); high = grind (arith, ints) }
held_range U8 v h = record { low = grind (arith, ints); high = grind (arith, ints) }
held_range I16 v h = record { low = grind (arith, ints); high = grind (arith, ints) }
held_range U16 v h = record { low = grind (arith, ints); high = grind (arith, ints) }
held_range I32 v h = record { low = grind (arith, ints); high = grind (arith, ints) }
held_range U32 v h = record { low = grind (arith, ints); high = grind (arith, ints) }
held_range I64 v h = record { low = grind (arith, ints); high = grind (arith, ints) }
held_range U64 v h = record { low = grind (arith, ints); high = grind (arith, ints) }

-- an unsigned kind holds no negative number
pub held_natural : (kind : Kind) (v : ℤ) → is_signed kind ≡ false → IsTrue (is_held kind v) → pos 0 ≤ℤ v
held_natural I8 v e h = cc
held_natural U8 v e h = grind (arith, ints)
held_natural I16 v e h = cc
held_natural U16 v e h = grind (arith, ints)
held_natural I32 v e h = cc
held_natural U32 v e h = grind (arith, ints)
held_natural I64 v e h = cc
held_natural U64 v e h = grind (arith, ints)

-- a signed kind holds nothing beyond 2^63
pub held_signed : (kind : Kind) (v : ℤ) → is_signed kind ≡ true → IsTrue (is_held kind v) → v <ℤ pos (2 ^ 63)
held_signed I8 v e h = grind (arith, ints)
held_signed U8 v e h = cc
held_signed I16 v e h = grind (arith, ints)
held_signed U16 v e h = cc
held_signed I32 v e h = grind (arith, ints)
held_signed U32 v e h = cc
held_signed I64 v e h = grind (arith, ints)
held_signed U64 v e h = cc

pub abs_below : (v : ℤ) → InRange v → unsigned_abs v ≤ 2 ^ 64
abs_below (pos n) r = let high = r.high in omega (arith, ints)
abs_below (negsuc n) r = let low = r.low in omega (arith, ints)

pub abs_signed : (v : ℤ) → InRange v → v <ℤ pos (2 ^ 63) → unsigned_abs v ≤ 2 ^ 63
abs_signed (pos n) r h = omega (arith, ints)
abs_signed (negsuc n) r h = let low = r.low in omega (arith, ints)

pub fits_sum : (a b : ℤ) → InRange a → InRange b → FitsSigned w128 (a +ℤ b)
fits_sum a b p q = omega (arith, ints)

pub fits_difference : (a b : ℤ) → InRange a → InRange b → FitsSigned w128 (a -ℤ b)
fits_difference a b p q = omega (arith, ints)

pub fits_product : (kind : Kind) (a b : ℤ) → is_signed kind ≡ true → IsTrue (is_held kind a) → IsTrue (is_held kind b) → FitsSigned w128 (a *ℤ b)
fits_product kind a b e p q =
    fits_signed_mul w128 a b (2 ^ 63) (2 ^ 63) (abs_signed a (held_range kind a p) (held_signed kind a e p))
    (abs_signed b (held_range kind b q) (held_signed kind b e q)) (omega arith)

natural_product_from : (a b : ℤ) (m n : ℕ) → pos m ≡ a → pos n ≡ b → pos (m * n) ≡ a *ℤ b
natural_product_from a b m n p q = ap (λ x. x *ℤ pos n) p ∙ ap (λ x. a *ℤ x) q

abs_neg : (n : ℕ) → unsigned_abs (neg_ℤ (pos n)) ≡ n
abs_neg zero = refl
abs_neg (suc n) = refl

abs_quotient : (a b : ℤ) → unsigned_abs (int_div a b) ≤ unsigned_abs a
abs_quotient (pos a) (pos b) = div-le_self a b
abs_quotient (pos a) (negsuc b) = rw abs_neg (div-le_self a (suc b))
abs_quotient (negsuc a) (pos b) = rw abs_neg (div-le_self (suc a) b)
abs_quotient (negsuc a) (negsuc b) = div-le_self (suc a) (suc b)

pub fits_quotient : (a b : ℤ) → InRange a → FitsSigned w128 (int_div a b)
fits_quotient a b r = fits_signed_from_abs w128 (int_div a b) (omega (arith, abs_quotient a b, abs_below a r))

-- what the bits of two values that fit give is the product of the values
pub product_is : (a b : ℤ) → FitsSigned w128 a → FitsSigned w128 b → FitsSigned w128 (a *ℤ b)
    → to_z w128 (of_z w128 (to_z w128 (of_z w128 a) *ℤ to_z w128 (of_z w128 b))) ≡ a *ℤ b
product_is a b p q r = simp to_z-of_z

natural_abs : (v : ℤ) → FitsSigned w128 v → pos 0 ≤ℤ v → pos (unsigned_abs (to_z w128 (of_z w128 v))) ≡ v
natural_abs v f h = rw to_z-of_z (natural v h)
  where
    natural : (v : ℤ) → pos 0 ≤ℤ v → pos (unsigned_abs v) ≡ v
    natural (pos n) h = refl
    natural (negsuc n) h = absurd (omega (arith, ints))

pub natural_product_is : (kind : Kind) (a b : ℤ) → FitsSigned w128 a → FitsSigned w128 b → is_signed kind ≡ false → IsTrue (is_held kind a) → IsTrue (is_held kind b)
    → pos (unsigned_abs (to_z w128 (of_z w128 a)) * unsigned_abs (to_z w128 (of_z w128 b))) ≡ a *ℤ b
natural_product_is kind a b f g e p q =
    natural_product_from a b _ _ (natural_abs a f (held_natural kind a e p)) (natural_abs b g (held_natural kind b e q))

pub rest_is : (a b : ℤ) → FitsSigned w128 a → FitsSigned w128 b
    → to_z w128 (of_z w128 (int_rem (to_z w128 (of_z w128 a)) (to_z w128 (of_z w128 b)))) ≡ a -ℤ (int_div a b *ℤ b)
rest_is a b f g = rem_is w128 a b f g ∙ (let split = quot-rem a b in omega (arith, ints))
