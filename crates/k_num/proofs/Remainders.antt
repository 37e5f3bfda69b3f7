-- The remainder of a number modulo a power of two is that of its bits.
use Rattle.std.proofs.Common.{arith, ◌≡◌, ◌^◌, ◌-◌, ◌*◌, ◌%◌, ◌<◌, ℕ, suc, pos, negsuc, ℤ, FitsSigned, to_z, of_z, refl, ap, sym, ◌∙◌}
use Rattle.std.specs.Prelude.{unsigned_abs}
use Rattle.std.specs.Int.{w128, int_rem_euclid}
use Rattle.std.proofs.lemmas.Int.{ints, int_rem_euclid_is, to_z-of_z}
use Rattle.std.proofs.lemmas.Nat.{pow_pos}
use Rattle.k_num.specs.declared.numbers.Kind.{Kind}
use Rattle.k_num.specs.declared.numbers.Kind.TheVariants.{I8, U8, I16, U16, I32, U32, I64, U64}
use Rattle.k_num.specs.Kind.{width, remainder}

-- 2^128 is a multiple of 2^n
whole : (kind : Kind) → 2 ^ (128 - width kind) * 2 ^ width kind ≡ 2 ^ 128
whole I8 = refl
whole U8 = refl
whole I16 = refl
whole U16 = refl
whole I32 = refl
whole U32 = refl
whole I64 = refl
whole U64 = refl

low_bits_from : (v : ℤ) (m k : ℕ) → 0 < m → k * m ≡ 2 ^ 128 → FitsSigned w128 v → of_z w128 v % m ≡ unsigned_abs (int_rem_euclid v (pos m))
low_bits_from (pos a) m k some e f = refl
low_bits_from (negsuc a) m k some e f =
    sym (ap unsigned_abs (int_rem_euclid_is (negsuc a) (pos m) m k (2 ^ 128 - suc a) some refl (omega (arith, ints))))

pub low_bits_of : (kind : Kind) (v : ℤ) → FitsSigned w128 v → of_z w128 (to_z w128 (of_z w128 v)) % 2 ^ width kind ≡ remainder kind v
low_bits_of kind v f =
    ap (λ x. of_z w128 x % 2 ^ width kind) (to_z-of_z w128 v f)
    ∙ low_bits_from v (2 ^ width kind) (2 ^ (128 - width kind)) (pow_pos (width kind)) (whole kind) f
