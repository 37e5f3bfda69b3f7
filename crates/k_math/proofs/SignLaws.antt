-- The signs of reals.
use Rattle.std.proofs.Common.{◌≡◌, refl}
use Rattle.std.specs.Prelude.{true, false}
use Rattle.std.specs.Float.{Float, nan, inf, fin, is_sign_negative, float_with_sign}
use Rattle.std.specs.Float.Ieee.{is_nan, neg}

-- the NaN has none
pub unsigned : (x : Float) → is_nan x ≡ true → false ≡ is_sign_negative x
unfolding is_nan is_sign_negative
unsigned nan h = refl
unsigned (inf s) h = cc
unsigned (fin s m e) h = cc

-- a size turned is negative
pub turned_size : (x : Float) → neg (float_with_sign false x) ≡ float_with_sign true x
unfolding neg float_with_sign
turned_size nan = refl
turned_size (inf s) = refl
turned_size (fin s m e) = refl
