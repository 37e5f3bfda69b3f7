-- For contracts between crates: nobody has to believe it.
-- Sums of powers by Horner's rule, in pairs. Coefficients stand from the highest down.
use Rattle.std.specs.Prelude.{List, [], ◌∷◌}
use Rattle.std.specs.Float.{float_zero}
use Rattle.k_math.specs.declared.pair.Pair.{Pair}
use Rattle.k_math.specs.Pairs.{single, sum_of, product_of}

-- one step: p z + c
unfoldable pub with_next : Pair → Pair → Pair → Pair
with_next z p c = sum_of (product_of p z) c

-- the steps for these coefficients, from p on
unfoldable pub series_from : Pair → Pair → List Pair → Pair
series_from z p [] = p
series_from z p (c ∷ cs) = series_from z (with_next z p c) cs

-- the steps for every second one
unfoldable pub second_from : Pair → Pair → List Pair → Pair
second_from z p [] = p
second_from z p (c ∷ []) = p
second_from z p (c ∷ d ∷ cs) = second_from z (with_next z p d) cs

-- the sum with all these coefficients
unfoldable pub series_of : Pair → List Pair → Pair
series_of z [] = single float_zero
series_of z (c ∷ cs) = series_from z c cs

-- the sum with the first coefficient, the third and so on
unfoldable pub alternate_of : Pair → List Pair → Pair
alternate_of z [] = single float_zero
alternate_of z (c ∷ cs) = second_from z c cs
