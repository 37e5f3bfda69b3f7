-- For contracts between crates: nobody has to believe it.
-- The logarithms: of m 2^e, with m from sqrt(1/2) to below sqrt 2, it is e ln 2 + 2 artanh((m - 1) / (m + 1)), by 25 terms.
use Rattle.std.specs.Prelude.{Bool, false, ℤ, pos, ◌-ℤ◌, ◌&&◌, if◌then◌else◌, drop}
use Rattle.std.specs.Float.{Float, binary64, nan, inf, float_zero}
use Rattle.std.specs.Float.Ieee.{neg, lt, eq, of_int}
use Rattle.k_math.specs.declared.pair.Pair.{Pair}
use Rattle.k_math.specs.declared.pair.TheConstants.{ONE, TWO}
use Rattle.k_math.specs.declared.scaling.Parts.{Parts}
use Rattle.k_math.specs.declared.tables.TheConstants.{LN_2_FIRST, LN_2_SECOND, LN_2_THIRD, LOG2_E, LOG10_E, ODD_NUMBERS}
use Rattle.k_math.specs.declared.logarithm.TheConstants.{ROOT_HALF}
use Rattle.k_math.specs.Doubles.{◌-ᶠ◌, ◌*ᶠ◌}
use Rattle.k_math.specs.Pairs.{single, exact_sum_of, sum_of, product_of, quotient_of}
use Rattle.k_math.specs.Scaling.{parts_of}
use Rattle.k_math.specs.Series.{series_of}

-- 2 artanh s
unfoldable pub twice_artanh : Pair → Pair
twice_artanh s = product_of (product_of (series_of (product_of s s) (drop 1 ODD_NUMBERS)) s) (single TWO)

-- ln m
unfoldable pub log_of_fraction : Float → Pair
log_of_fraction m = twice_artanh (quotient_of (single (m -ᶠ ONE)) (exact_sum_of m ONE))

-- k ln 2 + p, in the three parts of ln 2
unfoldable pub with_multiple : Float → Pair → Pair
with_multiple k p = sum_of (sum_of (single (k *ᶠ LN_2_FIRST)) (single (k *ᶠ LN_2_SECOND))) (sum_of (single (k *ᶠ LN_2_THIRD)) p)

-- ln (m 2^e)
unfoldable pub log_by : Float → ℤ → Pair
log_by m e = with_multiple (of_int binary64 e) (log_of_fraction m)

-- ln of a number in parts, its fraction taken from the root of 1/2 up to that of 2
unfoldable pub log_from : Parts → Pair
log_from p = if lt p.fraction ROOT_HALF then log_by (p.fraction *ᶠ TWO) (p.exponent -ℤ pos 1) else log_by p.fraction p.exponent

-- ln x, of a positive finite x
unfoldable pub log_of_positive : Float → Pair
log_of_positive x = log_from (parts_of x)

-- x is above 0 and no infinity
abbrev pub is_positive_finite : Float → Bool
is_positive_finite x = lt float_zero x && lt x (inf false)

-- of any other x: a zero, the infinity, a negative number or the NaN
unfoldable pub log_at_edge : Float → Float
log_at_edge x = if eq x float_zero then neg (inf false) else (if eq x (inf false) then x else nan)

-- `log` of a double
unfoldable pub log_of : Float → Float
log_of x = if is_positive_finite x then (log_of_positive x).high else log_at_edge x

-- the logarithm to a base whose 1 / ln is given: of a positive finite x, and else as `log` has it
unfoldable pub log_to : Pair → Float → Float
log_to base x = if is_positive_finite x then (product_of (log_of_positive x) base).high else log_at_edge x

-- `log2` of a double
abbrev pub log2_of : Float → Float
log2_of = log_to LOG2_E

-- `log10` of a double
abbrev pub log10_of : Float → Float
log10_of = log_to LOG10_E
