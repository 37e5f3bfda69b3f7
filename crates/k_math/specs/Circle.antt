-- For contracts between crates: nobody has to believe it.
-- Sine and cosine of an angle of at most a little above pi/4, by 14 and 15 terms.
use Rattle.std.specs.Prelude.{drop}
use Rattle.k_math.specs.declared.pair.Pair.{Pair}
use Rattle.k_math.specs.declared.tables.TheConstants.{FACTORIALS}
use Rattle.k_math.specs.Pairs.{negated_of, product_of}
use Rattle.k_math.specs.Series.{alternate_of}

-- the sine: a times a sum in -a^2 with 1/3!, 1/5!, ..
unfoldable pub sine_of : Pair → Pair
sine_of a = product_of (alternate_of (negated_of (product_of a a)) (drop 1 FACTORIALS)) a

-- the cosine: a sum in -a^2 with 1, 1/2!, 1/4!, ..
unfoldable pub cosine_of : Pair → Pair
cosine_of a = alternate_of (negated_of (product_of a a)) FACTORIALS
