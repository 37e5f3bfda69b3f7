-- Codes stand for the reals that they were made of.
use Rattle.std.specs.Prelude.{ℕ, ◌*◌, T}
use Rattle.std.specs.Float.{Float, binary32, binary64, nan, inf, fin, round_to_format}
use Rattle.std.specs.Float.Ieee.{fits, up, down, add, sub, mul, div, neg, of_int}
use Rattle.std.specs.Float.Ieee.Bits.{of_bits-to_bits, of_bits-fits}
use Rattle.std.specs.Float.Ieee.Fits.{add-fits, sub-fits, mul-fits, div-fits, neg-fits, of_int-fits, round-fits, nan-fits, inf-fits, fits_widens}
use Rattle.k_real.specs.declared.precision.Precision.{Precision}
use Rattle.k_real.specs.declared.precision.Precision.TheVariants.{Single, Double}
use Rattle.k_real.specs.Codes.{format, real_of, rounded}
use Rattle.k_real.specs.RealLaws.{IsHeld, CodesAreHeld, ResultsAreHeld, ConvertedAreHeld, NegatedAreHeld}

in_double : (p : Precision) (x : Float) → T (fits (format p) x) → T (fits binary64 x)
in_double Single x h = fits_widens x h
in_double Double x h = h

held : (p : Precision) (x : Float) → T (fits (format p) x) → IsHeld x
held p x h = of_bits-to_bits binary64 x (in_double p x h)

pub codes_are_held : CodesAreHeld
codes_are_held a = held Double (real_of a) (of_bits-fits binary64 a)

pub results_are_held : ResultsAreHeld
results_are_held p x y =
    let f = format p in
    (held p (add f x y) (add-fits f x y), held p (sub f x y) (sub-fits f x y), held p (mul f x y) (mul-fits f x y), held p (div f x y) (div-fits f x y))

pub negated_are_held : NegatedAreHeld
negated_are_held a = held Double (neg (real_of a)) (neg-fits binary64 (real_of a) (of_bits-fits binary64 a))

narrowed_fits : (x : Float) → T (fits binary32 (round_to_format binary32 x))
unfolding round_to_format
narrowed_fits nan = nan-fits binary32
narrowed_fits (inf s) = inf-fits binary32 s
narrowed_fits (fin s m e) = round-fits binary32 s (m * up e) (down e)

pub rounded_fits : (p : Precision) (a : ℕ) → T (fits (format p) (rounded p (real_of a)))
rounded_fits Single a = narrowed_fits (real_of a)
rounded_fits Double a = of_bits-fits binary64 a

pub converted_are_held : ConvertedAreHeld
converted_are_held p v a = (held p (of_int (format p) v) (of_int-fits (format p) v), held p (rounded p (real_of a)) (rounded_fits p a))
