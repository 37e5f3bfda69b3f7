-- For contracts between crates: nobody has to believe it.
-- *Real conversions* (C17 6.3.1.4, 6.3.1.5, F.4).
use Rattle.std.specs.Prelude.{ℕ, ◌*◌, ◌/◌, if◌then◌else◌, ℤ, pos, neg_ℤ, Option, Some, None}
use Rattle.std.specs.Option.{option_and_then}
use Rattle.std.specs.Float.{Float, nan, inf, fin}
use Rattle.std.specs.Float.Ieee.{up, down, of_int}
use Rattle.k_num.specs.declared.numbers.Kind.{Kind}
use Rattle.k_num.specs.Kind.{is_held}
use Rattle.k_real.specs.declared.precision.Precision.{Precision}
use Rattle.k_real.specs.Codes.{format, real_of, code_of, rounded}

-- a whole number to a precision, rounded once
abbrev pub of_whole : Precision → ℤ → ℕ
of_whole p v = code_of (of_int (format p) v)

-- a code to a precision, rounded once (C17 6.3.1.5)
abbrev pub of_real : Precision → ℕ → ℕ
of_real p a = code_of (rounded p (real_of a))

-- a real without its fraction, the size m * 2 ^ e rounded down; the infinities and the NaN have no such number
unfoldable pub whole_part : Float → Option ℤ
whole_part nan = None
whole_part (inf s) = None
whole_part (fin s m e) = Some (if s then neg_ℤ (pos (m * up e / down e)) else pos (m * up e / down e))

-- the number, where the kind holds it
abbrev pub held : Kind → ℤ → Option ℤ
held kind v = if is_held kind v then Some v else None

-- a real to a kind: the number without its fraction, where there is one and the kind holds it; else the conversion traps
abbrev pub whole_of : Kind → ℕ → Option ℤ
whole_of kind a = option_and_then (held kind) (whole_part (real_of a))
