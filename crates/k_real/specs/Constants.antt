-- For contracts between crates: nobody has to believe it.
-- The value of a decimal floating constant without its suffix (C17 6.4.4.2): the exact number, rounded once to its precision.
use Rattle.std.specs.Prelude.{ℕ, Bool, false, ◌&&◌, ◌||◌, ◌==◌, if◌then◌else◌, List, [], ◌∷◌, Option, Some, None}
use Rattle.std.specs.Option.{option_and_then}
use Rattle.std.specs.Char.{is_ascii_digit}
use Rattle.std.specs.Float.{Float, float_is_finite}
use Rattle.std.specs.Float.Parse.{parse_float}
use Rattle.k_real.specs.declared.precision.Precision.{Precision}
use Rattle.k_real.specs.Codes.{format, code_of}

-- it begins with a digit or a point
abbrev pub begins_number : List ℕ → Bool
begins_number [] = false
begins_number (b ∷ bs) = is_ascii_digit b || b == 46

-- a point, an `e` or an `E` stands in it, so that it is no integer
abbrev pub is_no_integer : List ℕ → Bool
is_no_integer [] = false
is_no_integer (b ∷ bs) = ((b == 46 || b == 101) || b == 69) || is_no_integer bs

-- the code of a finite real
abbrev pub finite_code : Float → Option ℕ
finite_code x = if float_is_finite x then Some (code_of x) else None

-- the code of the number that the text writes; none where it writes none, and where that rounds to an infinity
abbrev pub constant : Precision → List ℕ → Option ℕ
constant p text = if begins_number text && is_no_integer text then option_and_then finite_code (parse_float (format p) text) else None
