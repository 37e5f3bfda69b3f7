-- Believed with a public law.
-- A conversion as it is read from a text that begins behind a `%`: the relation of `Spelling`, from left to right.
use Rattle.std.specs.Prelude.{ℕ, ◌-◌, min, Bool, false, ◌==◌, if◌then◌else◌, List, [], ◌∷◌, length, drop, Option, Some, None}
use Rattle.std.specs.Char.{is_ascii_digit}
use Rattle.k_shaped.specs.declared.shape.Shape.{Shape}
use Rattle.k_shaped.specs.declared.shape.Length.{Length}
use Rattle.k_shaped.specs.declared.shape.Length.TheVariants.{Plain, Char, Short, Long, LongLong, Size, Greatest, Difference}
use Rattle.k_shaped.specs.declared.shape.Conversion.{Conversion}
use Rattle.k_shaped.specs.Accepted.{is_accepted}
use Rattle.k_shaped.specs.Spelling.{is_flag, has, value, spelling}

-- the bytes up to the first that fails a test
abbrev pub front : (ℕ → Bool) → List ℕ → List ℕ
front p [] = []
front p (b ∷ bs) = if p b then b ∷ front p bs else []

-- the bytes from the first on that fails a test
abbrev pub behind : (ℕ → Bool) → List ℕ → List ℕ
behind p [] = []
behind p (b ∷ bs) = if p b then behind p bs else b ∷ bs

-- the number at the front, where 4,096 stands for each greater one
unfoldable pub number : List ℕ → ℕ
number text = min 4096 (value 0 (front is_ascii_digit text))

-- a flag is among those at the front
unfoldable pub flagged : ℕ → List ℕ → Bool
flagged f text = has f (front is_flag text)

-- what stands behind the flags at the front
unfoldable pub behind_flags : List ℕ → List ℕ
behind_flags text = behind is_flag text

-- what stands behind the decimal digits at the front
unfoldable pub behind_digits : List ℕ → List ℕ
behind_digits text = behind is_ascii_digit text

-- the precision at the front
unfoldable pub precision : List ℕ → Option ℕ
precision [] = None
precision (b ∷ text) = if b == 46 then Some (number text) else None

-- what stands behind the precision at the front, if there is one: `.` and digits
unfoldable pub behind_precision : List ℕ → List ℕ
behind_precision [] = []
behind_precision (b ∷ text) = if b == 46 then behind_digits text else b ∷ text

-- a byte stands at the front
unfoldable pub begins : ℕ → List ℕ → Bool
begins b [] = false
begins b (c ∷ text) = c == b

-- the length that a byte begins
unfoldable pub length_from : ℕ → List ℕ → Length
length_from b text =
    if b == 104 then (if begins 104 text then Char else Short)
    else if b == 108 then (if begins 108 text then LongLong else Long)
    else if b == 122 then Size
    else if b == 106 then Greatest
    else if b == 116 then Difference
    else Plain

-- the length at the front
unfoldable pub length_at : List ℕ → Length
length_at [] = Plain
length_at (b ∷ text) = length_from b text

-- how many bytes spell a length
unfoldable pub bytes_of : Length → ℕ
bytes_of l = length (spelling l)

-- the shape of a conversion by its text, by what stands from its width on and behind its width, and by its letter
unfoldable pub shape_of : List ℕ → List ℕ → List ℕ → ℕ → Shape
shape_of text sized precise c =
    record { conversion = c; minus = flagged 45 text; plus = flagged 43 text; space = flagged 32 text; hash = flagged 35 text; zero = flagged 48 text; width = number sized; precision = precision precise }

-- a conversion, where a format may have it
unfoldable pub kept : Shape → Length → ℕ → Option Conversion
kept s l used = if is_accepted s l then Some (record { shape = s; length = l; used = used }) else None

-- the conversion that a letter ends
unfoldable pub ended : List ℕ → List ℕ → List ℕ → Length → List ℕ → Option Conversion
ended text sized precise l [] = None
ended text sized precise l (c ∷ rest) = kept (shape_of text sized precise c) l (length text - length rest)

-- by what stands behind the precision
unfoldable pub with_length : List ℕ → List ℕ → List ℕ → List ℕ → Option Conversion
with_length text sized precise long = ended text sized precise (length_at long) (drop (bytes_of (length_at long)) long)

-- the conversion at the front of a text
unfoldable pub read : List ℕ → Option Conversion
read text = with_length text (behind_flags text) (behind_digits (behind_flags text)) (behind_precision (behind_digits (behind_flags text)))
