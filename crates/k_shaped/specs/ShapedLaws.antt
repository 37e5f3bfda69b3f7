-- Believed with a public law.
-- What holds of shaped texts, and of conversions as they are spelled and read.
use Rattle.std.specs.Prelude.{◌≡◌, ℕ, ◌≤◌, false, List, [], ◌∷◌, ◌++◌, length, codes, Option, Some, None, ℤ, pos, negsuc}
use Rattle.std.specs.Option.{option_map}
use Rattle.std.specs.Fmt.{digits, signed_decimal}
use Rattle.k_num.specs.Kind.{remainder}
use Rattle.k_num.specs.declared.numbers.Kind.TheVariants.{U8, U64}
use Rattle.k_real.specs.Codes.{real_of}
use Rattle.k_real.specs.Texts.{fixed_text}
use Rattle.k_real.specs.Scientific.{scientific_text}
use Rattle.k_real.specs.General.{general_text}
use Rattle.k_shaped.specs.declared.shape.Shape.{Shape}
use Rattle.k_shaped.specs.declared.shape.Length.{Length}
use Rattle.k_shaped.specs.Texts.{text, string_text, before_zero}
use Rattle.k_shaped.specs.Spelling.{Spells}
use Rattle.k_shaped.specs.Reading.{read}

-- a letter with no more than a precision
abbrev pub plain : ℕ → Option ℕ → Shape
plain c p =
    record { conversion = c; minus = false; plus = false; space = false; hash = false; zero = false; width = 0; precision = p }

-- a text has as many bytes as the width says, or more
abbrev pub NumbersAreWide : Type 0
NumbersAreWide = (s : Shape) (a : ℤ) → s.width ≤ length (text s a)

-- the text of a string has as many bytes as the width says, or more
abbrev pub StringsAreWide : Type 0
StringsAreWide = (s : Shape) (bytes : List ℕ) → s.width ≤ length (string_text s bytes)

-- without flags, width and precision whole numbers are in decimal with their sign, or in hexadecimal modulo 2^64, and bytes are modulo 256
abbrev pub PlainNumbers : Type 0
PlainNumbers =
    (a : ℤ) → (text (plain 100 None) a ≡ signed_decimal a) × (text (plain 105 None) a ≡ signed_decimal a) × (text (plain 117 None) a ≡ signed_decimal a)
    × (text (plain 120 None) a ≡ digits 16 false (remainder U64 a)) × (text (plain 99 None) a ≡ remainder U8 a ∷ [])

-- without flags, width and precision a string is its bytes before the first 0
abbrev pub PlainStrings : Type 0
PlainStrings = (bytes : List ℕ) → string_text (plain 115 None) bytes ≡ before_zero bytes

-- without flags and width reals have the texts of so many digits, and of six without a precision
abbrev pub PlainReals : Type 0
PlainReals =
    (p : ℕ) (a : ℤ) → (text (plain 102 (Some p)) a ≡ fixed_text p (real_of (remainder U64 a)))
    × (text (plain 101 (Some p)) a ≡ scientific_text p (remainder U64 a)) × (text (plain 103 (Some p)) a ≡ general_text p (remainder U64 a))
    × (text (plain 102 None) a ≡ fixed_text 6 (real_of (remainder U64 a)))
    × (text (plain 101 None) a ≡ scientific_text 6 (remainder U64 a)) × (text (plain 103 None) a ≡ general_text 6 (remainder U64 a))

-- what the conversion behind a `%` writes for a number
abbrev pub line : List ℕ → ℤ → Option (List ℕ)
line bytes a = option_map (λ c. text c.shape a) (read bytes)

-- lines worked out by hand; the last but three is of 3.25, by its code
abbrev pub WorkedLines : Type 0
WorkedLines =
    (line (codes "5d") (pos 42) ≡ Some (codes "   42")) × (line (codes "-5d|") (pos 42) ≡ Some (codes "42   "))
    × (line (codes "+d") (pos 42) ≡ Some (codes "+42")) × (line (codes "05d") (negsuc 41) ≡ Some (codes "-0042"))
    × (line (codes ".3d") (pos 42) ≡ Some (codes "042")) × (line (codes "8.3d") (negsuc 41) ≡ Some (codes "    -042"))
    × (line (codes "#x") (pos 255) ≡ Some (codes "0xff")) × (line (codes "#010X") (pos 255) ≡ Some (codes "0X000000FF"))
    × (line (codes "#o") (pos 0) ≡ Some (codes "0")) × (line (codes "#o") (pos 8) ≡ Some (codes "010"))
    × (line (codes ".0d") (pos 0) ≡ Some []) × (line (codes "5c") (pos 65) ≡ Some (codes "    A"))
    × (line (codes "10.3f") (pos 4614500768194494464) ≡ Some (codes "     3.250"))
    × (line (codes "#d") (pos 1) ≡ None) × (line (codes "+x") (pos 1) ≡ None) × (line (codes "4096d") (pos 1) ≡ None)

-- what spells a conversion is read as that, whatever stands behind
abbrev pub SpelledAreRead : Type 0
SpelledAreRead =
    (bytes rest : List ℕ) (s : Shape) (l : Length) → Spells bytes s l → read (bytes ++ rest) ≡ Some (record { shape = s; length = l; used = length bytes })

-- what is read was spelled at the front of the text
abbrev pub ReadAreSpelled : Type 0
ReadAreSpelled =
    (text : List ℕ) (s : Shape) (l : Length) (used : ℕ) → read text ≡ Some (record { shape = s; length = l; used = used })
    → (bytes rest : List ℕ) × (text ≡ bytes ++ rest) × (length bytes ≡ used) × Spells bytes s l

-- a text begins with one conversion at most
abbrev pub SpelledOnce : Type 0
SpelledOnce =
    (a b c d : List ℕ) (s t : Shape) (l m : Length) → a ++ b ≡ c ++ d → Spells a s l → Spells c t m
    → (s ≡ t) × (l ≡ m) × (length a ≡ length c)
