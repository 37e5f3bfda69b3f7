-- Believed with a public law.
-- What is taken off the front of a text, and what stood there: the statements of the laws.
use Rattle.std.specs.Prelude.{ℕ, ℤ, ◌^◌, ◌<◌, ◌≡◌, true, List, ◌++◌, Some, FitsSigned}
use Rattle.std.specs.Int.{w32}
use Rattle.std.specs.Fmt.{decimal, signed_decimal}
use Rattle.k_scan.specs.Names.{NoNameByte, is_name, name_at}
use Rattle.k_scan.specs.Numbers.{NoDigit, number_at, signed_at}
use Rattle.k_scan.specs.Pieces.{word_at}

-- a word that is taken off stood there
abbrev pub WordTakes : Type 0
WordTakes = (word text rest : List ℕ) → word_at word text ≡ Some rest → text ≡ word ++ rest

-- a word that stands there is taken off
abbrev pub WordAgain : Type 0
WordAgain = (word rest : List ℕ) → word_at word (word ++ rest) ≡ Some rest

-- a number that is taken off stood there in decimal, and is below 2 ^ 64
abbrev pub NumberTakes : Type 0
NumberTakes = (text : List ℕ) (n : ℕ) (rest : List ℕ) → number_at text ≡ Some (n, rest) → (text ≡ decimal n ++ rest) × (n < 2 ^ 64)

-- a number that stands there in decimal, with no digit behind it, is taken off
abbrev pub NumberAgain : Type 0
NumberAgain = (n : ℕ) (rest : List ℕ) → n < 2 ^ 64 → NoDigit rest → number_at (decimal n ++ rest) ≡ Some (n, rest)

-- a signed number that is taken off stood there in decimal, and has 32 bits
abbrev pub SignedTakes : Type 0
SignedTakes = (text : List ℕ) (z : ℤ) (rest : List ℕ) → signed_at text ≡ Some (z, rest) → (text ≡ signed_decimal z ++ rest) × FitsSigned w32 z

-- a signed number that stands there in decimal, with no digit behind it, is taken off
abbrev pub SignedAgain : Type 0
SignedAgain = (z : ℤ) (rest : List ℕ) → FitsSigned w32 z → NoDigit rest → signed_at (signed_decimal z ++ rest) ≡ Some (z, rest)

-- a name that is taken off stood there
abbrev pub NameTakes : Type 0
NameTakes = (text name rest : List ℕ) → name_at text ≡ Some (name, rest) → (text ≡ name ++ rest) × (is_name name ≡ true)

-- a name that stands there, with no byte of a name behind it, is taken off
abbrev pub NameAgain : Type 0
NameAgain = (name rest : List ℕ) → is_name name ≡ true → NoNameByte rest → name_at (name ++ rest) ≡ Some (name, rest)
