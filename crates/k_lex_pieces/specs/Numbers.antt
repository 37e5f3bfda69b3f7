-- Believed with the theorem on the top call.
-- Integer constants and their kinds (C17 6.4.4.1).
use Rattle.std.specs.Prelude.{ℕ, ◌+◌, ◌*◌, Bool, true, false, ◌||◌, List, [], ◌∷◌, Option, Some, None, nat_le, ◌==◌, if◌then◌else◌, take, drop, codes}
use Rattle.k_num.specs.declared.numbers.Kind.{Kind}
use Rattle.k_num.specs.declared.numbers.Kind.TheVariants.{I8, U8, I16, U16, I32, U32, I64, U64}
use Rattle.k_lex_pieces.specs.Bytes.{is_digit, is_octal, is_hexadecimal, digit_value, span, begins, look_up}

-- the suffixes, with whether they have a `u` and an `l`
abbrev pub suffixes : List (List ℕ × (Bool × Bool))
suffixes =
    ([], (false, false)) ∷
    (codes "u", (true, false)) ∷
    (codes "U", (true, false)) ∷
    (codes "l", (false, true)) ∷
    (codes "L", (false, true)) ∷
    (codes "ll", (false, true)) ∷
    (codes "LL", (false, true)) ∷
    (codes "ul", (true, true)) ∷
    (codes "lu", (true, true)) ∷
    (codes "uL", (true, true)) ∷
    (codes "Lu", (true, true)) ∷
    (codes "ull", (true, true)) ∷
    (codes "llu", (true, true)) ∷
    (codes "uLL", (true, true)) ∷
    (codes "LLu", (true, true)) ∷
    (codes "Ul", (true, true)) ∷
    (codes "lU", (true, true)) ∷
    (codes "UL", (true, true)) ∷
    (codes "LU", (true, true)) ∷
    (codes "Ull", (true, true)) ∷
    (codes "llU", (true, true)) ∷
    (codes "ULL", (true, true)) ∷
    (codes "LLU", (true, true)) ∷
    []

-- the kinds of a constant, in the order in which they are tried (C17 6.4.4.1p5)
abbrev pub kinds : Bool → Bool × Bool → List Kind
kinds decimal (true, true) = U64 ∷ []
kinds decimal (true, false) = U32 ∷ U64 ∷ []
kinds true (false, true) = I64 ∷ []
kinds false (false, true) = I64 ∷ U64 ∷ []
kinds true (false, false) = I32 ∷ I64 ∷ []
kinds false (false, false) = I32 ∷ U32 ∷ I64 ∷ U64 ∷ []

-- the greatest value of a kind (C17 5.2.4.2.1)
abbrev pub greatest : Kind → ℕ
greatest I8 = 127
greatest U8 = 255
greatest I16 = 32767
greatest U16 = 65535
greatest I32 = 2147483647
greatest U32 = 4294967295
greatest I64 = 9223372036854775807
greatest U64 = 18446744073709551615

-- the first of the kinds that holds the value, with the value
abbrev pub first_kind : List Kind → ℕ → Option (Kind × ℕ)
first_kind [] v = None
first_kind (k ∷ ks) v = if nat_le v (greatest k) then Some (k, v) else first_kind ks v

-- the number that the digits write behind those of so_far
abbrev pub value : ℕ → ℕ → List ℕ → ℕ
value base so_far [] = so_far
value base so_far (d ∷ ds) = value base (so_far * base + digit_value d) ds

-- the value in the first kind that the suffix lets it have and that holds it
abbrev pub with_suffix : Bool → ℕ → Option (Bool × Bool) → Option (Kind × ℕ)
with_suffix decimal v None = None
with_suffix decimal v (Some suffix) = first_kind (kinds decimal suffix) v

-- n digits and a suffix
abbrev pub constant : ℕ → ℕ → List ℕ → Option (Kind × ℕ)
constant base n text =
    if n == 0 then None
    else with_suffix (base == 10) (value base 0 (take n text)) (look_up suffixes (drop n text))

-- what a number token means, where it is an integer constant
abbrev pub number_of : List ℕ → Option (Kind × ℕ)
number_of s =
    if begins (codes "0x") s || begins (codes "0X") s then constant 16 (span is_hexadecimal (drop 2 s)) (drop 2 s)
    else (if begins (codes "0") s then constant 8 (span is_octal s) s
    else constant 10 (span is_digit s) s)
