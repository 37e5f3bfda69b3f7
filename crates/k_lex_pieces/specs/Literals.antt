-- Believed with the theorem on the top call.
-- What is in a literal: characters and escapes (C17 6.4.4.4, 6.4.5).
use Rattle.std.specs.Prelude.{ℕ, ℤ, pos, ◌-ℤ◌, zero, suc, ◌-◌, Bool, false, List, [], ◌∷◌, Option, Some, None, Result, Ok, nat_le, nat_lt, ◌==◌, if◌then◌else◌, length, take, drop, codes}
use Rattle.k_num.specs.declared.place.Place.{Place}
use Rattle.k_lex_pieces.specs.declared.fault.Fault.{Fault}
use Rattle.k_lex_pieces.specs.declared.fault.Refusal.TheVariants.{BadByte, BadEscape}
use Rattle.k_lex_pieces.specs.Bytes.{is_octal, is_hexadecimal, span, look_up, after}
use Rattle.k_lex_pieces.specs.Pieces.{escape_length, item_length}
use Rattle.k_lex_pieces.specs.Numbers.{value}
use Rattle.k_lex_pieces.specs.Outcome.{◌>>=◌, refused}

-- the simple escapes, without their backslash
abbrev pub simple_escapes : List (List ℕ × ℕ)
simple_escapes =
    (codes "'", 39) ∷
    (codes "\"", 34) ∷
    (codes "?", 63) ∷
    (codes "\\", 92) ∷
    (codes "a", 7) ∷
    (codes "b", 8) ∷
    (codes "f", 12) ∷
    (codes "n", 10) ∷
    (codes "r", 13) ∷
    (codes "t", 9) ∷
    (codes "v", 11) ∷
    []

-- the value of the hexadecimal digits behind `\x`, of which there is at least one
abbrev pub hexadecimal_value : List ℕ → Option ℕ
hexadecimal_value bs = if span is_hexadecimal bs == 0 then None else Some (value 16 0 (take (span is_hexadecimal bs) bs))

-- the value of the escape that the text behind a backslash begins with
abbrev pub escape_value : List ℕ → Option ℕ
escape_value [] = None
escape_value (b ∷ bs) =
    if is_octal b then Some (value 8 0 (take (escape_length (b ∷ bs)) (b ∷ bs)))
    else (if b == 120 then hexadecimal_value bs
    else look_up simple_escapes (b ∷ []))

-- a value has to be that of a byte
abbrev pub in_byte : Option ℕ → Option ℕ
in_byte None = None
in_byte (Some v) = if nat_le v 255 then Some v else None

-- the value of an escape, or BadEscape at its backslash
abbrev pub byte_or_fault : Place → Option ℕ → Result ℕ Fault
byte_or_fault p None = refused BadEscape p
byte_or_fault p (Some v) = Ok v

-- the byte that the first character or escape of the text stands for
abbrev pub item_at : Place → List ℕ → Result ℕ Fault
item_at p [] = refused BadEscape p
item_at p (b ∷ bs) = if b == 92 then byte_or_fault p (in_byte (escape_value bs)) else Ok b

-- the bytes that a text stands for, of which the first skip bytes belong to what came before
abbrev pub content : Place → ℕ → List ℕ → Result (List ℕ) Fault
content p skip [] = Ok []
content p (suc skip) (b ∷ bs) = content (after p b) skip bs
content p zero (b ∷ bs) = item_at p (b ∷ bs) >>= λ v. content (after p b) (item_length (b ∷ bs) - 1) bs >>= λ vs. Ok (v ∷ vs)

-- a literal without its quotes
abbrev pub inside : List ℕ → List ℕ
inside s = take (length s - 2) (drop 1 s)

-- the value of a byte as a char, which is signed (C17 6.4.4.4p10)
abbrev pub as_char : ℕ → ℤ
as_char b = if nat_lt b 128 then pos b else pos b -ℤ pos 256

-- the first byte is 128 or more
abbrev pub begins_high : List ℕ → Bool
begins_high [] = false
begins_high (b ∷ bs) = nat_le 128 b

-- the value of a character constant without its quotes (C17 6.4.4.4p10)
abbrev pub character_of : Place → List ℕ → Result ℤ Fault
character_of p text = if begins_high text then refused BadByte p else item_at p text >>= λ v. Ok (as_char v)
