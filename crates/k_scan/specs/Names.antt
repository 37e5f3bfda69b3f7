-- Believed with the theorem on the top call.
-- Names at the front of a text (C17 6.4.2.1), which are no keywords (C17 6.4.1).
use Rattle.std.specs.Prelude.{ℕ, suc, ◌≡◌, Bool, true, false, ◌&&◌, ◌||◌, not, List, [], ◌∷◌, Option, Some, None, nat_eq, nat_le, ◌==◌, if◌then◌else◌, take, drop, codes}
use Rattle.std.specs.Cmp.Lexicographic.{pointwise}
use Rattle.std.specs.List.{list_any}
use Rattle.k_scan.specs.Numbers.{is_digit}

-- a letter or `_`
abbrev pub is_letter : ℕ → Bool
is_letter b = (nat_le 97 b && nat_le b 122) || ((nat_le 65 b && nat_le b 90) || b == 95)

-- a byte that may stand in a name
abbrev pub in_name : ℕ → Bool
in_name b = is_letter b || is_digit b

-- the keywords
abbrev pub keywords : List (List ℕ)
keywords =
    codes "auto" ∷ codes "break" ∷ codes "case" ∷ codes "char" ∷ codes "const" ∷ codes "continue" ∷ codes "default" ∷ codes "do"
    ∷ codes "double" ∷ codes "else" ∷ codes "enum" ∷ codes "extern" ∷ codes "float" ∷ codes "for" ∷ codes "goto" ∷ codes "if"
    ∷ codes "inline" ∷ codes "int" ∷ codes "long" ∷ codes "register" ∷ codes "restrict" ∷ codes "return" ∷ codes "short" ∷ codes "signed"
    ∷ codes "sizeof" ∷ codes "static" ∷ codes "struct" ∷ codes "switch" ∷ codes "typedef" ∷ codes "union" ∷ codes "unsigned" ∷ codes "void"
    ∷ codes "volatile" ∷ codes "while" ∷ codes "_Alignas" ∷ codes "_Alignof" ∷ codes "_Atomic" ∷ codes "_Bool" ∷ codes "_Complex"
    ∷ codes "_Generic" ∷ codes "_Imaginary" ∷ codes "_Noreturn" ∷ codes "_Static_assert" ∷ codes "_Thread_local" ∷ []

-- all bytes may stand in a name
abbrev pub are_in_name : List ℕ → Bool
are_in_name [] = true
are_in_name (b ∷ text) = in_name b && are_in_name text

-- the bytes of a name or a keyword
abbrev pub is_word : List ℕ → Bool
is_word [] = false
is_word (b ∷ text) = is_letter b && are_in_name text

-- whether a text is a name
unfoldable pub is_name : List ℕ → Bool
is_name text = is_word text && not (list_any (λ word. pointwise nat_eq word text) keywords)

-- no byte of a name stands first
abbrev pub NoNameByte : List ℕ → Type 0
NoNameByte [] = Unit {0}
NoNameByte (b ∷ text) = in_name b ≡ false

-- how many bytes at the front may stand in a name
abbrev pub name_span : List ℕ → ℕ
name_span [] = 0
name_span (b ∷ text) = if in_name b then suc (name_span text) else 0

-- the name at the front, as long as it may be, and the text behind it
abbrev pub name_at : List ℕ → Option (List ℕ × List ℕ)
name_at text = if is_name (take (name_span text) text) then Some (take (name_span text) text, drop (name_span text) text) else None
