-- Believed with a public law.
-- `#` before a parameter: a string of the spellings of its argument (C17 6.10.3.2).
use Rattle.std.specs.Prelude.{ℕ, ◌||◌, ◌==◌, List, [], ◌∷◌, ◌++◌, if◌then◌else◌}
use Rattle.k_lex_expansion.specs.declared.tokens.Listed.{Listed}

-- with a backslash before each quote and each backslash
abbrev pub escaped : List ℕ → List ℕ
escaped [] = []
escaped (b ∷ bs) = if b == 34 || b == 92 then 92 ∷ b ∷ escaped bs else b ∷ escaped bs

-- what a token behind another is in a string: one space before it if it is spaced
abbrev pub text_behind : Listed → List ℕ
text_behind t = if t.spaced then 32 ∷ escaped t.spelling else escaped t.spelling

-- what tokens behind another are
abbrev pub texts_behind : List Listed → List ℕ
texts_behind [] = []
texts_behind (t ∷ ts) = text_behind t ++ texts_behind ts

-- what tokens are in a string: their spellings, with one space before each that is spaced but the first
abbrev pub texts : List Listed → List ℕ
texts [] = []
texts (t ∷ ts) = escaped t.spelling ++ texts_behind ts

-- the spelling of a string that has the spellings of these tokens
abbrev pub string_of : List Listed → List ℕ
string_of ts = 34 ∷ texts ts ++ 34 ∷ []
