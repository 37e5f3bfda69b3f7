-- Notes that a lexer passes over: a comment, and behind it nothing or a line of a `#pragma`.
use Rattle.std.specs.Prelude.{◌≡◌, ◌⊎◌, ℕ, Bool, true, false, not, ◌&&◌, ◌==◌, List, [], ◌∷◌, ◌++◌, codes}
use Rattle.k_lex_pieces.specs.Bytes.{every}
use Rattle.k_lex_pieces.specs.Pieces.{ends_comment}
use Rattle.k_pragma.specs.declared.notes.Note.{Note}

-- a byte that neither ends a line nor begins a comment, and at which C joins no lines
abbrev pub is_plain : ℕ → Bool
is_plain b = not (b == 47) && (not (b == 10) && (not (b == 92) && not (b == 63)))

-- nothing, or a line of a `#pragma` of such bytes, between two newlines
abbrev pub IsPragmaLine : List ℕ → Type 0
IsPragmaLine line = (line ≡ []) ⊎ ((rest : List ℕ) × ((every is_plain rest ≡ true) × (line ≡ codes "\n#pragma " ++ rest ++ codes "\n")))

-- a note whose comment is one, and whose line is nothing or a line of a `#pragma`
pub record IsHarmless (n : Note) : Type 0 where
  pub inside : List ℕ
  pub comment : n.comment ≡ 47 ∷ 42 ∷ inside
  pub ends : ends_comment false inside ≡ true
  pub line : IsPragmaLine n.line
