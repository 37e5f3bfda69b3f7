-- Believed with a public law.
-- Laws of the definition of formats.
use Rattle.std.specs.Prelude.{◌≡◌, ℕ, List, Some}
use Rattle.k_types_meaning.specs.Formats.{FormatMark, Spells, marks_of}

-- the marks of a text are those that it spells
abbrev pub MarksAreSpelled : Type 0
MarksAreSpelled = (text : List ℕ) (marks : List FormatMark) → (Spells text marks → marks_of text ≡ Some marks) × (marks_of text ≡ Some marks → Spells text marks)
