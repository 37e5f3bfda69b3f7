-- For contracts between crates: nobody has to believe it.
-- Formats as they are answered, and while they are read.
use Rattle.std.specs.Prelude.{ℕ, ◌++◌, List, [], ◌∷◌, Option, Some, None}
use Rattle.k_types_meaning.specs.Formats.{FormatMark, Literal, Takes, Reading, marks_from, mark_before, byte_before, pieces_of, kinds_taken}
use Rattle.k_types_meaning.specs.Formats as formats
use Rattle.k_types_meaning.specs.declared.tree.expression.Piece.{Piece}
use Rattle.k_types_meaning.specs.declared.tree.expression.Piece.TheVariants as piece
use Rattle.k_types_names.specs.declared.formats.Format.{Format}
use Rattle.k_types_names.specs.declared.formats.FormatItem.{FormatItem}
use Rattle.k_types_names.specs.declared.formats.FormatItem.TheVariants as found
use Rattle.k_types_names.specs.declared.formats.Growing.{Growing}
use Rattle.k_types_names.specs.declared.formats.Reading as place
use Rattle.k_types_names.specs.declared.formats.Reading.TheVariants.{Outside, Behind}
use Rattle.k_types_names.specs.declared.formats.Step.{Step}
use Rattle.k_types_names.specs.declared.formats.Step.TheVariants.{Leads, Ends, Refused}

-- the format that marks are
abbrev pub format_of : Option (List FormatMark) → Option Format
format_of None = None
format_of (Some marks) = Some (record { pieces = pieces_of marks; kinds = kinds_taken marks })

-- the mark that was found
abbrev pub mark_in : FormatItem → FormatMark
mark_in (found.Literal b) = Literal b
mark_in (found.Takes written kind) = Takes written kind

-- where the text is read
abbrev pub reading_in : place.Reading → Reading
reading_in Outside = formats.Outside
reading_in (Behind n) = formats.Behind n

-- the marks from a byte on, by what the byte does
abbrev pub continued : Step → List ℕ → Option (List FormatMark)
continued (Leads next) text = marks_from (reading_in next) text
continued (Ends found) text = mark_before (Some (mark_in found)) (marks_from formats.Outside text)
continued Refused text = None

-- bytes before pieces
abbrev pub bytes_before : List ℕ → List Piece → List Piece
bytes_before [] pieces = pieces
bytes_before (b ∷ bytes) pieces = byte_before b (bytes_before bytes pieces)

-- bytes as pieces: one, where there are any
abbrev pub run_of : List ℕ → List Piece
run_of [] = []
run_of (b ∷ bytes) = piece.Bytes (b ∷ bytes) ∷ []

-- a format of which nothing is read
abbrev pub unread : Growing
unread = record { pieces = []; bytes = []; kinds = [] }

-- what a growing format becomes by more marks
abbrev pub with_marks : Growing → List FormatMark → Format
with_marks growing marks =
    record { pieces = growing.pieces ++ bytes_before growing.bytes (pieces_of marks); kinds = growing.kinds ++ kinds_taken marks }

-- what a growing format becomes by more marks, or by a text that has none
abbrev pub formed : Growing → Option (List FormatMark) → Option Format
formed growing None = None
formed growing (Some marks) = Some (with_marks growing marks)

-- the marks of a text that is read from some place on, if a format can go on there
abbrev pub read_from : Option place.Reading → List ℕ → Option (List FormatMark)
read_from None text = None
read_from (Some reading) text = marks_from (reading_in reading) text
