use Rattle.std.proofs.Common.{◌≡◌, length}
use Rattle.k_types_meaning.specs.Formats as formats
use Rattle.k_types_names.specs.Forms.{format_of, formed, reading_in}
use Rattle.k_types_names.proofs.formats.marks_of.Given as goal

abbrev pub invariant-loop-byte : goal.invariant-loop-byte
invariant-loop-byte l = formed l.growing (formats.marks_from (reading_in l.reading) l.rest) ≡ format_of (formats.marks_of l.text)

abbrev pub decreases-loop-byte : goal.decreases-loop-byte
decreases-loop-byte l = length l.rest
