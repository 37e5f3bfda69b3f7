-- Believed with a public law.
-- Words for the forms of directives (C17 6.10): names, and what is wrong.
use Rattle.std.specs.Prelude.{ℕ, Bool, true, false, ◌&&◌, List, Option, Some, None, is_none}
use Rattle.k_num.specs.declared.place.Place.{Place}
use Rattle.k_lex_pieces.specs.declared.fault.Fault.{Fault}
use Rattle.k_lex_pieces.specs.declared.fault.Refusal.TheVariants as r
use Rattle.k_lex_pieces.specs.declared.pieces.Piece.{Piece}
use Rattle.k_lex_pieces.specs.declared.pieces.Piece.TheVariants as p
use Rattle.k_lex_pieces.specs.Bytes.{same}
use Rattle.k_lex_pieces.specs.Words.{word_of}
use Rattle.k_lex_sources.specs.declared.rows.Cut.{Cut}

-- the directive with this `#` has not its form
abbrev pub unformed : Place → Fault
unformed hash = record { what = r.BadDirective; place = hash }

-- the fault of the directive with this `#` that wants more, where its line ends with a fault or with none
abbrev pub cut_short : Place → Option Fault → Fault
cut_short hash None = unformed hash
cut_short hash (Some fault) = fault

-- a piece is a name or a keyword
abbrev pub is_name : Piece → Bool
is_name p.Name = true
is_name _ = false

-- a name that is no keyword
abbrev pub is_plain_name : Cut → Bool
is_plain_name cut = is_name cut.what && is_none (word_of cut.spelling)

-- the token is spelled so
abbrev pub is_spelled : List ℕ → Cut → Bool
is_spelled spelling cut = same cut.spelling spelling
