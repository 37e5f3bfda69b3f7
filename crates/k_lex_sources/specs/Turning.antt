-- For contracts between crates: nobody has to believe it.
-- How the code takes the pieces of a source, one after another.
use Rattle.std.specs.Prelude.{◌≡◌, Bool, true, List, [], ◌∷◌, ◌++◌, Option, if◌then◌else◌}
use Rattle.k_lex_pieces.specs.declared.fault.Fault.{Fault}
use Rattle.k_lex_pieces.specs.declared.pieces.Piece.{Piece}
use Rattle.k_lex_sources.specs.declared.rows.Cut.{Cut}
use Rattle.k_lex_sources.specs.declared.rows.Row.{Row}
use Rattle.k_lex_sources.specs.declared.rows.Turn.{Turn}
use Rattle.k_lex_sources.specs.declared.rows.Reading.{Reading}
use Rattle.k_lex_sources.specs.Rows.{behind, row_of}

-- the pieces so far are a line
abbrev pub Ended : Reading → Reading → Option Fault → Type 0
Ended old new fault = new ≡ record { rows = old.rows ++ row_of old.cuts fault ∷ []; cuts = []; spaced = true }

-- the lines from here on, where the source goes on or not
abbrev pub onward : Bool → List Row → List Row
onward goes rows = if goes then rows else []

-- A piece did its turn: the lines so far and what that turn leads to are the lines now and what follows.
abbrev pub Turned : Reading → Reading → Bool → (Piece → Cut) → Turn → Type 0
Turned old new goes cut turn = (next : List Cut → Bool → List Row) → old.rows ++ behind old.cuts cut next turn ≡ new.rows ++ onward goes (next new.cuts new.spaced)
