-- Believed with the theorem on the top call.
-- Where the lines of `#pragma` stand in a source (C17 6.10.6).
use Rattle.std.specs.Prelude.{ℕ, zero, suc, ◌-◌, List, [], ◌∷◌, ◌++◌, Result, Ok, Err, if◌then◌else◌, take, codes}
use Rattle.k_num.specs.declared.place.Place.{Place}
use Rattle.k_lex_pieces.specs.Bytes.{after, same}
use Rattle.k_lex_pieces.specs.declared.fault.Fault.{Fault}
use Rattle.k_lex_pieces.specs.declared.pieces.Piece.{Piece}
use Rattle.k_lex_pieces.specs.declared.pieces.Piece.TheVariants.{Name}
use Rattle.k_lex.specs.declared.lines.Mode.{Mode}
use Rattle.k_lex.specs.declared.lines.Mode.TheVariants.{Hash}
use Rattle.k_lex.specs.Lines.{State}
use Rattle.k_lex.specs.Tokens.{first_place, limits, nothing_read, piece_in, turn}

-- the place of the `#` before it, where a piece is the name `pragma` behind the `#` of a directive
abbrev pub pragma_by : Mode → List ℕ → Piece → List Place
pragma_by (Hash hash) s Name = if same s (codes "pragma") then hash ∷ [] else []
pragma_by _ s _ = []

-- what stands behind a piece, if it is read
abbrev pub if_read : Result State Fault → (State → List Place) → List Place
if_read (Ok new) behind = behind new
if_read (Err fault) behind = []

-- the places of the lines in a text, of which the first skip bytes belong to the piece before
abbrev pub lines_from : ℕ → Place → State → List ℕ → List Place
lines_from skip place old [] = []
lines_from (suc skip) place old (b ∷ bs) = lines_from skip (after place b) old bs
lines_from zero place old (b ∷ bs) =
    let piece = piece_in old.mode (b ∷ bs) in
    pragma_by old.mode (take piece.1 (b ∷ bs)) piece.0
    ++ if_read (turn place old (b ∷ bs) piece) (λ new. lines_from (piece.1 - 1) (after place b) new bs)

-- THE LINES OF `#pragma` of a source, by the places of their `#`, up to the first fault, if it has one
abbrev pub pragma_lines : List ℕ → List Place
pragma_lines bytes = lines_from 0 first_place (nothing_read limits) bytes
