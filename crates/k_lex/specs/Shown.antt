-- For contracts between crates: nobody has to believe it.
-- How the code keeps what has been read.
use Rattle.std.specs.Prelude.{◌≡◌, ℕ, ◌+◌, ◌^◌, ◌<◌, ◌≤◌, true, List, length}
use Rattle.k_num.specs.declared.place.Place.{Place}
use Rattle.k_lex.specs.declared.lines.Limits.{Limits}
use Rattle.k_lex.specs.declared.lines.State as code
use Rattle.k_lex_pieces.specs.declared.pieces.Piece.{Piece}
use Rattle.k_lex_pieces.specs.declared.pieces.Piece.TheVariants.{Name}
use Rattle.k_lex_pieces.specs.Bytes.{HasRoom}
use Rattle.k_lex_pieces.specs.Pieces.{is_name}
use Rattle.k_lex.specs.Lines.{State}
use Rattle.k_lex_macros.specs.Table.{listed, IsIndexed, ArePlanned}

-- what the code's state stands for
abbrev pub shown : code.State → State
shown s = record { limits = s.limits; mode = s.mode; name = s.name; body = s.body; macros = listed s.macros; tokens = s.tokens; spelled = s.spelled }

-- the limits are so small that no count passes 32 bits
abbrev pub IsSmall : Limits → Type 0
IsSmall limits = (limits.tokens < 2 ^ 32) × (limits.spelling < 2 ^ 32)

-- what is true of the state between two pieces: the macros are found and planned, and the tokens are within the limits
pub record Sound (s : code.State) : Type 0 where
  pub small : IsSmall s.limits
  pub indexed : IsIndexed s.macros
  pub planned : ArePlanned s.macros
  pub tokens : length s.tokens ≤ s.limits.tokens
  pub spelled : s.spelled ≤ s.limits.spelling

-- what has to be known of a piece's spelling: a name's is one, and the place can move past it
pub record IsReadable (place : Place) (spelling : List ℕ) (piece : Piece) : Type 0 where
  pub name : piece ≡ Name → is_name spelling ≡ true
  pub room : HasRoom place (length spelling + 1)
