-- Believed with a public law.
-- The pieces into which a source is cut.
use Rattle.std.specs.Prelude.{◌≡◌, ℕ, zero, suc, ◌-◌, List, [], ◌∷◌, ◌++◌, Result, Ok, Err, IsOk, take}
use Rattle.k_num.specs.declared.place.Place.{Place}
use Rattle.k_lex_pieces.specs.declared.fault.Fault.{Fault}
use Rattle.k_lex.specs.declared.lines.Limits.{Limits}
use Rattle.k_lex_pieces.specs.declared.pieces.Piece.{Piece}
use Rattle.k_lex_pieces.specs.Bytes.{after}
use Rattle.k_lex.specs.Lines.{State}
use Rattle.k_lex.specs.Tokens.{piece_in, turn, run, first_place, nothing_read}

-- a piece of a source: where it stands, what it is, and its bytes
pub record Cut : Type 0 where
  pub place : Place
  pub what : Piece
  pub spelling : List ℕ

-- a piece, and those behind it, unless it is the first fault
abbrev pub cut : Cut → Result State Fault → (State → List Cut) → List Cut
cut piece (Ok new) more = piece ∷ more new
cut piece (Err f) more = piece ∷ []

-- The pieces that `run` reads, in their order, up to the first fault. The first skip bytes belong to the piece before.
abbrev pub cuts : ℕ → Place → State → List ℕ → List Cut
cuts skip place old [] = []
cuts (suc skip) place old (b ∷ bs) = cuts skip (after place b) old bs
cuts zero place old (b ∷ bs) =
    let piece = piece_in old.mode (b ∷ bs) in
    let first : Cut = record { place = place; what = piece.0; spelling = take piece.1 (b ∷ bs) } in
    cut first (turn place old (b ∷ bs) piece) (λ new. cuts (piece.1 - 1) (after place b) new bs)

-- the pieces' bytes, one piece behind another
abbrev pub joined_pieces : List Cut → List ℕ
joined_pieces [] = []
joined_pieces (piece ∷ pieces) = piece.spelling ++ joined_pieces pieces

-- The pieces of a source that is accepted are the source, one behind another: no byte is skipped or read twice.
abbrev pub NothingIsLost : Type 0
NothingIsLost = (limits : Limits) (text : List ℕ) → IsOk (run 0 first_place (nothing_read limits) text)
    → joined_pieces (cuts 0 first_place (nothing_read limits) text) ≡ text

-- Whatever comes of a source, the pieces that are read are its front: behind them stands the rest.
abbrev pub OnlyTheRestIsLeft : Type 0
OnlyTheRestIsLeft = (limits : Limits) (text : List ℕ)
    → (rest : List ℕ) × (joined_pieces (cuts 0 first_place (nothing_read limits) text) ++ rest ≡ text)
