-- Believed with a public law.
-- The bytes of a source, in which lines are joined (C17 5.1.1.2p1, phase 2).
use Rattle.std.specs.Prelude.{ℕ, zero, suc, Bool, List, [], ◌∷◌, if◌then◌else◌, map, codes}
use Rattle.k_num.specs.declared.place.Place.{Place}
use Rattle.k_lex_pieces.specs.Bytes.{after, begins}
use Rattle.k_lex.specs.Tokens.{first_place}

-- a byte of a source, and where it stands
pub record Byte : Type 0 where
  pub what : ℕ
  pub place : Place

-- a backslash directly before a newline, by which C joins the next line to this one
abbrev pub joins : List ℕ → Bool
joins text = begins (codes "\\\n") text

-- The bytes from this place on without the first skip. A backslash directly before a newline is left out, with the newline; any other byte keeps its place.
abbrev pub spliced : ℕ → Place → List ℕ → List Byte
spliced skip place [] = []
spliced (suc skip) place (b ∷ bs) = spliced skip (after place b) bs
spliced zero place (b ∷ bs) = if joins (b ∷ bs) then spliced 1 (after place b) bs else record { what = b; place = place } ∷ spliced 0 (after place b) bs

-- the bytes alone
abbrev pub texts : List Byte → List ℕ
texts bytes = map (λ (b : Byte). b.what) bytes

-- their places alone
abbrev pub places : List Byte → List Place
places bytes = map (λ (b : Byte). b.place) bytes

-- the bytes of a source that are left
abbrev pub source_of : List ℕ → List Byte
source_of bytes = spliced 0 first_place bytes
