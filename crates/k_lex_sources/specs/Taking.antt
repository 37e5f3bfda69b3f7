-- For contracts between crates: nobody has to believe it.
-- How the code takes the bytes of a source, one after another.
use Rattle.std.specs.Prelude.{◌≡◌, ℕ, Bool, List, ◌∷◌, ◌++◌, if◌then◌else◌}
use Rattle.k_num.specs.declared.place.Place.{Place}
use Rattle.k_lex_pieces.specs.Bytes.{after}
use Rattle.k_lex_sources.specs.declared.splicing.Source.{Source}
use Rattle.k_lex_sources.specs.Splicing.{Byte, spliced, texts, places}

-- how many bytes are left out next
abbrev pub skip_of : Bool → ℕ
skip_of joined = if joined then 1 else 0

-- what is taken grows by what these bytes give
abbrev pub Grows : Source → Source → List Byte → List Byte → Type 0
Grows old new given rest = (old.text ++ texts given ≡ new.text ++ texts rest) × (old.places ++ places given ≡ new.places ++ places rest)

-- one byte was taken or left out: what was taken and what the bytes from it on give is what is taken now and what the bytes behind it give
abbrev pub Takes : Source → Source → Bool → Bool → Place → ℕ → List ℕ → Type 0
Takes old new joined next place b text = (bs : List ℕ) → text ≡ b ∷ bs → Grows old new (spliced (skip_of joined) place (b ∷ bs)) (spliced (skip_of next) (after place b) bs)
