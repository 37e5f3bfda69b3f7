-- Believed with a public law.
-- *Reader*: where a reader of HTML stands, by the bytes that begin and end tags and values.
use Rattle.std.specs.Prelude.{ℕ, ◌≡◌, ◌==◌, if◌then◌else◌, List, [], ◌∷◌, take}

-- in a text, in a tag, or in the value of an attribute
pub data Stand : Type 0 where
  in_text : Stand
  in_tag : Stand
  in_value : Stand

-- a byte further: `<` begins a tag and `>` ends one, and a quote begins and ends a value in it
abbrev pub step : Stand → ℕ → Stand
step in_text b = if b == 60 then in_tag else in_text
step in_tag b = if b == 62 then in_text else if b == 34 then in_value else in_tag
step in_value b = if b == 34 then in_tag else in_value

-- where the reader stands behind a text
abbrev pub read : Stand → List ℕ → Stand
read stand [] = stand
read stand (b ∷ text) = read (step stand b) text

-- nowhere in a text does it leave where it stands
abbrev pub Stays : Stand → List ℕ → Type 0
Stays stand text = (k : ℕ) → read stand (take k text) ≡ stand
