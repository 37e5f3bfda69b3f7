-- Believed with a public law.
-- A piece at the front of a text.
use Rattle.std.specs.Prelude.{ℕ, ◌≡◌, List, [], ◌∷◌, Option, Some, None, ◌==◌, if◌then◌else◌}

-- the call found what reading the list gives
abbrev pub Finds : {X Y : Type 0} → (X → Y) → Option X → Option Y → Type 0
Finds view None read = read ≡ None
Finds view (Some x) read = read ≡ Some (view x)

-- the text behind a word, where it begins with the word
abbrev pub word_at : List ℕ → List ℕ → Option (List ℕ)
word_at [] text = Some text
word_at (w ∷ word) [] = None
word_at (w ∷ word) (b ∷ text) = if b == w then word_at word text else None
