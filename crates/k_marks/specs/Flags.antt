-- For contracts between crates: nobody has to believe it.
-- Flags that are raised one by one.
use Rattle.std.specs.Prelude.{ℕ, Bool, true, List, [], ◌∷◌, slice_set}

-- flags, once those with these numbers are raised
abbrev pub raised : List ℕ → List Bool → List Bool
raised [] list = list
raised (n ∷ ns) list = raised ns (slice_set list n true)
