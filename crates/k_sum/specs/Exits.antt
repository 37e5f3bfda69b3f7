-- Believed with a public law.
-- How many runs ended with each exit value.
use Rattle.std.specs.Prelude.{ℕ, ℤ, ◌+◌, List, [], ◌∷◌, int_lt, if◌then◌else◌}
use Rattle.k_sum.specs.declared.exits.Exit.{Exit}

-- an exit value with its count
abbrev pub exit_of : ℤ × ℕ → Exit
exit_of pair = record { value = pair.0; runs = pair.1 }

-- exit values by rising value, with so many more runs that ended with one
abbrev pub counted : ℤ → ℕ → List Exit → List Exit
counted value runs [] = record { value = value; runs = runs } ∷ []
counted value runs (x ∷ exits) =
    if int_lt value x.value then record { value = value; runs = runs } ∷ x ∷ exits
    else (if int_lt x.value value then x ∷ counted value runs exits
    else record { value = x.value; runs = runs + x.runs } ∷ exits)

-- how many runs ended with a value
abbrev pub runs_of : ℤ → List Exit → ℕ
runs_of value [] = 0
runs_of value (x ∷ exits) = if int_lt value x.value then 0 else (if int_lt x.value value then runs_of value exits else x.runs)

-- how many runs there are
abbrev pub total : List Exit → ℕ
total [] = 0
total (x ∷ exits) = x.runs + total exits

-- exit values with those of more runs
abbrev pub with_exits : List Exit → List Exit → List Exit
with_exits exits [] = exits
with_exits exits (x ∷ more) = with_exits (counted x.value x.runs exits) more
