-- Believed with a public law.
-- How often each entry occurs among children.
use Rattle.std.specs.Prelude.{ℕ, ◌+◌, ◌<◌, ◌≡◌, List, [], ◌∷◌, nat_lt, if◌then◌else◌}
use Rattle.k_dict_entries.specs.declared.entry.Run.{Run}

-- the run of an entry with its count
abbrev pub run_of : ℕ × ℕ → Run
run_of pair = record { entry = pair.0; count = pair.1 }

-- runs by rising number, with so many more children of an entry
abbrev pub counted : ℕ → ℕ → List Run → List Run
counted entry count [] = record { entry = entry; count = count } ∷ []
counted entry count (run ∷ runs) =
    if nat_lt entry run.entry then record { entry = entry; count = count } ∷ run ∷ runs
    else (if nat_lt run.entry entry then run ∷ counted entry count runs
    else record { entry = run.entry; count = count + run.count } ∷ runs)

-- how often an entry occurs
abbrev pub count_of : ℕ → List Run → ℕ
count_of entry [] = 0
count_of entry (run ∷ runs) = if nat_lt run.entry entry then count_of entry runs else (if nat_lt entry run.entry then 0 else run.count)

-- how many children there are
abbrev pub total : List Run → ℕ
total [] = 0
total (run ∷ runs) = run.count + total runs
