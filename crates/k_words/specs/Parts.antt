-- Believed with the theorem on the top call.
-- The files of which `merge` puts the runs together, each once, with how often it is named.
use Rattle.std.specs.Prelude.{ℕ, zero, suc, ◌+◌, ◌≤◌, ◌≢◌, if◌then◌else◌, nat_eq, List, [], ◌∷◌}
use Rattle.std.specs.Cmp.Lexicographic.{pointwise}
use Rattle.k_words.specs.declared.merging.Part.{Part}

-- files with one that is named once more: it counts once more where it stands, or it stands last
abbrev pub with_file : List Part → List ℕ → List Part
with_file [] file = record { file = file; times = 1 } ∷ []
with_file (part ∷ parts) file =
    if pointwise nat_eq part.file file then record { file = part.file; times = part.times + 1 } ∷ parts else part ∷ with_file parts file

-- files, and behind them those that words name, each once, in the order in which they are named first
abbrev pub parts_of : List Part → List (List ℕ) → List Part
parts_of parts [] = parts
parts_of parts (word ∷ words) = parts_of (with_file parts word) words

-- the place of a file among others, or that behind them where it is none of them
abbrev pub place_of : List Part → List ℕ → ℕ
place_of [] file = zero
place_of (part ∷ parts) file = if pointwise nat_eq part.file file then zero else suc (place_of parts file)

-- how often files are named, all together
abbrev pub all_times : List Part → ℕ
all_times [] = 0
all_times (part ∷ parts) = part.times + all_times parts

-- none of these files has this name
abbrev pub HaveNot : List ℕ → List Part → Type 0
HaveNot name [] = Unit {0}
HaveNot name (part ∷ parts) = (part.file ≢ name) × HaveNot name parts

-- each file stands once, and is named once or more often
abbrev pub AreNamedOnce : List Part → Type 0
AreNamedOnce [] = Unit {0}
AreNamedOnce (part ∷ parts) = (1 ≤ part.times) × HaveNot part.file parts × AreNamedOnce parts
