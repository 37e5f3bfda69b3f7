-- For contracts between crates: nobody has to believe it.
-- What holds of all summaries.
use Rattle.std.specs.Prelude.{ℕ, ◌+◌, ◌≤◌, List, [], ◌∷◌, length, reverse, Option, Some, None}
use Rattle.k_dict_entries.specs.Entries.{AreRuns}
use Rattle.k_dict_entries.specs.Tallies.{total}
use Rattle.k_dict_entries.specs.declared.entry.Entry.{Entry}
use Rattle.k_hcpa_meaning.specs.Summing.{Opened, Summing}

-- the summaries that are kept so, with the levels outermost first
abbrev pub summing_of : List Opened → ℕ → ℕ → ℕ → Option (List Entry) → Summing
summing_of levels opened entered work dict = record { levels = reverse levels; opened = opened; entered = entered; work = work; dict = dict }

-- how many instances have a level or are counted as children there
abbrev pub weight : List Opened → ℕ
weight [] = 0
weight (l ∷ levels) = (1 + total l.runs) + weight levels

-- the children of these instances are runs of entries below a number
abbrev pub HaveRuns : ℕ → List Opened → Type 0
HaveRuns high [] = Unit {0}
HaveRuns high (l ∷ levels) = AreRuns 0 high l.runs × HaveRuns high levels

-- where the entries are kept, children are runs of them
abbrev pub AreNamed : Option (List Entry) → List Opened → Type 0
AreNamed None levels = Unit {0}
AreNamed (Some entries) levels = HaveRuns (length entries) levels

-- what holds of all summaries: few instances were entered, and those that are open or counted are among them
pub record IsWhole (s : Summing) : Type 0 where
  pub few : s.entered ≤ 4611686018427387904
  pub open_few : s.opened ≤ s.entered
  pub weighs : weight s.levels ≤ s.entered
  pub named : AreNamed s.dict s.levels
