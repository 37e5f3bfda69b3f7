-- Believed with a public law.
-- What holds of sums: the statements of the laws.
use Rattle.std.specs.Prelude.{ℕ, ℤ, List, ◌+◌, if◌then◌else◌, [], ◌∷◌, ◌-◌, ◌≡◌, length}
use Rattle.k_dict_entries.specs.Entries.{AreApart, AreRuns, NameEarlier, laid, tree_at, trees_of}
use Rattle.k_dict_entries.specs.Trees.{Alike, Forest, alone, bare, grown}
use Rattle.k_dict_saved.specs.Profile.{IsSaved}
use Rattle.k_dict_saved.specs.declared.saved.Saved.{Saved}
use Rattle.std.specs.Ordering.{int_eq}
use Rattle.k_sum.specs.declared.exits.Exit.{Exit}
use Rattle.k_sum.specs.Sums.{both, sum_of}
use Rattle.k_sum.specs.declared.sum.Sum.{Sum}

-- a forest, and another beside it
abbrev pub together : Forest → Forest → Forest
together bare g = g
together (grown label inner later) g = grown label inner (together later g)

-- the trees of the runs that a sum tells of
abbrev pub forest_of : Sum → Forest
forest_of sum = laid (trees_of sum.dict) sum.roots

-- a sum tells of runs: its entries name earlier ones, no two are equal, and its roots are entries
pub record TellsOfRuns (sum : Sum) : Type 0 where
  pub earlier : NameEarlier sum.dict
  pub apart : AreApart sum.dict
  pub roots : AreRuns 0 (length sum.dict) sum.roots

-- the sum of a profile tells of its one run
abbrev pub OneTellsOfItsRun : Type 0
OneTellsOfItsRun = (saved : Saved) → IsSaved saved
    → TellsOfRuns (sum_of saved) × (forest_of (sum_of saved) ≡ alone (tree_at saved.dict (length saved.dict - 1)))

-- two sums together tell of the runs of both
abbrev pub BothTellOfAll : Type 0
BothTellOfAll = (one other : Sum) → TellsOfRuns one → TellsOfRuns other
    → TellsOfRuns (both one other) × Alike (forest_of (both one other)) (together (forest_of one) (forest_of other))

-- which of them comes first does not matter, but for the numbers of entries
abbrev pub OrderIsFree : Type 0
OrderIsFree = (one other : Sum) → TellsOfRuns one → TellsOfRuns other → Alike (forest_of (both one other)) (forest_of (both other one))

-- nor does it matter which are put together first
abbrev pub GroupingIsFree : Type 0
GroupingIsFree = (one two three : Sum) → TellsOfRuns one → TellsOfRuns two → TellsOfRuns three
    → Alike (forest_of (both (both one two) three)) (forest_of (both one (both two three)))

-- how many of these runs ended with a value
abbrev pub ended_with : ℤ → List Exit → ℕ
ended_with value [] = 0
ended_with value (x ∷ exits) = (if int_eq x.value value then x.runs else 0) + ended_with value exits

-- as many runs of two sums together ended with a value as of both
abbrev pub ExitsAddUp : Type 0
ExitsAddUp = (one other : Sum) (value : ℤ) → ended_with value (both one other).exits ≡ ended_with value one.exits + ended_with value other.exits
