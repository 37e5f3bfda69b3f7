-- Believed with a public law.
-- The file of a sum or of a saved profile, which is the sum of one run.
use Rattle.std.specs.Prelude.{ℕ, ◌≡◌, ◌⊎◌, List, ◌++◌, codes, Result, Ok, Err}
use Rattle.k_dict_saved.specs.Lines.{IsFirstWrong as IsFirstWrongOfOne}
use Rattle.k_dict_saved.specs.Profile.{IsSaved, Spells}
use Rattle.k_dict_saved.specs.SavedText.{saved_text}
use Rattle.k_dict_saved.specs.declared.fault.SavedFault.{SavedFault}
use Rattle.k_dict_saved.specs.declared.fault.SavedFault.TheVariants.{NotSaved, Memory}
use Rattle.k_dict_saved.specs.declared.format.Accepts.TheVariants.{Both}
use Rattle.k_dict_saved.specs.declared.saved.Saved.{Saved}
use Rattle.k_sum.specs.SumText.{sum_text}
use Rattle.k_sum.specs.Sums.{sum_of}
use Rattle.k_sum.specs.declared.sum.Sum.{Sum}
use Rattle.k_sum_saved.specs.SumRules.{IsSum}
use Rattle.k_sum_saved.specs.SumLines.{IsFirstWrong}

-- the first line is that of a sum
abbrev pub BeginsSum : List ℕ → Type 0
BeginsSum bytes = (rest : List ℕ) × (bytes ≡ codes "kremlin sum 1\n" ++ rest)

-- what reading a saved profile as a sum answers
abbrev pub ReadsOne : List ℕ → Result Sum SavedFault → Type 0
ReadsOne bytes (Ok sum) = (saved : Saved) × IsSaved saved × Spells bytes saved × (sum ≡ sum_of saved)
ReadsOne bytes (Err (NotSaved place)) = IsFirstWrongOfOne Both bytes place
ReadsOne bytes (Err Memory) = Unit {0}

-- what `read_any` answers: the sum that the bytes spell, or that of the run whose saved profile they spell, or the place of their first
-- wrong line, by the rules of a sum where the first line is that of one
abbrev pub ReadsAny : List ℕ → Result Sum SavedFault → Type 0
ReadsAny bytes (Ok sum) = (IsSum sum × (bytes ≡ sum_text sum)) ⊎ ((saved : Saved) × IsSaved saved × Spells bytes saved × (sum ≡ sum_of saved))
ReadsAny bytes (Err (NotSaved place)) = (BeginsSum bytes × IsFirstWrong bytes place) ⊎ ((¬ BeginsSum bytes) × IsFirstWrongOfOne Both bytes place)
ReadsAny bytes (Err Memory) = Unit {0}

-- no file of a sum is that of a saved profile
abbrev pub NoFileIsOfBoth : Type 0
NoFileIsOfBoth = (sum : Sum) (saved : Saved) → IsSaved saved → sum_text sum ≡ saved_text saved → ⊥
