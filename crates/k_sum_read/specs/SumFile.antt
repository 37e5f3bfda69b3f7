-- Believed with a public law.
-- What reading the file of a sum answers.
use Rattle.std.specs.Prelude.{ℕ, ◌≡◌, List, Result, Ok, Err}
use Rattle.k_dict_saved.specs.declared.fault.SavedFault.{SavedFault}
use Rattle.k_dict_saved.specs.declared.fault.SavedFault.TheVariants.{NotSaved, Memory}
use Rattle.k_sum.specs.SumText.{sum_text}
use Rattle.k_sum.specs.declared.sum.Sum.{Sum}
use Rattle.k_sum_saved.specs.SumLines.{IsFirstWrong}
use Rattle.k_sum_saved.specs.SumRules.{IsSum}

-- what `read_sum` answers: the sum that the bytes spell, or the place of their first wrong line
abbrev pub ReadsSum : List ℕ → Result Sum SavedFault → Type 0
ReadsSum bytes (Ok sum) = IsSum sum × (bytes ≡ sum_text sum)
ReadsSum bytes (Err (NotSaved place)) = IsFirstWrong bytes place
ReadsSum bytes (Err Memory) = Unit {0}
