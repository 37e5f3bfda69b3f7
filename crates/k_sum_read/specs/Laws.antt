-- Believed with a public law.
-- What holds of sums that can be saved: the statements of the laws.
use Rattle.std.specs.Prelude.{ℕ, ◌≡◌, List, ◌++◌, codes, Result, Ok, Err}
use Rattle.k_dict_saved.specs.declared.fault.SavedFault.{SavedFault}
use Rattle.k_dict_saved.specs.declared.fault.SavedFault.TheVariants.{NotSaved, Memory}
use Rattle.k_sum.specs.SumText.{sum_text}
use Rattle.k_sum.specs.declared.sum.Sum.{Sum}
use Rattle.k_sum_read.specs.SumFile.{ReadsSum}
use Rattle.k_sum_saved.specs.SumRules.{IsSum}
use Rattle.k_sum_saved.specs.SumLines.{IsFirstWrong, Leads, Opened, Rooted, Stage}

-- what the lines of a sum have told before the end
abbrev pub whole_of : Sum → Stage
whole_of sum = Rooted (record { runs = sum.runs; exits = sum.exits; ops = sum.ops }) sum.regions sum.dict sum.roots

-- the lines of a sum that can be saved lead to its end
abbrev pub LinesLead : Type 0
LinesLead = (sum : Sum) → IsSum sum → (lines : List ℕ) × Leads Opened lines (whole_of sum) × (sum_text sum ≡ lines ++ codes "end\n")

-- and no line of it is wrong
abbrev pub NoSumIsWrong : Type 0
NoSumIsWrong = (sum : Sum) (place : ℕ) → IsSum sum → IsFirstWrong (sum_text sum) place → ⊥

-- two sums with one file are one
abbrev pub FileIsOfOne : Type 0
FileIsOfOne = (one other : Sum) → IsSum one → IsSum other → sum_text one ≡ sum_text other → one ≡ other

-- this sum was read, unless memory ran out
abbrev pub ReadsOne : Sum → Result Sum SavedFault → Type 0
ReadsOne sum (Ok read) = read ≡ sum
ReadsOne sum (Err (NotSaved place)) = ⊥
ReadsOne sum (Err Memory) = Unit {0}

-- what `read_sum` may answer to the file of a sum is that sum
abbrev pub ReadOfWrite : Type 0
ReadOfWrite = (sum : Sum) (result : Result Sum SavedFault) → IsSum sum → ReadsSum (sum_text sum) result → ReadsOne sum result
