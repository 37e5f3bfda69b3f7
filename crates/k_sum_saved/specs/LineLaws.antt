-- Believed with a public law.
-- What holds of the files of sums, and of sums that can be saved: the statements of the laws.
use Rattle.std.specs.Prelude.{ℕ, ◌≡◌, List, ◌++◌, codes}
use Rattle.k_sum.specs.Sums.{HasBounds}
use Rattle.k_sum.specs.declared.sum.Sum.{Sum}
use Rattle.k_sum_saved.specs.SumLines.{IsFirstWrong, IsWhole, Leads, Opened, Stage}
use Rattle.k_sum_saved.specs.SumRules.{IsSum}

-- a text has at most one first wrong line
abbrev pub FirstWrongIsOne : Type 0
FirstWrongIsOne = (bytes : List ℕ) (one other : ℕ) → IsFirstWrong bytes one → IsFirstWrong bytes other → one ≡ other

-- a text whose lines lead to the end has none
abbrev pub WholeIsNotWrong : Type 0
WholeIsNotWrong = (lines : List ℕ) (whole : Stage) (place : ℕ) → Leads Opened lines whole → IsWhole whole → IsFirstWrong (lines ++ codes "end\n") place → ⊥

-- and it tells one sum
abbrev pub WholeIsOne : Type 0
WholeIsOne = (lines others : List ℕ) (one other : Stage) → Leads Opened lines one → Leads Opened others other → IsWhole one → IsWhole other
    → lines ++ codes "end\n" ≡ others ++ codes "end\n" → one ≡ other

-- a sum that can be saved can be put to others
abbrev pub SumHasBounds : Type 0
SumHasBounds = (sum : Sum) → IsSum sum → HasBounds sum
