-- Believed with a public law.
-- What holds of the texts of sums: the statements of the laws.
use Rattle.std.specs.Prelude.{ℕ, ◌≡◌, Bool, List}
use Rattle.k_sum.specs.declared.sum.Sum.{Sum}
use Rattle.k_sum_saved.specs.SumRules.{IsSum}
use Rattle.k_sum_report.specs.SumReport.{IsSumDocument, IsSumReport, IsSumTable}

-- a sum that can be saved has at most one report
abbrev pub SumReportIsUnique : Type 0
SumReportIsUnique = (sum : Sum) (with_dict : Bool) (one other : List ℕ) → IsSum sum → IsSumReport sum with_dict one → IsSumReport sum with_dict other
    → one ≡ other

-- at most one document
abbrev pub SumDocumentIsUnique : Type 0
SumDocumentIsUnique = (sum : Sum) (with_dict : Bool) (one other : List ℕ) → IsSum sum → IsSumDocument sum with_dict one → IsSumDocument sum with_dict other
    → one ≡ other

-- and at most one table
abbrev pub SumTableIsUnique : Type 0
SumTableIsUnique = (sum : Sum) (one other : List ℕ) → IsSum sum → IsSumTable sum one → IsSumTable sum other → one ≡ other
