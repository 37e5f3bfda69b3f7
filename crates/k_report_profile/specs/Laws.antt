-- Believed with a public law.
-- What holds of reports: the statements of the laws.
use Rattle.std.specs.Prelude.{ℕ, ◌≡◌, ◌≤◌, Bool, List, length, Option}
use Rattle.k_optab.specs.declared.node.Node.{Node}
use Rattle.k_optab.specs.Tree.{IsTree}
use Rattle.k_dict_saved.specs.Profile.{IsSaved}
use Rattle.k_dict_saved.specs.declared.saved.Saved.{Saved}
use Rattle.k_report_profile.specs.Report.{IsReport}
use Rattle.k_report_profile.specs.RunReport.{IsProfileOf, IsRunReport, IsWhole, Ran}

-- a profile has at most one report
abbrev pub ReportIsUnique : Type 0
ReportIsUnique = (saved : Saved) (with_dict : Bool) (one other : List ℕ) → IsSaved saved → IsReport saved with_dict one → IsReport saved with_dict other
    → one ≡ other

-- the profile of a run whose tree has at most 2 ^ 59 instances can be saved
abbrev pub ProfilesCanBeSaved : Type 0
ProfilesCanBeSaved = (ran : Ran) (nodes : List Node) (saved : Saved) → IsWhole ran → IsTree ran.depth ran.events nodes → length nodes ≤ 576460752303423488
    → IsProfileOf ran nodes saved → IsSaved saved

-- a run whose tree has at most 2 ^ 59 instances leaves one profile or none, and has one report
abbrev pub RunReportIsUnique : Type 0
RunReportIsUnique = (ran : Ran) (nodes : List Node) (with_dict : Bool) (one other : Option Saved) (text text' : List ℕ) → IsWhole ran
    → IsTree ran.depth ran.events nodes → length nodes ≤ 576460752303423488 → IsRunReport ran with_dict one text → IsRunReport ran with_dict other text'
    → (one ≡ other) × (text ≡ text')
