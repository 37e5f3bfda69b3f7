-- Believed with a public law.
-- What holds of these texts: the statements of the laws.
use Rattle.std.specs.Prelude.{ℕ, ◌≡◌, ◌≤◌, Bool, List, length}
use Rattle.k_optab.specs.declared.node.Node.{Node}
use Rattle.k_optab.specs.Tree.{IsTree}
use Rattle.k_dict_saved.specs.Profile.{IsSaved}
use Rattle.k_dict_saved.specs.declared.saved.Saved.{Saved}
use Rattle.k_report_profile.specs.RunReport.{IsWhole, Ran}
use Rattle.k_data_profile.specs.Pages.{IsRunPage}
use Rattle.k_data_profile.specs.Shown.{IsDocument, IsTable}

-- a profile has at most one document
abbrev pub DocumentIsUnique : Type 0
DocumentIsUnique = (saved : Saved) (with_dict : Bool) (one other : List ℕ) → IsSaved saved → IsDocument saved with_dict one → IsDocument saved with_dict other
    → one ≡ other

-- and at most one table
abbrev pub TableIsUnique : Type 0
TableIsUnique = (saved : Saved) (one other : List ℕ) → IsSaved saved → IsTable saved one → IsTable saved other → one ≡ other

-- and a run whose tree has at most 2 ^ 59 instances has one page
abbrev pub RunPageIsUnique : Type 0
RunPageIsUnique = (name source : List ℕ) (ran : Ran) (nodes : List Node) (with_dict : Bool) (one other : List ℕ) → IsWhole ran → IsTree ran.depth ran.events nodes
    → length nodes ≤ 576460752303423488 → IsRunPage name source ran with_dict one → IsRunPage name source ran with_dict other → one ≡ other
