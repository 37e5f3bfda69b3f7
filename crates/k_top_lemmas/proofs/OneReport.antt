-- A run from which main returned has one report, and leaves one profile or none.
use Rattle.std.proofs.Common.{ℕ, ℤ, ◌≡◌, ◌≤◌, Bool, sym, ◌∙◌, List, Option, None, FitsSigned, w32}
use Rattle.k_ending.specs.declared.ending.End.TheVariants.{Returned}
use Rattle.k_optab.specs.declared.node.Node.{Node}
use Rattle.k_optab.specs.Tree.{IsTree}
use Rattle.k_report_profile.proofs.OneRun.{run_report_is_unique}
use Rattle.k_report_profile.specs.RunReport.{IsRunReport, Ran}
use Rattle.k_report_profile.specs.RunReport as reports
use Rattle.k_dict_saved.specs.declared.saved.Saved.{Saved}
use Rattle.k_top_answers.specs.declared.answer.Answer.{Answer}
use Rattle.k_top_answers.specs.Answers.{IsReported, ran_of, saved_file}
use Rattle.k_top_answers.specs.Steps.{Running, run_of}
use Rattle.k_top_answers.specs.Texts.{with_report}
use Rattle.k_top_lemmas.proofs.RunLemmas.{IsSound, run_few, run_whole}

-- a report is that of a tree
tree_of : (ran : Ran) (dict : Bool) (profile : Option Saved) (report : List ℕ) → IsRunReport ran dict profile report
    → (nodes : List Node) × IsTree ran.depth ran.events nodes
tree_of ran dict _ _ (reports.whole nodes saved report tree is r) = (nodes, tree)
tree_of ran dict _ _ (reports.large nodes tree over) = (nodes, tree)

pub one_reported : (r : Running) (exit : ℤ) (depth : ℕ) (dict : Bool) (save : Option (List ℕ)) (one other : Answer) → IsSound r
    → (run_of r).end ≡ Returned exit → FitsSigned w32 exit → 1 ≤ depth → depth ≤ 32 → IsReported r exit depth dict save one
    → IsReported r exit depth dict save other → one ≡ other
one_reported r exit depth dict save one other is returned fits some tracked a b =
    let tree = tree_of (ran_of r exit depth) dict a.profile a.report a.is_report in
    let both = run_report_is_unique (ran_of r exit depth) tree.0 dict a.profile b.profile a.report b.report
    (run_whole r is exit depth returned fits some tracked) tree.1 (run_few r depth tree.0 is tree.1) a.is_report b.is_report in
    a.is ∙ (λ i. record { out = with_report (run_of r).output (both.1 i); failure = None; more = None; saved = saved_file save (both.0 i) }) ∙ sym b.is
