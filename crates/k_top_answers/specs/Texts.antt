-- Believed with the theorem on the top call.
-- What goes to out beside reports and listings: a report behind a program's output, and the summary of a made program.
use Rattle.std.specs.Prelude.{ℕ, ℤ, ◌≡◌, List, [], ◌∷◌, ◌++◌, length, Option, Some, None, codes}
use Rattle.std.specs.Fmt.{decimal}
use Rattle.k_optab.specs.declared.node.Node.{Node}
use Rattle.k_optab.specs.Tree.{IsTree}
use Rattle.k_selfpar.specs.Contexts.{root_work}
use Rattle.k_plan.specs.declared.advice.Advice.{Advice}
use Rattle.k_report_profile.specs.Report.{IsPlanned}
use Rattle.k_report_profile.specs.RunReport.{IsLarge, IsProfileOf, Ran, ops_of}
use Rattle.k_text.specs.Texts.{head_text, named_line}
pub use Rattle.k_replay_text.specs.Lines.{ends_line, with_report}
use Rattle.k_report.specs.PlanLines.{wide_line}
use Rattle.k_report.specs.Report.{large_line}
use Rattle.k_dict_saved.specs.declared.saved.Saved.{Saved}
use Rattle.k_selfpar.specs.Contexts.{AreContexts}
use Rattle.k_selfpar.specs.Rows.{AreRows}
use Rattle.k_selfpar.specs.declared.context.Context.{Context}
use Rattle.k_selfpar.specs.declared.row.Row.{Row}

-- the first line of a summary
abbrev pub demo_line : ℕ → ℕ → List ℕ
demo_line number loops = codes "demo " ++ decimal number ++ codes " " ++ decimal loops ++ codes "\n"

-- the lines on the run: how many bytes it wrote, what main returned, how many operations it made
abbrev pub run_lines : ℕ → ℤ → ℕ → List ℕ
run_lines bytes exit ops = head_text (named_line (codes "bytes ") (decimal bytes)) exit ops

-- the lines on a tree, by the work and the path of its root and the number of its rows
abbrev pub root_lines : ℕ → ℕ → ℕ → List ℕ
root_lines work path rows = named_line (codes "work ") (decimal work) ++ named_line (codes "path ") (decimal path) ++ named_line (codes "rows ") (decimal rows)

-- the lines on its tree: the work and the path of the root, and how many rows there are
abbrev pub tree_lines : List Node → List Row → List ℕ
tree_lines [] rows = []
tree_lines (root ∷ nodes) rows = root_lines root.work root.path (length rows)

-- the line on a plan, by the number of its picks, what they save together, and of how much
abbrev pub picks_line : ℕ → ℕ → ℕ → List ℕ
picks_line picks total work = codes "plan " ++ decimal picks ++ codes " saves " ++ decimal total ++ codes " of " ++ decimal work ++ codes "\n"

-- the line on its plan: how many loops are picked, what they save together, and of how much; or that there are too many contexts for one
abbrev pub plan_line : List Context → Option Advice → List ℕ
plan_line contexts None = wide_line
plan_line contexts (Some advice) = picks_line (length advice.picks) advice.total (root_work contexts)

-- the lines on the profile of a run, or that its dictionary is over its limits
pub data AreProfileLines (ran : Ran) : List ℕ → Type 0 where
  whole : (nodes : List Node) (saved : Saved) (rows : List Row) (contexts : List Context) (plan : Option Advice)
      → IsTree ran.depth ran.events nodes → IsProfileOf ran nodes saved
      → AreRows nodes rows → AreContexts ran.regions nodes contexts → IsPlanned contexts plan
      → AreProfileLines ran (tree_lines nodes rows ++ plan_line contexts plan)
  large : (nodes : List Node) → IsTree ran.depth ran.events nodes → IsLarge nodes → AreProfileLines ran large_line

-- THE SUMMARY of the run of a made program, which wrote so many bytes
pub record IsSummary (number loops bytes : ℕ) (ran : Ran) (text : List ℕ) : Type 0 where
  pub lines : List ℕ
  pub are : AreProfileLines ran lines
  pub is : text ≡ demo_line number loops ++ run_lines bytes ran.exit (ops_of ran) ++ lines
