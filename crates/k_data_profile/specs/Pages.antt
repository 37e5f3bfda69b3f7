-- Believed with the theorem on the top call.
-- *Page of a run*: what `page` writes where main returned.
use Rattle.std.specs.Prelude.{ℕ, ℤ, ◌≡◌, Bool, List, [], ◌∷◌, Option}
use Rattle.k_optab.specs.declared.node.Node.{Node}
use Rattle.k_optab.specs.declared.region.Region.{Region}
use Rattle.k_optab.specs.Tree.{IsTree}
use Rattle.k_dict_entries.specs.declared.entry.Entry.{Entry}
use Rattle.k_dict_saved.specs.declared.saved.Saved.{Saved}
use Rattle.k_selfpar.specs.Contexts.{AreContexts}
use Rattle.k_selfpar.specs.Rows.{AreRows}
use Rattle.k_selfpar.specs.declared.context.Context.{Context}
use Rattle.k_selfpar.specs.declared.row.Row.{Row}
use Rattle.k_plan.specs.declared.advice.Advice.{Advice}
use Rattle.k_report_profile.specs.Report.{IsPlanned, asked, nodes_of_profile}
use Rattle.k_report_profile.specs.RunReport.{IsLarge, IsProfileOf, Ran, ops_of}
use Rattle.k_page.specs.Page.{large_page_text, page_text}
use Rattle.k_data_profile.specs.Shown.{listed}

-- the work of instances as a whole: that of the first, which is around all others
unfoldable pub work_of : List Node → ℕ
work_of [] = 0
work_of (root ∷ nodes) = root.work

-- and their path
unfoldable pub path_of : List Node → ℕ
path_of [] = 0
path_of (root ∷ nodes) = root.path

-- the page of instances, beside a source in a file of this name: their rows, their contexts where there are no more than are planned, the plan of these,
-- and the entries of a dictionary where one is given
pub record IsPageOf (name source : List ℕ) (regions : List Region) (exit : ℤ) (ops : ℕ) (nodes : List Node) (dict : Option (List Entry)) (text : List ℕ) : Type 0 where
  pub rows : List Row
  pub contexts : List Context
  pub plan : Option Advice
  pub are_rows : AreRows nodes rows
  pub are_contexts : AreContexts regions nodes contexts
  pub planned : IsPlanned contexts plan
  pub is : text ≡ page_text name source exit ops (work_of nodes) (path_of nodes) regions rows dict (listed contexts plan) plan

-- the page of a profile, with its dictionary where it is asked for
abbrev pub IsPage : List ℕ → List ℕ → Saved → Bool → List ℕ → Type 0
IsPage name source saved with_dict text = IsPageOf name source saved.regions saved.exit saved.ops (nodes_of_profile saved) (asked with_dict saved.dict) text

-- the page of a run, or the page where its dictionary is over its limits
pub data IsRunPage (name source : List ℕ) (ran : Ran) (with_dict : Bool) : List ℕ → Type 0 where
  whole : (nodes : List Node) (saved : Saved) (text : List ℕ) → IsTree ran.depth ran.events nodes → IsProfileOf ran nodes saved
      → IsPageOf name source ran.regions ran.exit (ops_of ran) nodes (asked with_dict saved.dict) text
      → IsRunPage name source ran with_dict text
  large : (nodes : List Node) → IsTree ran.depth ran.events nodes → IsLarge nodes → IsRunPage name source ran with_dict (large_page_text name ran.exit (ops_of ran))
