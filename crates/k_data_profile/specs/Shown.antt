-- Believed with the theorem on the top call.
-- *Profile as data*: what `show` writes as a JSON document, and as CSV.
use Rattle.std.specs.Prelude.{ℕ, ℤ, ◌≡◌, Bool, List, [], Option, Some, None}
use Rattle.k_optab.specs.declared.node.Node.{Node}
use Rattle.k_optab.specs.declared.region.Region.{Region}
use Rattle.k_dict_entries.specs.declared.entry.Entry.{Entry}
use Rattle.k_dict_saved.specs.declared.saved.Saved.{Saved}
use Rattle.k_selfpar.specs.Contexts.{AreContexts}
use Rattle.k_selfpar.specs.Rows.{AreRows}
use Rattle.k_selfpar.specs.declared.context.Context.{Context}
use Rattle.k_selfpar.specs.declared.row.Row.{Row}
use Rattle.k_plan.specs.declared.advice.Advice.{Advice}
use Rattle.k_report_profile.specs.Report.{IsPlanned, asked, nodes_of_profile}
use Rattle.k_data.specs.Document.{profile_json}
use Rattle.k_data.specs.Table.{rows_csv}

-- the contexts that are listed: those that have a plan, and none where they are too many for one
abbrev pub listed : List Context → Option Advice → List Context
listed contexts None = []
listed contexts (Some advice) = contexts

-- the document of instances: their rows, their contexts, the plan of these, and the entries of a dictionary where one is given
pub record IsDocumentOf (regions : List Region) (exit : ℤ) (ops : ℕ) (nodes : List Node) (dict : Option (List Entry)) (text : List ℕ) : Type 0 where
  pub rows : List Row
  pub contexts : List Context
  pub plan : Option Advice
  pub are_rows : AreRows nodes rows
  pub are_contexts : AreContexts regions nodes contexts
  pub planned : IsPlanned contexts plan
  pub is : text ≡ profile_json regions exit ops rows dict (listed contexts plan) plan

-- the table of the rows of instances
pub record IsTableOf (regions : List Region) (nodes : List Node) (text : List ℕ) : Type 0 where
  pub rows : List Row
  pub are_rows : AreRows nodes rows
  pub is : text ≡ rows_csv regions rows

-- the document of a profile, with its dictionary where it is asked for
abbrev pub IsDocument : Saved → Bool → List ℕ → Type 0
IsDocument saved with_dict text = IsDocumentOf saved.regions saved.exit saved.ops (nodes_of_profile saved) (asked with_dict saved.dict) text

-- the table of a profile
abbrev pub IsTable : Saved → List ℕ → Type 0
IsTable saved text = IsTableOf saved.regions (nodes_of_profile saved) text
