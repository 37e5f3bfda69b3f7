-- Believed with a public law.
-- What `show` writes of a profile as data is read back as the same data: the statements of the laws.
use Rattle.std.specs.Prelude.{ℕ, ◌≡◌, ◌++◌, Bool, List, Option, Some, codes}
use Rattle.csv.specs.Reading.{AreRecords, default_config}
use Rattle.csv.specs.declared.parser.State.TheVariants as state
use Rattle.json.specs.Json.{Json, document}
use Rattle.json.specs.Print.{print}
use Rattle.json.specs.Tree.{json_tokens}
use Rattle.k_dict_saved.specs.Profile.{IsSaved}
use Rattle.k_dict_saved.specs.declared.saved.Saved.{Saved}
use Rattle.k_plan.specs.declared.advice.Advice.{Advice}
use Rattle.k_selfpar.specs.Contexts.{AreContexts}
use Rattle.k_selfpar.specs.Rows.{AreRows}
use Rattle.k_selfpar.specs.declared.context.Context.{Context}
use Rattle.k_selfpar.specs.declared.row.Row.{Row}
use Rattle.k_report_profile.specs.Report.{IsPlanned, asked, nodes_of_profile}
use Rattle.k_data_profile.specs.Shown.{IsDocument, IsTable, listed}
use Rattle.k_data_laws.specs.Fields.{table_records}
use Rattle.k_data_laws.specs.Values.{document_value}

-- the value of a profile: of its run, its regions, its rows, the contexts that are listed, their plan, and its dictionary where this is asked for
pub record IsValue (saved : Saved) (with_dict : Bool) (value : Json) : Type 0 where
  pub rows : List Row
  pub contexts : List Context
  pub plan : Option Advice
  pub are_rows : AreRows (nodes_of_profile saved) rows
  pub are_contexts : AreContexts saved.regions (nodes_of_profile saved) contexts
  pub planned : IsPlanned contexts plan
  pub is : value ≡ document_value saved.regions saved.exit saved.ops rows (asked with_dict saved.dict) (listed contexts plan) plan

-- the records of a profile: those of its rows
pub record AreRecordsOf (saved : Saved) (table : List (List (List ℕ))) : Type 0 where
  pub rows : List Row
  pub are_rows : AreRows (nodes_of_profile saved) rows
  pub is : table ≡ table_records saved.regions rows

-- the document of a profile is a text of JSON, and what it means is the value of the profile
abbrev pub DocumentIsRead : Type 0
DocumentIsRead = (saved : Saved) (with_dict : Bool) (text : List ℕ) → IsSaved saved → IsDocument saved with_dict text
    → (value : Json) × (document text ≡ Some value) × IsValue saved with_dict value

-- the document of a profile is what the crate `json` writes of the value of the profile, and a newline
abbrev pub DocumentIsPrinted : Type 0
DocumentIsPrinted = (saved : Saved) (with_dict : Bool) (text : List ℕ) → IsSaved saved → IsDocument saved with_dict text
    → (value : Json) × IsValue saved with_dict value × (text ≡ print (json_tokens value) ++ codes "\n")

-- the table of a profile is a text of CSV, and its records are those of the profile
abbrev pub TableIsRead : Type 0
TableIsRead = (saved : Saved) (text : List ℕ) → IsSaved saved → IsTable saved text
    → (table : List (List (List ℕ))) × AreRecords default_config state.StartRecord text table × AreRecordsOf saved table
