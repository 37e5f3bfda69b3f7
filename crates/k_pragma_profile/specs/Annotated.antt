-- Believed with the theorem on the top call.
-- *Annotated source of a run*: what `annotate` writes where main returned.
use Rattle.std.specs.Prelude.{ℕ, ◌≡◌, if◌then◌else◌, List, [], ◌∷◌, slice_get, Option, Some, None}
use Rattle.std.specs.List.{flat_map}
use Rattle.k_optab.specs.declared.node.Node.{Node}
use Rattle.k_optab.specs.declared.region.Region.{Region}
use Rattle.k_optab.specs.Tree.{IsTree}
use Rattle.k_lex.specs.Tokens.{tokens}
use Rattle.k_types_meaning.specs.declared.tree.unit.TUnit.{TUnit}
use Rattle.k_marks_meaning.specs.declared.Marks.{Marks}
use Rattle.k_dict_saved.specs.declared.saved.Saved.{Saved}
use Rattle.k_selfpar.specs.Contexts.{AreContexts}
use Rattle.k_selfpar.specs.Rows.{AreRows}
use Rattle.k_selfpar.specs.declared.context.Context.{Context}
use Rattle.k_selfpar.specs.declared.row.Row.{Row}
use Rattle.k_plan.specs.declared.advice.Advice.{Advice}
use Rattle.k_plan.specs.declared.advice.Pick.{Pick}
use Rattle.k_report_profile.specs.Report.{IsPlanned}
use Rattle.k_report_profile.specs.RunReport.{IsLarge, IsProfileOf, Ran}
use Rattle.k_carry_pairs.specs.declared.pairs.LoopPairs.{LoopPairs}
use Rattle.k_pragma_written.specs.Written.{IsWritten}
use Rattle.k_pragma_written.specs.declared.told.Written.{Written}
use Rattle.k_pragma.specs.Insertions.{annotated}
use Rattle.k_pragma.specs.Marked.{candidates}

-- the region of a context, where there is one
abbrev pub region_of : Option Context → List ℕ
region_of None = []
region_of (Some c) = c.region ∷ []

-- the region of a pick's loop, where the pick is doall
abbrev pub picked_by : List Context → Pick → List ℕ
picked_by contexts p = if p.doall then region_of (slice_get contexts p.context) else []

-- the regions of the doall ones of these picks, in their order
unfoldable pub picked_of : List Context → List Pick → List ℕ
picked_of contexts picks = flat_map (picked_by contexts) picks

-- the regions of the doall picks of a plan; without a plan there are none
abbrev pub picked_in : List Context → Option Advice → List ℕ
picked_in contexts None = []
picked_in contexts (Some advice) = picked_of contexts advice.picks

-- THE PICKED LOOPS of instances, by their regions: those that the plan of their contexts picks as doall
pub record ArePicked (regions : List Region) (nodes : List Node) (picked : List ℕ) : Type 0 where
  pub contexts : List Context
  pub plan : Option Advice
  pub are_contexts : AreContexts regions nodes contexts
  pub planned : IsPlanned contexts plan
  pub is : picked ≡ picked_in contexts plan

-- the annotated source of instances: their rows are told, and of their picked loops those are marked that carry nothing by this and may run in parallel, by
-- what the tree of the source tells of them
pub record IsAnnotationOf (source : List ℕ) (typed : TUnit) (marks : Marks) (regions : List Region) (nodes : List Node) (found : List LoopPairs) (text : List ℕ) : Type 0 where
  pub rows : List Row
  pub picked : List ℕ
  pub are_rows : AreRows nodes rows
  pub are_picked : ArePicked regions nodes picked
  pub written : Written
  pub reads : IsWritten source written
  pub is : text ≡ annotated source (tokens source) written typed marks regions rows (candidates found picked)

-- THE ANNOTATED SOURCE of a run of a program, with its marks, whose loops carry this; or the source itself where the dictionary of the run is over its limits
pub data IsRunAnnotation (source : List ℕ) (typed : TUnit) (marks : Marks) (ran : Ran) (found : List LoopPairs) : List ℕ → Type 0 where
  whole : (nodes : List Node) (saved : Saved) (text : List ℕ) → IsTree ran.depth ran.events nodes → IsProfileOf ran nodes saved
      → IsAnnotationOf source typed marks ran.regions nodes found text
      → IsRunAnnotation source typed marks ran found text
  large : (nodes : List Node) → IsTree ran.depth ran.events nodes → IsLarge nodes → IsRunAnnotation source typed marks ran found source
