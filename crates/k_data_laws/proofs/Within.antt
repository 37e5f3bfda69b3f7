-- What is used of a profile: each number is one of 64 bits, the exit one of 32 with its sign, and each region names a function and a place of C.
use Rattle.std.proofs.Common.{ℕ, ℤ, ◌^◌, ◌<◌, List, All, Option, IfSome, FitsSigned, w32, length}
use Rattle.k_optab.specs.declared.region.Region.{Region}
use Rattle.k_dict_entries.specs.declared.entry.Entry.{Entry}
use Rattle.k_dict_entries.specs.declared.entry.Run.{Run}
use Rattle.k_dict_saved.specs.Lines.{IsRegion}
use Rattle.k_plan.specs.declared.advice.Advice.{Advice}
use Rattle.k_plan.specs.declared.advice.Pick.{Pick}
use Rattle.k_selfpar.specs.declared.context.Context.{Context}
use Rattle.k_selfpar.specs.declared.row.Row.{Row}
use Rattle.json.specs.Json.{Json}
use Rattle.k_data.specs.Document.{profile_json}
use Rattle.k_data_laws.specs.Values.{document_value}

-- what a document tells of
pub record Parts : Type 0 where
  pub regions : List Region
  pub exit : ℤ
  pub ops : ℕ
  pub rows : List Row
  pub dict : Option (List Entry)
  pub contexts : List Context
  pub plan : Option Advice

-- their document
abbrev pub text_of : Parts → List ℕ
text_of p = profile_json p.regions p.exit p.ops p.rows p.dict p.contexts p.plan

-- and their value
abbrev pub value_of : Parts → Json
value_of p = document_value p.regions p.exit p.ops p.rows p.dict p.contexts p.plan

-- a number of 64 bits
abbrev pub IsSmall : ℕ → Type 0
IsSmall n = n < 2 ^ 64

-- what instances come to together is
pub record AreSmallSums (instances work path : ℕ) (sp : ℕ × ℕ) : Type 0 where
  pub count_is : IsSmall instances
  pub work_is : IsSmall work
  pub path_is : IsSmall path
  pub num_is : IsSmall sp.0
  pub den_is : IsSmall sp.1

-- each number of a row is
pub record IsSmallRow (row : Row) : Type 0 where
  pub region : IsSmall row.region
  pub sums : AreSmallSums row.instances row.work row.path row.sp

-- of a context
pub record IsSmallContext (context : Context) : Type 0 where
  pub parent : IsSmall context.parent
  pub region : IsSmall context.region
  pub turns : IsSmall context.turns
  pub sums : AreSmallSums context.instances context.work context.path context.sp

-- of a pick
pub record IsSmallPick (pick : Pick) : Type 0 where
  pub context : IsSmall pick.context
  pub saves : IsSmall pick.saves

-- of a run
pub record IsSmallRun (run : Run) : Type 0 where
  pub entry : IsSmall run.entry
  pub count : IsSmall run.count

-- of an entry
pub record IsSmallEntry (entry : Entry) : Type 0 where
  pub region : IsSmall entry.region
  pub work : IsSmall entry.work
  pub path : IsSmall entry.path
  pub runs : All IsSmallRun entry.runs

-- of a plan
pub record IsSmallAdvice (advice : Advice) : Type 0 where
  pub picks : All IsSmallPick advice.picks
  pub total : IsSmall advice.total

-- what a document tells of is within the rules
pub record AreWithin (p : Parts) : Type 0 where
  pub regions : All IsRegion p.regions
  pub exit : FitsSigned w32 p.exit
  pub ops : IsSmall p.ops
  pub rows : All IsSmallRow p.rows
  pub dict : IfSome p.dict (All IsSmallEntry)
  pub contexts : All IsSmallContext p.contexts
  pub plan : IfSome p.plan IsSmallAdvice

-- what a table tells of is, and each row names a region of the list
pub record AreWithinTable (regions : List Region) (rows : List Row) : Type 0 where
  pub are_regions : All IsRegion regions
  pub are_small : All IsSmallRow rows
  pub named : All (λ (row : Row). row.region < length regions) rows
