-- Believed with a public law.
-- A profile as a value of JSON, in the terms of the crate `json`: an object keeps its members in order, and a number its text.
use Rattle.std.specs.Prelude.{ℕ, ℤ, List, [], ◌∷◌, Option, Some, None, codes}
use Rattle.std.specs.Fmt.{decimal, signed_decimal}
use Rattle.json.specs.Json.{Json, Items, Members, null, boolean, number, string, array, object, no_items, item, no_members, member}
use Rattle.k_optab.specs.declared.region.Region.{Region}
use Rattle.k_dict_entries.specs.declared.entry.Entry.{Entry}
use Rattle.k_dict_entries.specs.declared.entry.Run.{Run}
use Rattle.k_plan.specs.declared.advice.Advice.{Advice}
use Rattle.k_plan.specs.declared.advice.Pick.{Pick}
use Rattle.k_selfpar.specs.Contexts.{root_work}
use Rattle.k_selfpar.specs.declared.context.Context.{Context}
use Rattle.k_selfpar.specs.declared.row.Row.{Row}
use Rattle.k_text.specs.Texts.{kind_text}

-- a name and a value
abbrev pub Member : Type 0
Member = List ℕ × Json

-- members in this order
abbrev pub members_of : List Member → Members
members_of [] = no_members
members_of (m ∷ members) = member m.0 m.1 (members_of members)

-- an object of these members
abbrev pub object_of : List Member → Json
object_of members = object (members_of members)

-- a value for each
abbrev pub items_of : {X : Type 0} → (X → Json) → List X → Items
items_of value [] = no_items
items_of value (x ∷ list) = item (value x) (items_of value list)

-- an array of a value for each
abbrev pub array_of : {X : Type 0} → (X → Json) → List X → Json
array_of value list = array (items_of value list)

-- a natural number
abbrev pub natural : ℕ → Json
natural n = number (decimal n)

-- a fraction
unfoldable pub fraction_value : ℕ × ℕ → Json
fraction_value f = object_of ((codes "num", natural f.0) ∷ (codes "den", natural f.1) ∷ [])

-- how many instances there are, their work and their path together, and their self-parallelism
abbrev pub sums_members : ℕ → ℕ → ℕ → ℕ × ℕ → List Member
sums_members instances work path sp =
    (codes "instances", natural instances) ∷ (codes "work", natural work) ∷ (codes "path", natural path) ∷ (codes "sp", fraction_value sp) ∷ []

-- a region
unfoldable pub region_value : Region → Json
region_value region =
    object_of ((codes "kind", string (kind_text region.kind)) ∷ (codes "function", string region.func)
    ∷ (codes "line", natural region.place.line) ∷ (codes "column", natural region.place.column) ∷ [])

-- a row
unfoldable pub row_value : Row → Json
row_value row = object_of ((codes "region", natural row.region) ∷ sums_members row.instances row.work row.path row.sp)

-- a context
unfoldable pub context_value : Context → Json
context_value context =
    object_of ((codes "parent", natural context.parent) ∷ (codes "region", natural context.region) ∷ (codes "turns", natural context.turns)
    ∷ sums_members context.instances context.work context.path context.sp)

-- a pick
unfoldable pub pick_value : Pick → Json
pick_value pick = object_of ((codes "context", natural pick.context) ∷ (codes "doall", boolean pick.doall) ∷ (codes "saves", natural pick.saves) ∷ [])

-- children of one shape
unfoldable pub run_value : Run → Json
run_value run = object_of ((codes "entry", natural run.entry) ∷ (codes "count", natural run.count) ∷ [])

-- an entry of the dictionary
unfoldable pub entry_value : Entry → Json
entry_value entry =
    object_of ((codes "region", natural entry.region) ∷ (codes "work", natural entry.work) ∷ (codes "path", natural entry.path)
    ∷ (codes "runs", array_of run_value entry.runs) ∷ [])

-- a plan, and the work of main of which it saves, or null where there is none
unfoldable pub plan_value : Option Advice → ℕ → Json
plan_value None work = null
plan_value (Some advice) work =
    object_of ((codes "picks", array_of pick_value advice.picks) ∷ (codes "total", natural advice.total) ∷ (codes "work", natural work) ∷ [])

-- the dictionary as one more member, where it is asked for
abbrev pub dict_members : Option (List Entry) → List Member
dict_members None = []
dict_members (Some entries) = (codes "dictionary", array_of entry_value entries) ∷ []

-- THE VALUE of the document of a profile
unfoldable pub document_value : List Region → ℤ → ℕ → List Row → Option (List Entry) → List Context → Option Advice → Json
document_value regions exit ops rows dict contexts plan =
    object_of ((codes "exit", number (signed_decimal exit)) ∷ (codes "ops", natural ops) ∷ (codes "regions", array_of region_value regions)
    ∷ (codes "rows", array_of row_value rows) ∷ (codes "contexts", array_of context_value contexts)
    ∷ (codes "plan", plan_value plan (root_work contexts)) ∷ dict_members dict)
