-- Believed with the theorem on the top call.
-- The parts of a profile as JSON (RFC 8259): numbers as numbers, a fraction as its two parts. Names of functions are names of C, so that nothing in a text
-- has to be escaped.
use Rattle.std.specs.Prelude.{ℕ, Bool, if◌then◌else◌, List, ◌++◌, codes}
use Rattle.std.specs.List.{join_by}
use Rattle.std.specs.Fmt.{decimal}
use Rattle.k_optab.specs.declared.region.Region.{Region}
use Rattle.k_dict_entries.specs.declared.entry.Entry.{Entry}
use Rattle.k_dict_entries.specs.declared.entry.Run.{Run}
use Rattle.k_plan.specs.declared.advice.Pick.{Pick}
use Rattle.k_selfpar.specs.declared.context.Context.{Context}
use Rattle.k_selfpar.specs.declared.row.Row.{Row}
use Rattle.k_text.specs.Texts.{kind_text}

-- what stands between two values of a list
abbrev pub comma : List ℕ
comma = codes ","

-- a list of values
abbrev pub array : {X : Type 0} → (X → List ℕ) → List X → List ℕ
array value list = codes "[" ++ join_by value comma list ++ codes "]"

-- a fraction
abbrev pub fraction_json : ℕ × ℕ → List ℕ
fraction_json f = codes "{\"num\":" ++ decimal f.0 ++ codes ",\"den\":" ++ decimal f.1 ++ codes "}"

-- how many instances there are, their work and their path together, behind other members
abbrev pub counts_json : ℕ → ℕ → ℕ → List ℕ
counts_json instances work path = codes ",\"instances\":" ++ decimal instances ++ codes ",\"work\":" ++ decimal work ++ codes ",\"path\":" ++ decimal path

-- and their self-parallelism
abbrev pub sums_json : ℕ → ℕ → ℕ → ℕ × ℕ → List ℕ
sums_json instances work path sp = counts_json instances work path ++ codes ",\"sp\":" ++ fraction_json sp

-- the kind and the function of a region
abbrev pub region_name : Region → List ℕ
region_name region = codes "{\"kind\":\"" ++ kind_text region.kind ++ codes "\",\"function\":\"" ++ region.func

-- a region: its kind, its function, and its place
unfoldable pub region_json : Region → List ℕ
region_json region =
    region_name region ++ codes "\",\"line\":" ++ decimal region.place.line ++ codes ",\"column\":" ++ decimal region.place.column ++ codes "}"

-- a row, with the number of its region
unfoldable pub row_json : Row → List ℕ
row_json row = codes "{\"region\":" ++ decimal row.region ++ sums_json row.instances row.work row.path row.sp ++ codes "}"

-- the numbers of the context around a context and of its region, and how many turns a loop took
abbrev pub context_head : Context → List ℕ
context_head context =
    codes "{\"parent\":" ++ decimal context.parent ++ codes ",\"region\":" ++ decimal context.region ++ codes ",\"turns\":" ++ decimal context.turns

-- a context
unfoldable pub context_json : Context → List ℕ
context_json context = context_head context ++ sums_json context.instances context.work context.path context.sp ++ codes "}"

-- a truth value
abbrev pub truth_json : Bool → List ℕ
truth_json is = if is then codes "true" else codes "false"

-- whether the turns of a pick look independent
abbrev pub doall_json : Bool → List ℕ
doall_json doall = codes ",\"doall\":" ++ truth_json doall

-- a pick: the number of its context, whether its turns look independent, and what it saves
unfoldable pub pick_json : Pick → List ℕ
pick_json pick =
    codes "{\"context\":" ++ decimal pick.context ++ doall_json pick.doall ++ codes ",\"saves\":" ++ decimal pick.saves ++ codes "}"

-- children of one shape: the number of their entry, and how many there are
unfoldable pub run_json : Run → List ℕ
run_json run = codes "{\"entry\":" ++ decimal run.entry ++ codes ",\"count\":" ++ decimal run.count ++ codes "}"

-- an entry of the dictionary
unfoldable pub entry_json : Entry → List ℕ
entry_json entry =
    codes "{\"region\":" ++ decimal entry.region ++ codes ",\"work\":" ++ decimal entry.work ++ codes ",\"path\":" ++ decimal entry.path
    ++ codes ",\"runs\":" ++ array run_json entry.runs ++ codes "}"
