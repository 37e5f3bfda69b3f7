-- Believed with the theorem on the top call.
-- A profile as one JSON document, and the sum of many.
use Rattle.std.specs.Prelude.{ℕ, ℤ, List, [], ◌++◌, Option, Some, None, codes}
use Rattle.std.specs.Fmt.{decimal, signed_decimal}
use Rattle.k_optab.specs.declared.region.Region.{Region}
use Rattle.k_dict_entries.specs.declared.entry.Entry.{Entry}
use Rattle.k_plan.specs.declared.advice.Advice.{Advice}
use Rattle.k_selfpar.specs.Contexts.{root_work}
use Rattle.k_selfpar.specs.declared.context.Context.{Context}
use Rattle.k_selfpar.specs.declared.row.Row.{Row}
use Rattle.k_data.specs.Records.{array, context_json, entry_json, pick_json, region_json, row_json}

-- a plan, and the work of main of which it saves
abbrev pub advice_json : Advice → ℕ → List ℕ
advice_json advice work =
    codes "{\"picks\":" ++ array pick_json advice.picks ++ codes ",\"total\":" ++ decimal advice.total ++ codes ",\"work\":" ++ decimal work ++ codes "}"

-- a plan, or null where there are too many contexts for one
abbrev pub plan_json : Option Advice → ℕ → List ℕ
plan_json None work = codes "null"
plan_json (Some advice) work = advice_json advice work

-- the dictionary as one more member, where it is asked for
abbrev pub dict_json : Option (List Entry) → List ℕ
dict_json None = []
dict_json (Some entries) = codes ",\"dictionary\":" ++ array entry_json entries

-- what main returned, how many operations were made, and the regions
abbrev pub run_members : ℤ → ℕ → List Region → List ℕ
run_members exit ops regions =
    codes "{\"exit\":" ++ signed_decimal exit ++ codes ",\"ops\":" ++ decimal ops ++ codes ",\"regions\":" ++ array region_json regions

-- how many runs there were, how many operations they made, and the regions
abbrev pub sum_members : ℕ → ℕ → List Region → List ℕ
sum_members runs ops regions =
    codes "{\"runs\":" ++ decimal runs ++ codes ",\"ops\":" ++ decimal ops ++ codes ",\"regions\":" ++ array region_json regions

-- the rows, the contexts, and the plan
abbrev pub tree_members : List Row → List Context → Option Advice → List ℕ
tree_members rows contexts plan =
    codes ",\"rows\":" ++ array row_json rows ++ codes ",\"contexts\":" ++ array context_json contexts
    ++ codes ",\"plan\":" ++ plan_json plan (root_work contexts)

-- THE DOCUMENT of a profile
abbrev pub profile_json : List Region → ℤ → ℕ → List Row → Option (List Entry) → List Context → Option Advice → List ℕ
profile_json regions exit ops rows dict contexts plan =
    run_members exit ops regions ++ tree_members rows contexts plan ++ dict_json dict ++ codes "}\n"

-- THE DOCUMENT of a sum: it differs in its first member
abbrev pub sum_json : List Region → ℕ → ℕ → List Row → Option (List Entry) → List Context → Option Advice → List ℕ
sum_json regions runs ops rows dict contexts plan =
    sum_members runs ops regions ++ tree_members rows contexts plan ++ dict_json dict ++ codes "}\n"
