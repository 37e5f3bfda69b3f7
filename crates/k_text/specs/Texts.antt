-- Believed with the theorem on the top call.
-- How numbers, places, regions and runs are written.
use Rattle.std.specs.Prelude.{ℕ, ℤ, List, [], ◌++◌, Option, Some, None, codes}
use Rattle.std.specs.Fmt.{decimal, signed_decimal}
use Rattle.k_num.specs.declared.place.Place.{Place}
use Rattle.k_optab.specs.declared.region.Region.{Region}
use Rattle.k_optab.specs.declared.region.RegionKind.{RegionKind}
use Rattle.k_optab.specs.declared.region.RegionKind.TheVariants.{Func, Loop, Body}
use Rattle.k_dict_entries.specs.declared.entry.Run.{Run}

-- the line of a word and a number behind it
abbrev pub named_line : List ℕ → List ℕ → List ℕ
named_line name number = name ++ number ++ codes "\n"

-- a first text, and behind it the lines of what main returned and of how many operations were made
abbrev pub head_text : List ℕ → ℤ → ℕ → List ℕ
head_text first exit ops = first ++ named_line (codes "exit ") (signed_decimal exit) ++ named_line (codes "ops ") (decimal ops)

-- a place, as line:column
abbrev pub place_text : Place → List ℕ
place_text place = decimal place.line ++ codes ":" ++ decimal place.column

-- the word for a kind of region
abbrev pub kind_text : RegionKind → List ℕ
kind_text Func = codes "func"
kind_text Loop = codes "loop"
kind_text Body = codes "body"

-- the function of a region, and its place
abbrev pub name_text : Region → List ℕ
name_text region = region.func ++ codes " " ++ place_text region.place

-- a region: its kind, its function and its place
abbrev pub region_text : Region → List ℕ
region_text region = kind_text region.kind ++ codes " " ++ name_text region

-- what is written of a region, where there is one
abbrev pub written : (Region → List ℕ) → Option Region → List ℕ
written text None = []
written text (Some region) = text region

-- a run behind a space: which entry, and how many children are of it
abbrev pub run_text : Run → List ℕ
run_text run = codes " " ++ decimal run.entry ++ codes "*" ++ decimal run.count
