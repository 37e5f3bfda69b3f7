-- Believed with the theorem on the top call.
-- *Texts*: the report of a run, or of many.
use Rattle.std.specs.Prelude.{ℕ, ℤ, List, ◌++◌, Option, codes, slice_get}
use Rattle.std.specs.List.{flat_map}
use Rattle.std.specs.Fmt.{decimal}
use Rattle.k_optab.specs.declared.region.Region.{Region}
use Rattle.k_dict_entries.specs.declared.entry.Entry.{Entry}
use Rattle.k_selfpar.specs.declared.row.Row.{Row}
use Rattle.k_plan.specs.declared.advice.Advice.{Advice}
use Rattle.k_selfpar.specs.declared.context.Context.{Context}
use Rattle.k_text.specs.Texts.{head_text, named_line, region_text, written}
use Rattle.k_report.specs.declared.heading.Heading.{Heading}
use Rattle.k_report.specs.declared.heading.Heading.TheVariants.{Exit, Runs}
use Rattle.k_report.specs.DictLines.{dict_text}
use Rattle.k_report.specs.PlanLines.{plan_text}

-- the first lines of a report on so many runs: how many there were, and how many operations they made together
abbrev pub runs_title : ℕ → ℕ → List ℕ
runs_title runs ops = named_line (codes "== kremlin ==\nruns ") (decimal runs) ++ named_line (codes "ops ") (decimal ops)

-- the first lines: what main returned, or how many runs there were, and how many operations were made
abbrev pub title_text : Heading → ℕ → List ℕ
title_text (Exit exit) ops = head_text (codes "== kremlin ==\n") exit ops
title_text (Runs runs) ops = runs_title runs ops

-- the numbers of a row: instances, work, path, and self-parallelism as a fraction
abbrev pub numbers_text : Row → List ℕ
numbers_text row =
    codes " n=" ++ decimal row.instances ++ codes " work=" ++ decimal row.work ++ codes " path=" ++ decimal row.path
    ++ codes " sp=" ++ decimal row.sp.0 ++ codes "/" ++ decimal row.sp.1 ++ codes "\n"

-- the line of a row of this region
abbrev pub row_text : Row → Region → List ℕ
row_text row region = region_text region ++ numbers_text row

-- the line of a row, which names a region of the list
abbrev pub row_line : List Region → Row → List ℕ
row_line regions row = written (row_text row) (slice_get regions row.region)

-- the report: the first lines, a line for each row, the dictionary where it is asked for, and the plan
abbrev pub report_text : List Region → Heading → ℕ → List Row → Option (List Entry) → List Context → Option Advice → List ℕ
report_text regions heading ops rows dict contexts plan =
    title_text heading ops ++ flat_map (row_line regions) rows ++ dict_text dict ++ plan_text regions contexts plan

-- the line where the dictionary is over its limits
abbrev pub large_line : List ℕ
large_line = codes "profile: over the dictionary's limits\n"

-- the report where the dictionary is over its limits
abbrev pub large_text : ℤ → ℕ → List ℕ
large_text exit ops = title_text (Exit exit) ops ++ large_line
