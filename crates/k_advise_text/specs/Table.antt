-- For contracts between crates: nobody has to believe it.
-- The table of a plan for threads.
use Rattle.std.specs.Prelude.{ℕ, Bool, List, [], ◌∷◌, ◌++◌, Option, Some, None, slice_get, codes, if◌then◌else◌}
use Rattle.std.specs.List.{flat_map, list_any}
use Rattle.std.specs.Fmt.{decimal, signed_decimal}
use Rattle.k_optab.specs.declared.region.Region.{Region}
use Rattle.k_ending.specs.declared.ending.End.{End}
use Rattle.k_ending.specs.declared.ending.End.TheVariants.{Returned, Trapped, OutOfSteps}
use Rattle.k_ending.specs.Traps.{trap_name}
use Rattle.k_text.specs.Texts.{place_text}
use Rattle.k_advise_verdicts.specs.declared.word.Verdict.{Verdict}
use Rattle.k_advise_verdicts.specs.declared.word.Verdict.TheVariants as verdict
use Rattle.k_advise_verdicts.specs.Figures.{share, tenths}
use Rattle.k_advise_text.specs.declared.row.Gains.{Gains}
use Rattle.k_advise_text.specs.declared.row.Ran.{Ran}
use Rattle.k_advise_text.specs.declared.row.TableRow.{TableRow}
use Rattle.k_advise_text.specs.Numbers.{between, count_text, left, ratio_text, right, tenths_text}
use Rattle.k_advise_text.specs.Reasons.{reason}
use Rattle.k_advise_text.specs.Words.{is_held_up, is_parallel, phrase, word}

-- ---- what ran

-- how a run ended
abbrev pub end_text : End → List ℕ
end_text (Returned value) = codes "exit " ++ signed_decimal value
end_text (Trapped trap place) = trap_name trap ++ codes " at " ++ place_text place
end_text OutOfSteps = codes "out of steps"

-- and behind how many operations
unfoldable pub ending_text : End → List ℕ → ℕ → List ℕ → List ℕ
ending_text end before ops behind = end_text end ++ before ++ count_text ops ++ behind

-- that only a part of the run is told, where that is so
unfoldable pub part_text : End → List ℕ
part_text (Returned value) = []
part_text _ = codes ", and the rest of the run is not told"

-- what the operations come to
unfoldable pub sums_text : Ran → List ℕ
sums_text ran = between (codes "\nwork ") (count_text ran.work) (codes ", critical path ") ++ between [] (count_text ran.path) (codes "\n\n")

-- which file ran, how that ended, and whether that is a part of it
unfoldable pub head_text : Ran → List ℕ → List ℕ → List ℕ → List ℕ
head_text ran between before behind = ran.file ++ between ++ ending_text ran.end before ran.ops behind ++ part_text ran.end

-- ---- where to begin

-- the line of a region, where there is one
abbrev pub line_in : Option Region → ℕ
line_in None = 0
line_in (Some region) = region.place.line

-- the line on which a region begins
abbrev pub line_of : List Region → ℕ → ℕ
line_of regions number = line_in (slice_get regions number)

-- the first loop that is to be made parallel
abbrev pub first_parallel : List TableRow → Option TableRow
first_parallel [] = None
first_parallel (row ∷ rows) = if is_parallel row.verdict then Some row else first_parallel rows

-- where to begin, and what that brings
unfoldable pub begin_text : ℕ → ℕ × ℕ → List ℕ
begin_text line gain = codes "begin with line " ++ decimal line ++ codes ", which makes the program " ++ ratio_text gain ++ codes " times as fast.\n\n"

-- what the heaviest loop does
abbrev pub heaviest_text : List Region → List TableRow → List ℕ
heaviest_text regions [] = codes "no loop takes a hundredth of the work.\n\n"
heaviest_text regions (row ∷ rows) = codes "the loop of line " ++ decimal (line_of regions row.region) ++ codes " " ++ phrase row.verdict ++ codes ".\n\n"

-- that nothing is gained, and what the heaviest loop does
unfoldable pub nothing_text : List Region → List TableRow → List ℕ
nothing_text regions rows = codes "nothing is gained: " ++ heaviest_text regions rows

-- where to begin, if there is a loop to begin with
abbrev pub advice : List Region → List TableRow → Option TableRow → List ℕ
advice regions rows None = nothing_text regions rows
advice regions rows (Some row) = begin_text (line_of regions row.region) row.gain

-- THE SENTENCE
unfoldable pub sentence : ℕ → List Region → List TableRow → List ℕ
sentence threads regions rows = codes "With " ++ decimal threads ++ codes " threads " ++ advice regions rows (first_parallel rows)

-- ---- the columns

-- a ratio at the right of a column
unfoldable pub ratio_cell : ℕ → ℕ × ℕ → List ℕ
ratio_cell width ratio = right width (ratio_text ratio)

-- what each plan brings, and the heads of the columns below
unfoldable pub gains_text : Gains → List ℕ
gains_text gains =
    codes "threads               2       4       8      16\ntimes as fast  " ++ ratio_cell 8 gains.two ++ ratio_cell 8 gains.four ++ ratio_cell 8 gains.eight ++ ratio_cell 8 gains.sixteen
    ++ codes "\n\n  share  self-par.  iterations  faster  verdict      loop\n"

-- tenths at the right of a column, with a sign behind them
unfoldable pub tenths_cell : ℕ → ℕ → List ℕ → List ℕ
tenths_cell width n sign = right width (tenths_text n ++ sign)

-- which line's loop a loop stands inside of
abbrev pub outer : List Region → Verdict → List ℕ
outer regions (verdict.Inside pick) = codes " " ++ decimal (line_of regions pick)
outer regions _ = []

-- the verdict on a loop, in its column
unfoldable pub verdict_cell : List Region → Verdict → List ℕ
verdict_cell regions v = codes "  " ++ left 13 (word v ++ outer regions v)

-- where a region stands: file, line and function
abbrev pub where_text : List ℕ → Option Region → List ℕ
where_text file None = []
where_text file (Some region) = file ++ codes ":" ++ decimal region.place.line ++ codes " " ++ region.func

-- the loop around a loop
abbrev pub around_text : List Region → Option ℕ → List ℕ
around_text regions None = []
around_text regions (Some number) = codes ", in line " ++ decimal (line_of regions number)

-- THE LINE of a loop
unfoldable pub row_text : Ran → List Region → TableRow → List ℕ
row_text ran regions row =
    tenths_cell 7 (share row.work ran.work) (codes "%") ++ ratio_cell 11 row.sp ++ tenths_cell 12 (tenths row.turns row.instances) [] ++ ratio_cell 8 row.gain ++ verdict_cell regions row.verdict
    ++ where_text ran.file (slice_get regions row.region) ++ around_text regions row.around ++ codes "\n"

-- ---- what to do, and what stands in the way

-- what to write before a loop that is to be made parallel
unfoldable pub pragma_text : List ℕ → List Region → TableRow → List ℕ
pragma_text file regions row = if is_parallel row.verdict then where_text file (slice_get regions row.region) ++ codes "\n  " ++ row.pragma ++ codes "\n" else []

-- a row's loop is to be made parallel
abbrev pub goes_parallel : TableRow → Bool
goes_parallel row = is_parallel row.verdict

-- something stands in the way of a row's loop
abbrev pub stands_still : TableRow → Bool
stands_still row = is_held_up row.verdict

-- what to write under this head, if something is to be written
unfoldable pub pragmas : List ℕ → List ℕ → List Region → List TableRow → List ℕ
pragmas head file regions rows = if list_any goes_parallel rows then head ++ flat_map (pragma_text file regions) rows else []

-- what stands in the way of a loop, if something does
unfoldable pub block : List ℕ → List Region → List ℕ → TableRow → List ℕ
block file regions source row =
    if is_held_up row.verdict
    then codes "\n" ++ where_text file (slice_get regions row.region) ++ codes ": " ++ word row.verdict ++ codes ", it " ++ phrase row.verdict ++ codes "\n" ++ reason source row.verdict row.name
    else []

-- what stands in the way under this head, if something does
unfoldable pub blocks : List ℕ → List ℕ → List Region → List ℕ → List TableRow → List ℕ
blocks head file regions source rows = if list_any stands_still rows then head ++ flat_map (block file regions source) rows else []

-- the lines of the loops, what to write, and what stands in the way
unfoldable pub loops_text : Ran → List Region → List TableRow → List ℕ → List ℕ
loops_text ran regions rows source =
    flat_map (row_text ran regions) rows ++ pragmas (codes "\nWhat to write\n\n") ran.file regions rows ++ blocks (codes "\nWhat stands in the way\n") ran.file regions source rows

-- THE TABLE
unfoldable pub table_text : Ran → Gains → List Region → List TableRow → List ℕ → List ℕ
table_text ran gains regions rows source =
    head_text ran (codes ": ") (codes " after ") (codes " operations") ++ sums_text ran ++ sentence ran.threads regions rows ++ gains_text gains ++ loops_text ran regions rows source
