-- Believed with the theorem on the top call.
-- The source of a page, line by line, with what begins on each line beside it.
use Rattle.std.specs.Prelude.{ℕ, suc, ◌+◌, Bool, false, ◌==◌, nat_le, if◌then◌else◌, List, [], ◌∷◌, ◌++◌, take, drop, slice_get, Option, Some, None, codes}
use Rattle.std.specs.List.{flat_map, list_any}
use Rattle.std.specs.Fmt.{decimal}
use Rattle.k_optab.specs.declared.region.Region.{Region}
use Rattle.k_plan.specs.declared.advice.Pick.{Pick}
use Rattle.k_selfpar.specs.declared.context.Context.{Context}
use Rattle.k_selfpar.specs.declared.row.Row.{Row}
use Rattle.k_text.specs.Texts.{written}
use Rattle.k_page.specs.Amounts.{share, sums}
use Rattle.k_page.specs.Cells.{head_cell, name}
use Rattle.k_page.specs.Escapes.{escaped}
use Rattle.k_page.specs.Markup.{bare, element, started_with, texted, valued, with_one}
use Rattle.k_page.specs.Prose.{words}
use Rattle.k_page.specs.declared.markup.Attribute.TheVariants as attribute
use Rattle.k_page.specs.declared.markup.Tag.TheVariants as tag
use Rattle.k_page.specs.declared.prose.Prose.TheVariants as prose

-- a byte at the front of the first line
abbrev pub put_first : ℕ → List (List ℕ) → List (List ℕ)
put_first b [] = (b ∷ []) ∷ []
put_first b (line ∷ lines) = (b ∷ line) ∷ lines

-- THE LINES of a text, each without its newline; behind the last newline none begins where nothing stands
abbrev pub lines : List ℕ → List (List ℕ)
lines [] = []
lines (b ∷ text) = if b == 10 then [] ∷ lines text else put_first b (lines text)

-- how many bytes stand before the first newline
abbrev pub line_span : List ℕ → ℕ
line_span [] = 0
line_span (b ∷ text) = if b == 10 then 0 else suc (line_span text)

-- what stands behind the first line, and its newline
abbrev pub behind_line : List ℕ → List ℕ
behind_line [] = []
behind_line (b ∷ text) = if b == 10 then text else behind_line text

-- the region is that of the context, where there is one
abbrev pub is_region : ℕ → Option Context → Bool
is_region region None = false
is_region region (Some context) = context.region == region

-- a pick's context is of a region
abbrev pub is_of : List Context → ℕ → Pick → Bool
is_of contexts region pick = is_region region (slice_get contexts pick.context)

-- a region is picked on any way to it
abbrev pub is_region_picked : List Context → List Pick → ℕ → Bool
is_region_picked contexts picks region = list_any (is_of contexts region) picks

-- the line on which a region begins; 0 where there is none
abbrev pub line_in : Option Region → ℕ
line_in None = 0
line_in (Some region) = region.place.line

-- the line on which the region of a row begins
abbrev pub begins : List Region → Row → ℕ
begins regions row = line_in (slice_get regions row.region)

-- how many rows at the front begin on a line up to this one
abbrev pub count_to : List Region → ℕ → List Row → ℕ
count_to regions line [] = 0
count_to regions line (row ∷ rows) = if nat_le (begins regions row) line then suc (count_to regions line rows) else 0

-- a bar of the share of a row
unfoldable pub bar : ℕ → ℕ → List ℕ
bar work whole = element tag.Meter (valued attribute.Most (decimal whole) ++ valued attribute.Amount (decimal work)) (share work whole)

-- that a row is picked, where it is
abbrev pub mark : Bool → List ℕ
mark picked = if picked then texted tag.Strong (codes " picked") else []

-- what is written beside a line of a row of this region
unfoldable pub note : ℕ → Bool → Row → Region → List ℕ
note whole picked row region =
    bare tag.Paragraph (bar row.work whole ++ name region ++ sums row.instances row.work row.path row.sp ++ mark picked)

-- the same of a row, which names a region of the list
abbrev pub note_of : List Region → List Context → List Pick → ℕ → Row → List ℕ
note_of regions contexts picks whole row = written (note whole (is_region_picked contexts picks row.region) row) (slice_get regions row.region)

-- the number of a line
unfoldable pub line_head : ℕ → List ℕ
line_head number = with_one tag.HeadCell attribute.Scope (codes "row") (decimal number)

-- the text of a line
unfoldable pub line_text : List ℕ → List ℕ
line_text line = with_one tag.Cell attribute.Class (codes "w") (bare tag.Code (escaped line))

-- what stands beside it
unfoldable pub line_notes : List Region → List Context → List Pick → ℕ → List Row → List ℕ
line_notes regions contexts picks whole rows =
    with_one tag.Cell attribute.Class (codes "w") (flat_map (note_of regions contexts picks whole) rows)

-- the front of a line, by which links find it
abbrev pub line_front : ℕ → List ℕ
line_front number = started_with tag.Row attribute.Name (codes "L" ++ decimal number)

-- A LINE, with these rows beside it
unfoldable pub line_row : List Region → List Context → List Pick → ℕ → ℕ → List Row → List ℕ → List ℕ
line_row regions contexts picks whole number rows line =
    with_one tag.Row attribute.Name (codes "L" ++ decimal number)
    (line_head number ++ line_text line ++ line_notes regions contexts picks whole rows)

-- the lines from a number on, with these rows left: beside each stand those that begin up to there
abbrev pub line_rows : List Region → List Context → List Pick → ℕ → ℕ → List Row → List (List ℕ) → List ℕ
line_rows regions contexts picks whole number rows [] = []
line_rows regions contexts picks whole number rows (line ∷ lines) =
    line_row regions contexts picks whole number (take (count_to regions number rows) rows) line
    ++ line_rows regions contexts picks whole (number + 1) (drop (count_to regions number rows) rows) lines

-- the heads of the columns
unfoldable pub heads : List ℕ
heads = bare tag.Row (head_cell (codes "line") ++ head_cell (codes "source") ++ head_cell (words prose.SourceNotes))

-- THE SOURCE
unfoldable pub source_table : List Region → List Context → List Pick → ℕ → List Row → List ℕ → List ℕ
source_table regions contexts picks whole rows source =
    bare tag.Table (texted tag.Caption (codes "The source") ++ heads ++ line_rows regions contexts picks whole 1 rows (lines source))
