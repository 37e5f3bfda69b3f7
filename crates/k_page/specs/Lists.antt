-- Believed with the theorem on the top call.
-- The tables of a page: the plan, the rows and the dictionary.
use Rattle.std.specs.Prelude.{ℕ, suc, Bool, if◌then◌else◌, List, [], ◌∷◌, ◌++◌, Option, Some, None, slice_get, codes}
use Rattle.std.specs.List.{flat_map}
use Rattle.std.specs.Fmt.{decimal}
use Rattle.k_optab.specs.declared.region.Region.{Region}
use Rattle.k_dict_entries.specs.declared.entry.Entry.{Entry}
use Rattle.k_plan.specs.declared.advice.Advice.{Advice}
use Rattle.k_plan.specs.declared.advice.Pick.{Pick}
use Rattle.k_selfpar.specs.declared.context.Context.{Context}
use Rattle.k_selfpar.specs.declared.row.Row.{Row}
use Rattle.k_text.specs.Texts.{run_text, written}
use Rattle.k_page.specs.Amounts.{ratio, share}
use Rattle.k_page.specs.Cells.{head_cell, line_cell, name_cell, text_cell}
use Rattle.k_page.specs.Markup.{bare, texted}
use Rattle.k_page.specs.Prose.{words}
use Rattle.k_page.specs.declared.markup.Tag.TheVariants as tag
use Rattle.k_page.specs.declared.prose.Prose.TheVariants as prose

-- a cell of a share
unfoldable pub share_cell : ℕ → ℕ → List ℕ
share_cell part whole = bare tag.Cell (share part whole)

-- a cell of a fraction
unfoldable pub ratio_cell : ℕ × ℕ → List ℕ
ratio_cell f = bare tag.Cell (ratio f)

-- the numbers of a row
unfoldable pub row_cells : ℕ → Row → List ℕ
row_cells whole row =
    text_cell (decimal row.instances) ++ text_cell (decimal row.work) ++ share_cell row.work whole ++ text_cell (decimal row.path) ++ ratio_cell row.sp

-- the line of a row of this region
unfoldable pub row_of : ℕ → Row → Region → List ℕ
row_of whole row region = bare tag.Row (name_cell region ++ line_cell region.place.line ++ row_cells whole row)

-- the line of a row, which names a region of the list
abbrev pub row_line : List Region → ℕ → Row → List ℕ
row_line regions whole row = written (row_of whole row) (slice_get regions row.region)

-- the heads of the columns of numbers
unfoldable pub number_heads : List ℕ
number_heads = head_cell (codes "n") ++ head_cell (codes "work") ++ head_cell (codes "share") ++ head_cell (codes "path") ++ head_cell (codes "sp")

-- the heads of the columns of rows
unfoldable pub row_heads : List ℕ
row_heads = bare tag.Row (head_cell (codes "region") ++ head_cell (codes "line") ++ number_heads)

-- THE ROWS
unfoldable pub rows_table : List Region → ℕ → List Row → List ℕ
rows_table regions whole rows =
    bare tag.Table (texted tag.Caption (words prose.RowsCaption) ++ row_heads
    ++ flat_map (row_line regions whole) rows)

-- whether the turns of a pick look independent
abbrev pub way_word : Bool → List ℕ
way_word doall = if doall then codes "doall" else codes "doacross"

-- the cells of a pick
unfoldable pub pick_cells : ℕ → Pick → List ℕ
pick_cells whole pick = texted tag.Cell (way_word pick.doall) ++ text_cell (decimal pick.saves) ++ share_cell pick.saves whole

-- the line of a pick whose context is of this region
unfoldable pub pick_of : ℕ → Pick → Region → List ℕ
pick_of whole pick region = bare tag.Row (name_cell region ++ line_cell region.place.line ++ pick_cells whole pick)

-- the line of a pick of this context
abbrev pub pick_in : List Region → ℕ → Pick → Context → List ℕ
pick_in regions whole pick context = written (pick_of whole pick) (slice_get regions context.region)

-- what is written of a context, where there is one
abbrev pub written_of : (Context → List ℕ) → Option Context → List ℕ
written_of text None = []
written_of text (Some context) = text context

-- the line of a pick, which names a context of the list
abbrev pub pick_line : List Region → List Context → ℕ → Pick → List ℕ
pick_line regions contexts whole pick = written_of (pick_in regions whole pick) (slice_get contexts pick.context)

-- the heads of the cells of picks
unfoldable pub pick_cell_heads : List ℕ
pick_cell_heads = head_cell (codes "way") ++ head_cell (codes "saves") ++ head_cell (codes "share")

-- the heads of the columns of picks
unfoldable pub pick_heads : List ℕ
pick_heads = bare tag.Row (head_cell (codes "loop") ++ head_cell (codes "line") ++ pick_cell_heads)

-- a plan
unfoldable pub advice_table : List Region → List Context → ℕ → Advice → List ℕ
advice_table regions contexts whole advice =
    bare tag.Table (texted tag.Caption (words prose.PlanCaption) ++ pick_heads
    ++ flat_map (pick_line regions contexts whole) advice.picks)

-- THE PLAN, or that there is none
unfoldable pub plan_part : List Region → List Context → ℕ → Option Advice → List ℕ
plan_part regions contexts whole None = texted tag.Paragraph (words prose.NoPlan)
plan_part regions contexts whole (Some advice) = advice_table regions contexts whole advice

-- the children of an entry
unfoldable pub run_cell : Entry → List ℕ
run_cell entry = bare tag.Cell (flat_map run_text entry.runs)

-- the cells of an entry
unfoldable pub entry_cells : Entry → List ℕ
entry_cells entry = text_cell (decimal entry.work) ++ text_cell (decimal entry.path) ++ run_cell entry

-- the line of an entry of this number and region
unfoldable pub entry_of : ℕ → Entry → Region → List ℕ
entry_of number entry region = bare tag.Row (name_cell region ++ text_cell (decimal number) ++ entry_cells entry)

-- the line of an entry, which names a region of the list
abbrev pub entry_line : List Region → ℕ → Entry → List ℕ
entry_line regions number entry = written (entry_of number entry) (slice_get regions entry.region)

-- the lines of entries, which are counted from a number on
abbrev pub entry_lines : List Region → ℕ → List Entry → List ℕ
entry_lines regions number [] = []
entry_lines regions number (entry ∷ entries) = entry_line regions number entry ++ entry_lines regions (suc number) entries

-- the heads of the cells of entries
unfoldable pub entry_cell_heads : List ℕ
entry_cell_heads = head_cell (codes "work") ++ head_cell (codes "path") ++ head_cell (codes "children")

-- the heads of the columns of entries
unfoldable pub entry_heads : List ℕ
entry_heads = bare tag.Row (head_cell (codes "region") ++ head_cell (codes "entry") ++ entry_cell_heads)

-- entries
unfoldable pub entry_table : List Region → List Entry → List ℕ
entry_table regions entries =
    bare tag.Table (texted tag.Caption (words prose.DictionaryCaption) ++ entry_heads
    ++ entry_lines regions 0 entries)

-- THE DICTIONARY, where it is given
unfoldable pub dictionary_part : List Region → Option (List Entry) → List ℕ
dictionary_part regions None = []
dictionary_part regions (Some entries) = entry_table regions entries
