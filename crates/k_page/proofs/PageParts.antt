-- A page is HTML, part by part.
use Rattle.std.proofs.Common.{ℕ, ℤ, suc, ◌+◌, ◌/◌, ◌%◌, ◌≡◌, ◌==◌, Bool, true, false, if◌then◌else◌, nat_lt, List, [], ◌∷◌, ◌++◌, take, drop, slice_get, Option, Some, None, codes, refl}
use Rattle.std.specs.Fmt.{decimal, signed_decimal}
use Rattle.std.specs.List.{flat_map}
use Rattle.k_optab.specs.declared.region.Region.{Region}
use Rattle.k_optab.specs.declared.region.RegionKind.{RegionKind}
use Rattle.k_optab.specs.declared.region.RegionKind.TheVariants.{Func, Loop, Body}
use Rattle.k_dict_entries.specs.declared.entry.Entry.{Entry}
use Rattle.k_dict_entries.specs.declared.entry.Run.{Run}
use Rattle.k_plan.specs.declared.advice.Advice.{Advice}
use Rattle.k_plan.specs.declared.advice.Pick.{Pick}
use Rattle.k_selfpar.specs.declared.context.Context.{Context}
use Rattle.k_selfpar.specs.declared.row.Row.{Row}
use Rattle.k_text.specs.Texts.{kind_text, place_text, run_text}
use Rattle.k_num.specs.declared.place.Place.{Place}
use Rattle.k_page.specs.Amounts as amounts
use Rattle.k_page.specs.Cells as cells
use Rattle.k_page.specs.Escapes.{escaped}
use Rattle.k_page.specs.Facts as facts
use Rattle.k_page.specs.Html.{AreAttributes, IsHtml, IsText, beside, both, ended, inside, one, told}
use Rattle.k_page.specs.Laws.{LargePageIsHtml, PageIsHtml}
use Rattle.k_page.specs.Lists as lists
use Rattle.k_page.specs.Markup.{bare, element, texted, valued, with_one}
use Rattle.k_page.specs.Page as pages
use Rattle.k_page.specs.Picture as pictures
use Rattle.k_page.specs.Prose.{closing, opening, words}
use Rattle.k_page.specs.Source as sources
use Rattle.k_page.specs.Tiles.{levels_from, tiles}
use Rattle.k_page.specs.declared.markup.Attribute.{Attribute}
use Rattle.k_page.specs.declared.markup.Attribute.TheVariants as attribute
use Rattle.k_page.specs.declared.markup.Tag.{Tag}
use Rattle.k_page.specs.declared.markup.Tag.TheVariants as tag
use Rattle.k_page.specs.declared.prose.Prose.{Prose}
use Rattle.k_page.specs.declared.prose.Prose.TheVariants as prose
use Rattle.k_page.specs.declared.tiles.Tile.{Tile}
use Rattle.k_page.proofs.Escaping.{escaped_is_text, text_beside}
use Rattle.k_page.proofs.Pieces.{bare_html, context_html, each_html, each_text, has_no_mark, number_text, one_html, region_html, signed_text, text_of, texted_html}

-- fixed texts
literal : (text : List ℕ) → has_no_mark text ≡ true → IsHtml text
literal text is = told text (text_of text is)

-- a text behind pieces of text
word_text : (front back : List ℕ) → has_no_mark front ≡ true → IsText back → IsText (front ++ back)
word_text front back is text = text_beside front back (text_of front is) text

words_text : (p : Prose) → IsText (words p)
unfolding words
words_text prose.Work = text_of (words prose.Work) refl
words_text prose.Parallel = text_of (words prose.Parallel) refl
words_text prose.Saving = text_of (words prose.Saving) refl
words_text prose.Picture = text_of (words prose.Picture) refl
words_text prose.OneRun = text_of (words prose.OneRun) refl
words_text prose.NoPlan = text_of (words prose.NoPlan) refl
words_text prose.Large = text_of (words prose.Large) refl
words_text prose.Heading = text_of (words prose.Heading) refl
words_text prose.Meaning = text_of (words prose.Meaning) refl
words_text prose.RowsCaption = text_of (words prose.RowsCaption) refl
words_text prose.PlanCaption = text_of (words prose.PlanCaption) refl
words_text prose.DictionaryCaption = text_of (words prose.DictionaryCaption) refl
words_text prose.ShadesCaption = text_of (words prose.ShadesCaption) refl
words_text prose.PictureTitle = text_of (words prose.PictureTitle) refl
words_text prose.PictureText = text_of (words prose.PictureText) refl
words_text prose.SourceNotes = text_of (words prose.SourceNotes) refl
words_text prose.BelowTwo = text_of (words prose.BelowTwo) refl
words_text prose.BelowFive = text_of (words prose.BelowFive) refl
words_text prose.BelowTwentyFive = text_of (words prose.BelowTwentyFive) refl
words_text prose.BelowHundred = text_of (words prose.BelowHundred) refl
words_text prose.HundredAndMore = text_of (words prose.HundredAndMore) refl

prose_html : (t : Tag) (p : Prose) → IsHtml (texted t (words p))
prose_html t p = texted_html t (words p) (words_text p)

-- AMOUNTS
share_text : (part whole : ℕ) → IsText (amounts.share part whole)
unfolding amounts.share
share_text part whole =
    let tenths : ℕ = amounts.scaled part whole 1000 in
    text_beside (decimal (tenths / 10) ++ codes "." ++ decimal (tenths % 10)) (codes " %")
    (text_beside (decimal (tenths / 10) ++ codes ".") (decimal (tenths % 10)) (text_beside (decimal (tenths / 10)) (codes ".") (number_text (tenths / 10)) (text_of (codes ".") refl))
    (number_text (tenths % 10))) (text_of (codes " %") refl)

ratio_text : (f : ℕ × ℕ) → IsText (amounts.ratio f)
unfolding amounts.ratio
ratio_text f =
    text_beside (decimal f.0 ++ codes "/") (decimal f.1) (text_beside (decimal f.0) (codes "/") (number_text f.0) (text_of (codes "/") refl)) (number_text f.1)

-- a word and a number behind other text
named_text : (front word : List ℕ) (n : ℕ) → IsText front → has_no_mark word ≡ true → IsText (front ++ word ++ decimal n)
named_text front word n text is = text_beside (front ++ word) (decimal n) (text_beside front word text (text_of word is)) (number_text n)

sums_text : (instances work path : ℕ) (sp : ℕ × ℕ) → IsText (amounts.sums instances work path sp)
unfolding amounts.sums
sums_text instances work path sp =
    let n : List ℕ = codes " n=" ++ decimal instances in
    let w : List ℕ = n ++ codes " work=" ++ decimal work in
    let p : List ℕ = w ++ codes " path=" ++ decimal path in
    text_beside (p ++ codes " sp=") (amounts.ratio sp)
    (text_beside p (codes " sp=")
    (named_text w (codes " path=") path
    (named_text n (codes " work=") work (word_text (codes " n=") (decimal instances) refl (number_text instances)) refl) refl) (text_of (codes " sp=") refl)) (ratio_text sp)

-- by a test
either_text : (b : Bool) (front back : List ℕ) → IsText front → IsText back → IsText (if b then front else back)
either_text true front back a c = a
either_text false front back a c = c

either_html : (b : Bool) (front back : List ℕ) → IsHtml front → IsHtml back → IsHtml (if b then front else back)
either_html true front back a c = a
either_html false front back a c = c

shade_text : (n : ℕ) → IsText (amounts.shade_of n)
unfolding amounts.shade_of
shade_text n =
    either_text (nat_lt n 2) (codes "s1") _ (text_of (codes "s1") refl)
    (either_text (nat_lt n 5) (codes "s2") _ (text_of (codes "s2") refl)
    (either_text (nat_lt n 25) (codes "s3") _ (text_of (codes "s3") refl)
    (either_text (nat_lt n 100) (codes "s4") (codes "s5") (text_of (codes "s4") refl) (text_of (codes "s5") refl))))

-- CELLS
kind_is_text : (k : RegionKind) → IsText (kind_text k)
kind_is_text Func = text_of (codes "func") refl
kind_is_text Loop = text_of (codes "loop") refl
kind_is_text Body = text_of (codes "body") refl

name_text : (r : Region) → IsText (cells.name r)
unfolding cells.name
name_text r =
    text_beside (kind_text r.kind ++ codes " ") (escaped r.func) (text_beside (kind_text r.kind) (codes " ") (kind_is_text r.kind) (text_of (codes " ") refl))
    (escaped_is_text r.func)

head_html : (text : List ℕ) → IsText text → IsHtml (cells.head_cell text)
unfolding cells.head_cell
head_html text is = one_html tag.HeadCell attribute.Scope (codes "col") text (text_of (codes "col") refl) (told text is)

heads_html : (text : List ℕ) → has_no_mark text ≡ true → IsHtml (cells.head_cell text)
heads_html text is = head_html text (text_of text is)

cell_html : (text : List ℕ) → IsText text → IsHtml (cells.text_cell text)
unfolding cells.text_cell
cell_html text is = bare_html tag.Cell text (told text is)

link_html : (line : ℕ) → IsHtml (cells.line_link line)
unfolding cells.line_link
link_html line =
    inside tag.Link (valued attribute.Target (codes "#L" ++ decimal line)) (decimal line)
    (one attribute.Target (codes "#L" ++ decimal line) (word_text (codes "#L") (decimal line) refl (number_text line))) (told (decimal line) (number_text line))

line_html : (line : ℕ) → IsHtml (cells.line_cell line)
unfolding cells.line_cell
line_html line = bare_html tag.Cell (cells.line_link line) (link_html line)

name_html : (r : Region) → IsHtml (cells.name_cell r)
unfolding cells.name_cell
name_html r = one_html tag.HeadCell attribute.Scope (codes "row") (cells.name r) (text_of (codes "row") refl) (told (cells.name r) (name_text r))

-- pieces one behind the other
three : (a b c : List ℕ) → IsHtml a → IsHtml b → IsHtml c → IsHtml (a ++ b ++ c)
three a b c x y z = beside (a ++ b) c (beside a b x y) z

four : (a b c d : List ℕ) → IsHtml a → IsHtml b → IsHtml c → IsHtml d → IsHtml (a ++ b ++ c ++ d)
four a b c d x y z w = beside (a ++ b ++ c) d (three a b c x y z) w

five : (a b c d e : List ℕ) → IsHtml a → IsHtml b → IsHtml c → IsHtml d → IsHtml e → IsHtml (a ++ b ++ c ++ d ++ e)
five a b c d e x y z w v = beside (a ++ b ++ c ++ d) e (four a b c d x y z w) v

-- LISTS
share_html : (part whole : ℕ) → IsHtml (lists.share_cell part whole)
unfolding lists.share_cell
share_html part whole = bare_html tag.Cell (amounts.share part whole) (told (amounts.share part whole) (share_text part whole))

ratio_html : (f : ℕ × ℕ) → IsHtml (lists.ratio_cell f)
unfolding lists.ratio_cell
ratio_html f = bare_html tag.Cell (amounts.ratio f) (told (amounts.ratio f) (ratio_text f))

number_html : (n : ℕ) → IsHtml (cells.text_cell (decimal n))
number_html n = cell_html (decimal n) (number_text n)

row_cells_html : (whole : ℕ) (row : Row) → IsHtml (lists.row_cells whole row)
unfolding lists.row_cells
row_cells_html whole row =
    five (cells.text_cell (decimal row.instances)) (cells.text_cell (decimal row.work)) (lists.share_cell row.work whole) (cells.text_cell (decimal row.path))
    (lists.ratio_cell row.sp) (number_html row.instances) (number_html row.work) (share_html row.work whole) (number_html row.path) (ratio_html row.sp)

row_html : (whole : ℕ) (row : Row) (r : Region) → IsHtml (lists.row_of whole row r)
unfolding lists.row_of
row_html whole row r =
    bare_html tag.Row (cells.name_cell r ++ cells.line_cell r.place.line ++ lists.row_cells whole row)
    (three (cells.name_cell r) (cells.line_cell r.place.line) (lists.row_cells whole row) (name_html r) (line_html r.place.line) (row_cells_html whole row))

number_heads_html : IsHtml lists.number_heads
unfolding lists.number_heads
number_heads_html =
    five (cells.head_cell (codes "n")) (cells.head_cell (codes "work")) (cells.head_cell (codes "share")) (cells.head_cell (codes "path")) (cells.head_cell (codes "sp"))
    (heads_html (codes "n") refl) (heads_html (codes "work") refl) (heads_html (codes "share") refl) (heads_html (codes "path") refl) (heads_html (codes "sp") refl)

row_heads_html : IsHtml lists.row_heads
unfolding lists.row_heads
row_heads_html =
    bare_html tag.Row (cells.head_cell (codes "region") ++ cells.head_cell (codes "line") ++ lists.number_heads)
    (three (cells.head_cell (codes "region")) (cells.head_cell (codes "line")) lists.number_heads (heads_html (codes "region") refl) (heads_html (codes "line") refl)
    number_heads_html)

rows_html : (regions : List Region) (whole : ℕ) (rows : List Row) → IsHtml (lists.rows_table regions whole rows)
unfolding lists.rows_table
rows_html regions whole rows =
    bare_html tag.Table (texted tag.Caption (words prose.RowsCaption) ++ lists.row_heads ++ flat_map (lists.row_line regions whole) rows)
    (three (texted tag.Caption (words prose.RowsCaption)) lists.row_heads (flat_map (lists.row_line regions whole) rows) (prose_html tag.Caption prose.RowsCaption) row_heads_html
    (each_html (lists.row_line regions whole) (λ row. region_html (lists.row_of whole row) (row_html whole row) (slice_get regions row.region)) rows))

way_is_text : (doall : Bool) → IsText (lists.way_word doall)
way_is_text true = text_of (codes "doall") refl
way_is_text false = text_of (codes "doacross") refl

pick_cells_html : (whole : ℕ) (pick : Pick) → IsHtml (lists.pick_cells whole pick)
unfolding lists.pick_cells
pick_cells_html whole pick =
    three (texted tag.Cell (lists.way_word pick.doall)) (cells.text_cell (decimal pick.saves)) (lists.share_cell pick.saves whole)
    (texted_html tag.Cell (lists.way_word pick.doall) (way_is_text pick.doall)) (number_html pick.saves) (share_html pick.saves whole)

pick_html : (whole : ℕ) (pick : Pick) (r : Region) → IsHtml (lists.pick_of whole pick r)
unfolding lists.pick_of
pick_html whole pick r =
    bare_html tag.Row (cells.name_cell r ++ cells.line_cell r.place.line ++ lists.pick_cells whole pick)
    (three (cells.name_cell r) (cells.line_cell r.place.line) (lists.pick_cells whole pick) (name_html r) (line_html r.place.line) (pick_cells_html whole pick))

pick_cell_heads_html : IsHtml lists.pick_cell_heads
unfolding lists.pick_cell_heads
pick_cell_heads_html =
    three (cells.head_cell (codes "way")) (cells.head_cell (codes "saves")) (cells.head_cell (codes "share")) (heads_html (codes "way") refl) (heads_html (codes "saves") refl)
    (heads_html (codes "share") refl)

pick_heads_html : IsHtml lists.pick_heads
unfolding lists.pick_heads
pick_heads_html =
    bare_html tag.Row (cells.head_cell (codes "loop") ++ cells.head_cell (codes "line") ++ lists.pick_cell_heads)
    (three (cells.head_cell (codes "loop")) (cells.head_cell (codes "line")) lists.pick_cell_heads (heads_html (codes "loop") refl) (heads_html (codes "line") refl)
    pick_cell_heads_html)

pick_line_html : (regions : List Region) (contexts : List Context) (whole : ℕ) (pick : Pick) → IsHtml (lists.pick_line regions contexts whole pick)
pick_line_html regions contexts whole pick =
    context_html (lists.pick_in regions whole pick) (λ c. region_html (lists.pick_of whole pick) (pick_html whole pick) (slice_get regions c.region))
    (slice_get contexts pick.context)

advice_html : (regions : List Region) (contexts : List Context) (whole : ℕ) (advice : Advice) → IsHtml (lists.advice_table regions contexts whole advice)
unfolding lists.advice_table
advice_html regions contexts whole advice =
    bare_html tag.Table (texted tag.Caption (words prose.PlanCaption) ++ lists.pick_heads ++ flat_map (lists.pick_line regions contexts whole) advice.picks)
    (three (texted tag.Caption (words prose.PlanCaption)) lists.pick_heads (flat_map (lists.pick_line regions contexts whole) advice.picks) (prose_html tag.Caption prose.PlanCaption)
    pick_heads_html (each_html (lists.pick_line regions contexts whole) (pick_line_html regions contexts whole) advice.picks))

plan_html : (regions : List Region) (contexts : List Context) (whole : ℕ) (plan : Option Advice) → IsHtml (lists.plan_part regions contexts whole plan)
unfolding lists.plan_part
plan_html regions contexts whole None = prose_html tag.Paragraph prose.NoPlan
plan_html regions contexts whole (Some advice) = advice_html regions contexts whole advice

run_is_text : (run : Run) → IsText (run_text run)
run_is_text run = named_text (codes " " ++ decimal run.entry) (codes "*") run.count (word_text (codes " ") (decimal run.entry) refl (number_text run.entry)) refl

run_cell_html : (entry : Entry) → IsHtml (lists.run_cell entry)
unfolding lists.run_cell
run_cell_html entry = bare_html tag.Cell (flat_map run_text entry.runs) (told (flat_map run_text entry.runs) (each_text run_text run_is_text entry.runs))

entry_cells_html : (entry : Entry) → IsHtml (lists.entry_cells entry)
unfolding lists.entry_cells
entry_cells_html entry =
    three (cells.text_cell (decimal entry.work)) (cells.text_cell (decimal entry.path)) (lists.run_cell entry) (number_html entry.work) (number_html entry.path) (run_cell_html entry)

entry_html : (number : ℕ) (entry : Entry) (r : Region) → IsHtml (lists.entry_of number entry r)
unfolding lists.entry_of
entry_html number entry r =
    bare_html tag.Row (cells.name_cell r ++ cells.text_cell (decimal number) ++ lists.entry_cells entry)
    (three (cells.name_cell r) (cells.text_cell (decimal number)) (lists.entry_cells entry) (name_html r) (number_html number) (entry_cells_html entry))

entry_lines_html : (regions : List Region) (number : ℕ) (entries : List Entry) → IsHtml (lists.entry_lines regions number entries)
entry_lines_html regions number [] = told [] ended
entry_lines_html regions number (entry ∷ entries) =
    beside (lists.entry_line regions number entry) (lists.entry_lines regions (suc number) entries)
    (region_html (lists.entry_of number entry) (entry_html number entry) (slice_get regions entry.region)) (entry_lines_html regions (suc number) entries)

entry_cell_heads_html : IsHtml lists.entry_cell_heads
unfolding lists.entry_cell_heads
entry_cell_heads_html =
    three (cells.head_cell (codes "work")) (cells.head_cell (codes "path")) (cells.head_cell (codes "children")) (heads_html (codes "work") refl) (heads_html (codes "path") refl)
    (heads_html (codes "children") refl)

entry_heads_html : IsHtml lists.entry_heads
unfolding lists.entry_heads
entry_heads_html =
    bare_html tag.Row (cells.head_cell (codes "region") ++ cells.head_cell (codes "entry") ++ lists.entry_cell_heads)
    (three (cells.head_cell (codes "region")) (cells.head_cell (codes "entry")) lists.entry_cell_heads (heads_html (codes "region") refl) (heads_html (codes "entry") refl)
    entry_cell_heads_html)

entries_html : (regions : List Region) (entries : List Entry) → IsHtml (lists.entry_table regions entries)
unfolding lists.entry_table
entries_html regions entries =
    bare_html tag.Table (texted tag.Caption (words prose.DictionaryCaption) ++ lists.entry_heads ++ lists.entry_lines regions 0 entries)
    (three (texted tag.Caption (words prose.DictionaryCaption)) lists.entry_heads (lists.entry_lines regions 0 entries) (prose_html tag.Caption prose.DictionaryCaption)
    entry_heads_html (entry_lines_html regions 0 entries))

dictionary_html : (regions : List Region) (dict : Option (List Entry)) → IsHtml (lists.dictionary_part regions dict)
unfolding lists.dictionary_part
dictionary_html regions None = told [] ended
dictionary_html regions (Some entries) = entries_html regions entries

-- FACTS
fact_head_html : (text : List ℕ) → has_no_mark text ≡ true → IsHtml (facts.fact_head text)
unfolding facts.fact_head
fact_head_html text is = one_html tag.HeadCell attribute.Scope (codes "row") text (text_of (codes "row") refl) (told text (text_of text is))

fact_html : (text number : List ℕ) → has_no_mark text ≡ true → IsText number → IsHtml (facts.fact text number)
unfolding facts.fact
fact_html text number is value =
    bare_html tag.Row (facts.fact_head text ++ cells.text_cell number) (beside (facts.fact_head text) (cells.text_cell number) (fact_head_html text is) (cell_html number value))

file_cell_html : (name : List ℕ) → IsHtml (facts.file_cell name)
unfolding facts.file_cell
file_cell_html name = one_html tag.Cell attribute.Class (codes "w") (escaped name) (text_of (codes "w") refl) (told (escaped name) (escaped_is_text name))

file_html : (name : List ℕ) → IsHtml (facts.file_fact name)
unfolding facts.file_fact
file_html name =
    bare_html tag.Row (facts.fact_head (codes "file") ++ facts.file_cell name)
    (beside (facts.fact_head (codes "file")) (facts.file_cell name) (fact_head_html (codes "file") refl) (file_cell_html name))

total_text : (saved whole : ℕ) → IsText (facts.total saved whole)
unfolding facts.total
total_text saved whole =
    let front : List ℕ = decimal saved ++ codes " of " ++ decimal whole in
    text_beside (front ++ codes ", ") (amounts.share saved whole)
    (text_beside front (codes ", ") (named_text (decimal saved) (codes " of ") whole (number_text saved) refl) (text_of (codes ", ") refl)) (share_text saved whole)

total_html : (saved whole : ℕ) → IsHtml (facts.total_cell saved whole)
unfolding facts.total_cell
total_html saved whole = bare_html tag.Cell (facts.total saved whole) (told (facts.total saved whole) (total_text saved whole))

advice_fact_html : (whole : ℕ) (advice : Advice) → IsHtml (facts.advice_fact whole advice)
unfolding facts.advice_fact
advice_fact_html whole advice =
    bare_html tag.Row (facts.fact_head (codes "the plan saves") ++ facts.total_cell advice.total whole)
    (beside (facts.fact_head (codes "the plan saves")) (facts.total_cell advice.total whole) (fact_head_html (codes "the plan saves") refl) (total_html advice.total whole))

plan_fact_html : (whole : ℕ) (plan : Option Advice) → IsHtml (facts.plan_fact whole plan)
plan_fact_html whole None = told [] ended
plan_fact_html whole (Some advice) = advice_fact_html whole advice

run_facts_html : (exit : ℤ) (ops : ℕ) → IsHtml (facts.run_facts exit ops)
unfolding facts.run_facts
run_facts_html exit ops =
    beside (facts.fact (codes "exit") (signed_decimal exit)) (facts.fact (codes "operations") (decimal ops))
    (fact_html (codes "exit") (signed_decimal exit) refl (signed_text exit)) (fact_html (codes "operations") (decimal ops) refl (number_text ops))

work_facts_html : (whole path : ℕ) → IsHtml (facts.work_facts whole path)
unfolding facts.work_facts
work_facts_html whole path =
    beside (facts.fact (codes "work") (decimal whole)) (facts.fact (codes "path") (decimal path))
    (fact_html (codes "work") (decimal whole) refl (number_text whole)) (fact_html (codes "path") (decimal path) refl (number_text path))

number_facts_html : (exit : ℤ) (ops whole path : ℕ) → IsHtml (facts.number_facts exit ops whole path)
unfolding facts.number_facts
number_facts_html exit ops whole path = beside (facts.run_facts exit ops) (facts.work_facts whole path) (run_facts_html exit ops) (work_facts_html whole path)

facts_html : (name : List ℕ) (exit : ℤ) (ops whole path : ℕ) (plan : Option Advice) → IsHtml (facts.facts_table name exit ops whole path plan)
unfolding facts.facts_table
facts_html name exit ops whole path plan =
    bare_html tag.Table (texted tag.Caption (codes "The run") ++ facts.file_fact name ++ facts.number_facts exit ops whole path ++ facts.plan_fact whole plan)
    (four (texted tag.Caption (codes "The run")) (facts.file_fact name) (facts.number_facts exit ops whole path) (facts.plan_fact whole plan)
    (texted_html tag.Caption (codes "The run") (text_of (codes "The run") refl)) (file_html name) (number_facts_html exit ops whole path) (plan_fact_html whole plan))

large_facts_html : (name : List ℕ) (exit : ℤ) (ops : ℕ) → IsHtml (facts.large_facts name exit ops)
unfolding facts.large_facts
large_facts_html name exit ops =
    bare_html tag.Table (texted tag.Caption (codes "The run") ++ facts.file_fact name ++ facts.run_facts exit ops)
    (three (texted tag.Caption (codes "The run")) (facts.file_fact name) (facts.run_facts exit ops)
    (texted_html tag.Caption (codes "The run") (text_of (codes "The run") refl)) (file_html name) (run_facts_html exit ops))

-- THE PICTURE
mark_is_text : (picked : Bool) → IsText (pictures.mark_word picked)
mark_is_text true = text_of (codes " picked") refl
mark_is_text false = ended

place_is_text : (place : Place) → IsText (place_text place)
place_is_text place = named_text (decimal place.line) (codes ":") place.column (number_text place.line) refl

label_text : (c : Context) (r : Region) (picked : Bool) → IsText (pictures.label c r picked)
unfolding pictures.label
label_text c r picked =
    let sums : List ℕ = amounts.sums c.instances c.work c.path c.sp in
    text_beside (cells.name r ++ codes " " ++ place_text r.place ++ sums) (pictures.mark_word picked)
    (text_beside (cells.name r ++ codes " " ++ place_text r.place) sums
    (text_beside (cells.name r ++ codes " ") (place_text r.place) (text_beside (cells.name r) (codes " ") (name_text r) (text_of (codes " ") refl)) (place_is_text r.place))
    (sums_text c.instances c.work c.path c.sp)) (mark_is_text picked)

title_html : (c : Context) (r : Region) (picked : Bool) → IsHtml (pictures.title c r picked)
unfolding pictures.title
title_html c r picked = bare_html tag.Title (pictures.label c r picked) (told (pictures.label c r picked) (label_text c r picked))

-- a fixed word as a value
word_value : (a : Attribute) (word : List ℕ) → has_no_mark word ≡ true → AreAttributes (valued a word)
word_value a word is = one a word (text_of word is)

number_value : (a : Attribute) (n : ℕ) → AreAttributes (valued a (decimal n))
number_value a n = one a (decimal n) (number_text n)

three_values : (a b c : List ℕ) → AreAttributes a → AreAttributes b → AreAttributes c → AreAttributes (a ++ b ++ c)
three_values a b c x y z = both (a ++ b) c (both a b x y) z

look_is : (c : Context) (picked : Bool) → AreAttributes (pictures.look c picked)
unfolding pictures.look
look_is c picked =
    one attribute.Class (amounts.shade c.sp ++ pictures.mark_word picked)
    (text_beside (amounts.shade c.sp) (pictures.mark_word picked) (shade_text (amounts.times c.sp)) (mark_is_text picked))

shape_html : (c : Context) (picked : Bool) → IsHtml (pictures.shape c picked)
unfolding pictures.shape
shape_html c picked =
    let wide : List ℕ = valued attribute.Width (codes "100%") in
    let tall : List ℕ = valued attribute.Height (codes "100%") in
    inside tag.Shape (pictures.look c picked ++ wide ++ tall) []
    (three_values (pictures.look c picked) wide tall (look_is c picked) (word_value attribute.Width (codes "100%") refl) (word_value attribute.Height (codes "100%") refl))
    (told [] ended)

caption_html : (c : Context) (r : Region) (picked : Bool) → IsHtml (pictures.caption c r picked)
unfolding pictures.caption
caption_html c r picked =
    let left : List ℕ = valued attribute.Left (codes "4") in
    let top : List ℕ = valued attribute.Top (codes "15") in
    inside tag.Label (left ++ top) (pictures.label c r picked)
    (both left top (word_value attribute.Left (codes "4") refl) (word_value attribute.Top (codes "15") refl)) (told (pictures.label c r picked) (label_text c r picked))

frame_is : (left top wide : ℕ) → AreAttributes (pictures.frame left top wide)
unfolding pictures.frame
frame_is left top wide =
    let x : List ℕ = valued attribute.Left (decimal left) in
    let y : List ℕ = valued attribute.Top (decimal top) in
    let w : List ℕ = valued attribute.Width (decimal wide) in
    both (x ++ y ++ w) (valued attribute.Height (codes "20"))
    (three_values x y w (number_value attribute.Left left) (number_value attribute.Top top) (number_value attribute.Width wide))
    (word_value attribute.Height (codes "20") refl)

content_html : (c : Context) (r : Region) (picked : Bool) → IsHtml (pictures.content c r picked)
unfolding pictures.content
content_html c r picked =
    three (pictures.title c r picked) (pictures.shape c picked) (pictures.caption c r picked) (title_html c r picked) (shape_html c picked) (caption_html c r picked)

box_html : (tile : Tile) (r : Region) (picked : Bool) (left wide : ℕ) → IsHtml (pictures.box_of tile r picked left wide)
unfolding pictures.box_of
box_html tile r picked left wide =
    inside tag.Picture (pictures.frame left (pictures.height_of tile.level) wide) (pictures.content tile.context r picked)
    (frame_is left (pictures.height_of tile.level) wide) (content_html tile.context r picked)

box_in_html : (whole : ℕ) (picked : Bool) (tile : Tile) (r : Region) → IsHtml (pictures.box_in whole picked tile r)
unfolding pictures.box_in
box_in_html whole picked tile r =
    let left : ℕ = amounts.scaled tile.start whole amounts.width in
    let wide : ℕ = pictures.width_from tile whole left in
    either_html (wide == 0) [] (pictures.box_of tile r picked left wide) (told [] ended) (box_html tile r picked left wide)

tile_html : (regions : List Region) (picks : List Pick) (whole : ℕ) (tile : Tile) → IsHtml (pictures.tile_box regions picks whole tile)
unfolding pictures.tile_box
tile_html regions picks whole tile =
    let picked : Bool = pictures.is_picked picks tile.number in
    region_html (pictures.box_in whole picked tile) (box_in_html whole picked tile) (slice_get regions tile.context.region)

named_prose_html : (t : Tag) (own : List ℕ) (p : Prose) → has_no_mark own ≡ true → IsHtml (pictures.named_prose t own p)
unfolding pictures.named_prose
named_prose_html t own p is = one_html t attribute.Name own (words p) (text_of own is) (told (words p) (words_text p))

front_is : (height : ℕ) → AreAttributes (pictures.picture_front height)
unfolding pictures.picture_front
front_is height =
    let role : List ℕ = valued attribute.Role (codes "img") in
    let by : List ℕ = valued attribute.LabelledBy (codes "picture-title picture-text") in
    three_values role by (valued attribute.View (codes "0 0 1200 " ++ decimal height)) (word_value attribute.Role (codes "img") refl)
    (word_value attribute.LabelledBy (codes "picture-title picture-text") refl)
    (one attribute.View (codes "0 0 1200 " ++ decimal height) (word_text (codes "0 0 1200 ") (decimal height) refl (number_text height)))

picture_html : (regions : List Region) (picks : List Pick) (whole : ℕ) (list : List Tile) → IsHtml (pictures.picture regions picks whole list)
unfolding pictures.picture
picture_html regions picks whole list =
    let height : ℕ = pictures.height_of (levels_from 0 list) in
    inside tag.Picture (pictures.picture_front height) (pictures.picture_title ++ pictures.picture_text ++ flat_map (pictures.tile_box regions picks whole) list)
    (front_is height)
    (three pictures.picture_title pictures.picture_text (flat_map (pictures.tile_box regions picks whole) list)
    (named_prose_html tag.Title (codes "picture-title") prose.PictureTitle refl) (named_prose_html tag.Description (codes "picture-text") prose.PictureText refl)
    (each_html (pictures.tile_box regions picks whole) (tile_html regions picks whole) list))

shade_html : (n : ℕ) (p : Prose) → IsHtml (pictures.shade_cell n p)
unfolding pictures.shade_cell
shade_html n p = one_html tag.Cell attribute.Class (amounts.shade_of n) (words p) (shade_text n) (told (words p) (words_text p))

shades_html : IsHtml pictures.shades
unfolding pictures.shades
shades_html =
    five (pictures.shade_cell 1 prose.BelowTwo) (pictures.shade_cell 2 prose.BelowFive) (pictures.shade_cell 5 prose.BelowTwentyFive)
    (pictures.shade_cell 25 prose.BelowHundred) (pictures.shade_cell 100 prose.HundredAndMore)
    (shade_html 1 prose.BelowTwo) (shade_html 2 prose.BelowFive) (shade_html 5 prose.BelowTwentyFive) (shade_html 25 prose.BelowHundred) (shade_html 100 prose.HundredAndMore)

shade_row_html : IsHtml pictures.shade_row
unfolding pictures.shade_row
shade_row_html = bare_html tag.Row pictures.shades shades_html

legend_html : IsHtml pictures.legend
unfolding pictures.legend
legend_html =
    bare_html tag.Table (texted tag.Caption (words prose.ShadesCaption) ++ pictures.shade_row)
    (beside (texted tag.Caption (words prose.ShadesCaption)) pictures.shade_row (prose_html tag.Caption prose.ShadesCaption) shade_row_html)

-- THE SOURCE
bar_html : (work whole : ℕ) → IsHtml (sources.bar work whole)
unfolding sources.bar
bar_html work whole =
    let most : List ℕ = valued attribute.Most (decimal whole) in
    let amount : List ℕ = valued attribute.Amount (decimal work) in
    inside tag.Meter (most ++ amount) (amounts.share work whole)
    (both most amount (number_value attribute.Most whole) (number_value attribute.Amount work)) (told (amounts.share work whole) (share_text work whole))

mark_html : (picked : Bool) → IsHtml (sources.mark picked)
mark_html true = texted_html tag.Strong (codes " picked") (text_of (codes " picked") refl)
mark_html false = told [] ended

note_html : (whole : ℕ) (picked : Bool) (row : Row) (r : Region) → IsHtml (sources.note whole picked row r)
unfolding sources.note
note_html whole picked row r =
    let sums : List ℕ = amounts.sums row.instances row.work row.path row.sp in
    bare_html tag.Paragraph (sources.bar row.work whole ++ cells.name r ++ sums ++ sources.mark picked)
    (four (sources.bar row.work whole) (cells.name r) sums (sources.mark picked) (bar_html row.work whole) (told (cells.name r) (name_text r))
    (told sums (sums_text row.instances row.work row.path row.sp)) (mark_html picked))

line_head_html : (number : ℕ) → IsHtml (sources.line_head number)
unfolding sources.line_head
line_head_html number = one_html tag.HeadCell attribute.Scope (codes "row") (decimal number) (text_of (codes "row") refl) (told (decimal number) (number_text number))

line_text_html : (line : List ℕ) → IsHtml (sources.line_text line)
unfolding sources.line_text
line_text_html line =
    one_html tag.Cell attribute.Class (codes "w") (bare tag.Code (escaped line)) (text_of (codes "w") refl)
    (bare_html tag.Code (escaped line) (told (escaped line) (escaped_is_text line)))

line_notes_html : (regions : List Region) (contexts : List Context) (picks : List Pick) (whole : ℕ) (rows : List Row)
    → IsHtml (sources.line_notes regions contexts picks whole rows)
unfolding sources.line_notes
line_notes_html regions contexts picks whole rows =
    let note : Row → List ℕ = sources.note_of regions contexts picks whole in
    one_html tag.Cell attribute.Class (codes "w") (flat_map note rows) (text_of (codes "w") refl)
    (each_html note (λ row. region_html (sources.note whole (sources.is_region_picked contexts picks row.region) row)
    (note_html whole (sources.is_region_picked contexts picks row.region) row) (slice_get regions row.region)) rows)

line_row_html : (regions : List Region) (contexts : List Context) (picks : List Pick) (whole number : ℕ) (rows : List Row) (line : List ℕ)
    → IsHtml (sources.line_row regions contexts picks whole number rows line)
unfolding sources.line_row
line_row_html regions contexts picks whole number rows line =
    let notes : List ℕ = sources.line_notes regions contexts picks whole rows in
    one_html tag.Row attribute.Name (codes "L" ++ decimal number) (sources.line_head number ++ sources.line_text line ++ notes)
    (word_text (codes "L") (decimal number) refl (number_text number))
    (three (sources.line_head number) (sources.line_text line) notes (line_head_html number) (line_text_html line) (line_notes_html regions contexts picks whole rows))

line_rows_html : (regions : List Region) (contexts : List Context) (picks : List Pick) (whole number : ℕ) (rows : List Row) (list : List (List ℕ))
    → IsHtml (sources.line_rows regions contexts picks whole number rows list)
line_rows_html regions contexts picks whole number rows [] = told [] ended
line_rows_html regions contexts picks whole number rows (line ∷ list) =
    let count : ℕ = sources.count_to regions number rows in
    beside (sources.line_row regions contexts picks whole number (take count rows) line) (sources.line_rows regions contexts picks whole (number + 1) (drop count rows) list)
    (line_row_html regions contexts picks whole number (take count rows) line) (line_rows_html regions contexts picks whole (number + 1) (drop count rows) list)

source_heads_html : IsHtml sources.heads
unfolding sources.heads
source_heads_html =
    bare_html tag.Row (cells.head_cell (codes "line") ++ cells.head_cell (codes "source") ++ cells.head_cell (words prose.SourceNotes))
    (three (cells.head_cell (codes "line")) (cells.head_cell (codes "source")) (cells.head_cell (words prose.SourceNotes)) (heads_html (codes "line") refl)
    (heads_html (codes "source") refl) (head_html (words prose.SourceNotes) (words_text prose.SourceNotes)))

source_html : (regions : List Region) (contexts : List Context) (picks : List Pick) (whole : ℕ) (rows : List Row) (source : List ℕ)
    → IsHtml (sources.source_table regions contexts picks whole rows source)
unfolding sources.source_table
source_html regions contexts picks whole rows source =
    let all : List ℕ = sources.line_rows regions contexts picks whole 1 rows (sources.lines source) in
    bare_html tag.Table (texted tag.Caption (codes "The source") ++ sources.heads ++ all)
    (three (texted tag.Caption (codes "The source")) sources.heads all (texted_html tag.Caption (codes "The source") (text_of (codes "The source") refl)) source_heads_html
    (line_rows_html regions contexts picks whole 1 rows (sources.lines source)))

-- THE PAGE
page_title_html : (name : List ℕ) → IsHtml (pages.title name)
unfolding pages.title
page_title_html name = bare_html tag.Title (escaped name) (told (escaped name) (escaped_is_text name))

heading_html : (name : List ℕ) → IsHtml (pages.heading name)
unfolding pages.heading
heading_html name =
    bare_html tag.Heading (words prose.Heading ++ escaped name)
    (told (words prose.Heading ++ escaped name) (text_beside (words prose.Heading) (escaped name) (words_text prose.Heading) (escaped_is_text name)))

head_part_html : (name : List ℕ) (exit : ℤ) (ops whole path : ℕ) (plan : Option Advice) → IsHtml (pages.head_part name exit ops whole path plan)
unfolding pages.head_part
head_part_html name exit ops whole path plan =
    three (pages.title name) (pages.heading name) (facts.facts_table name exit ops whole path plan) (page_title_html name) (heading_html name)
    (facts_html name exit ops whole path plan)

views_html : (regions : List Region) (whole : ℕ) (contexts : List Context) (plan : Option Advice) → IsHtml (pages.views_part regions whole contexts plan)
unfolding pages.views_part
views_html regions whole contexts plan =
    five (texted tag.Chapter (codes "Plan")) (lists.plan_part regions contexts whole plan) (texted tag.Chapter (codes "Picture")) pictures.legend
    (pictures.picture regions (pages.picks_of plan) whole (tiles contexts)) (texted_html tag.Chapter (codes "Plan") (text_of (codes "Plan") refl))
    (plan_html regions contexts whole plan) (texted_html tag.Chapter (codes "Picture") (text_of (codes "Picture") refl)) legend_html
    (picture_html regions (pages.picks_of plan) whole (tiles contexts))

texts_html : (source : List ℕ) (regions : List Region) (whole : ℕ) (rows : List Row) (dict : Option (List Entry)) (contexts : List Context) (plan : Option Advice)
    → IsHtml (pages.texts_part source regions whole rows dict contexts plan)
unfolding pages.texts_part
texts_html source regions whole rows dict contexts plan =
    five (texted tag.Chapter (codes "Source")) (sources.source_table regions contexts (pages.picks_of plan) whole rows source) (texted tag.Chapter (codes "Rows"))
    (lists.rows_table regions whole rows) (lists.dictionary_part regions dict) (texted_html tag.Chapter (codes "Source") (text_of (codes "Source") refl))
    (source_html regions contexts (pages.picks_of plan) whole rows source) (texted_html tag.Chapter (codes "Rows") (text_of (codes "Rows") refl))
    (rows_html regions whole rows) (dictionary_html regions dict)

explanations_html : IsHtml pages.explanations
unfolding pages.explanations
explanations_html =
    five (texted tag.Paragraph (words prose.Work)) (texted tag.Paragraph (words prose.Parallel)) (texted tag.Paragraph (words prose.Saving))
    (texted tag.Paragraph (words prose.Picture)) (texted tag.Paragraph (words prose.OneRun))
    (prose_html tag.Paragraph prose.Work) (prose_html tag.Paragraph prose.Parallel) (prose_html tag.Paragraph prose.Saving) (prose_html tag.Paragraph prose.Picture)
    (prose_html tag.Paragraph prose.OneRun)

meaning_html : IsHtml pages.meaning_part
unfolding pages.meaning_part
meaning_html = beside (texted tag.Chapter (words prose.Meaning)) pages.explanations (prose_html tag.Chapter prose.Meaning) explanations_html

body_html : (name source : List ℕ) (exit : ℤ) (ops whole path : ℕ) (regions : List Region) (rows : List Row) (dict : Option (List Entry)) (contexts : List Context)
    (plan : Option Advice) → IsHtml (pages.body_part name source exit ops whole path regions rows dict contexts plan)
unfolding pages.body_part
body_html name source exit ops whole path regions rows dict contexts plan =
    four (pages.head_part name exit ops whole path plan) (pages.views_part regions whole contexts plan) (pages.texts_part source regions whole rows dict contexts plan)
    pages.meaning_part (head_part_html name exit ops whole path plan) (views_html regions whole contexts plan)
    (texts_html source regions whole rows dict contexts plan) meaning_html

-- A PAGE is the opening, HTML, and the end
pub page_is_html : PageIsHtml
page_is_html name source exit ops whole path regions rows dict contexts plan = (
  pages.body_part name source exit ops whole path regions rows dict contexts plan,
  body_html name source exit ops whole path regions rows dict contexts plan,
  refl,
)

large_part_html : (name : List ℕ) (exit : ℤ) (ops : ℕ) → IsHtml (pages.large_part name exit ops)
unfolding pages.large_part
large_part_html name exit ops =
    four (pages.title name) (pages.heading name) (facts.large_facts name exit ops) (texted tag.Paragraph (words prose.Large)) (page_title_html name)
    (heading_html name) (large_facts_html name exit ops) (prose_html tag.Paragraph prose.Large)

pub large_page_is_html : LargePageIsHtml
large_page_is_html name exit ops = (pages.large_part name exit ops, large_part_html name exit ops, refl)
