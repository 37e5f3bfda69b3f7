-- Believed with the theorem on the top call.
-- The lines of a saved profile: which line may stand behind which, by what the lines before it told.
use Rattle.std.specs.Prelude.{ℕ, ℤ, ◌+◌, ◌<◌, ◌≤◌, ◌≡◌, ◌≢◌, ◌⊎◌, true, List, [], ◌∷◌, ◌++◌, length, Option, Some, None, FitsSigned, Contains, slice_get, codes}
use Rattle.std.specs.Int.{w32}
use Rattle.std.specs.Fmt.{decimal, signed_decimal}
use Rattle.k_optab.specs.declared.region.Region.{Region}
use Rattle.k_optab.specs.declared.region.RegionKind.{RegionKind}
use Rattle.k_optab.specs.declared.region.RegionKind.TheVariants.{Func, Loop, Body}
use Rattle.k_scan.specs.Names.{is_name}
use Rattle.k_dict_entries.specs.Entries.{all_runs, tree_of, trees_of}
use Rattle.k_dict_entries.specs.Rules.{HasBoundedNumbers, entry_of}
use Rattle.k_dict_saved.specs.Formats.{AreRunsOf, IsAccepted, NoneIsLeft, first_line}
use Rattle.k_text.specs.Texts.{named_line}
use Rattle.k_dict_saved.specs.FileText.{entry_line, region_line}
use Rattle.k_dict_entries.specs.Trees.{alone, height, size}
use Rattle.k_dict_entries.specs.declared.entry.Entry.{Entry}
use Rattle.k_dict_saved.specs.declared.format.Accepts.{Accepts}
use Rattle.k_dict_saved.specs.declared.format.Format.{Format}

-- a line or a column
abbrev pub IsAmongPlaces : ℕ → Type 0
IsAmongPlaces n = (1 ≤ n) × (n ≤ 1048577)

-- the name of a region's function is one, and its place is one of a source
pub record IsRegion (r : Region) : Type 0 where
  pub func : is_name r.func ≡ true
  pub line : IsAmongPlaces r.place.line
  pub column : IsAmongPlaces r.place.column

-- where a region of this kind and this function stands last, the next one may be this: behind a loop its body, and elsewhere none
abbrev pub StandsBehind : RegionKind → List ℕ → Region → Type 0
StandsBehind Loop func r = (r.kind ≡ Body) × (r.func ≡ func)
StandsBehind Func func r = r.kind ≢ Body
StandsBehind Body func r = r.kind ≢ Body

-- a region may stand behind these
abbrev pub MayStand : Option Region → Region → Type 0
MayStand None r = r.kind ≢ Body
MayStand (Some last) r = StandsBehind last.kind last.func r

-- no body is missing
abbrev pub IsClosed : Option Region → Type 0
IsClosed None = Unit {0}
IsClosed (Some last) = last.kind ≢ Loop

-- the region that stands last, where this one stands before them
abbrev pub last_behind : Option Region → List Region → Option Region
last_behind last [] = last
last_behind last (r ∷ regions) = last_behind (Some r) regions

-- the region that stands last
abbrev pub last_of : List Region → Option Region
last_of regions = last_behind None regions

-- an entry may stand behind these where it names a region of the list, has runs of its format, is not there yet, leaves all runs
-- within their limit, and has bounded numbers and a tree of at most 32 levels and 2 ^ 59 instances
pub record IsNextEntry (format : Format) (regions : ℕ) (entries : List Entry) (e : Entry) : Type 0 where
  pub region : e.region < regions
  pub runs : AreRunsOf format (length entries) e.runs
  pub new : ¬ Contains entries e
  pub few_runs : all_runs entries + length e.runs ≤ 16777216
  pub numbers : HasBoundedNumbers entries e
  pub levels : height (alone (tree_of (trees_of entries) e)) ≤ 32
  pub instances : size (alone (tree_of (trees_of entries) e)) ≤ 576460752303423488

-- what lines have told: how far they have come, and what later lines depend on
pub data Stage : Type 0 where
  Opened : (accepts : Accepts) → Stage
  Named : (format : Format) → Stage
  Exited : (format : Format) → Stage
  Counted : (format : Format) → Stage
  InRegions : (format : Format) (count : ℕ) (regions : List Region) → Stage
  InEntries : (format : Format) (regions : List Region) (count : ℕ) (entries : List Entry) → Stage

-- the line of one more region
pub record IsRegionLine (format : Format) (count : ℕ) (regions : List Region) (line : List ℕ) (next : Stage) : Type 0 where
  pub region : Region
  pub few : length regions < count
  pub right : IsRegion region
  pub stands : MayStand (last_of regions) region
  pub line_is : line ≡ region_line region
  pub next_is : next ≡ InRegions format count (regions ++ region ∷ [])

-- the line with the number of entries
pub record IsCountLine (format : Format) (count : ℕ) (regions : List Region) (line : List ℕ) (next : Stage) : Type 0 where
  pub entries : ℕ
  pub all : length regions ≡ count
  pub closed : IsClosed (last_of regions)
  pub some : 1 ≤ entries
  pub few : entries ≤ 1048576
  pub line_is : line ≡ named_line (codes "entries ") (decimal entries)
  pub next_is : next ≡ InEntries format regions entries []

-- the line of one more entry
pub record IsEntryLine (format : Format) (regions : List Region) (count : ℕ) (entries : List Entry) (line : List ℕ) (next : Stage) : Type 0 where
  pub entry : Entry
  pub few : length entries < count
  pub right : IsNextEntry format (length regions) entries entry
  pub line_is : line ≡ entry_line entry
  pub next_is : next ≡ InEntries format regions count (entries ++ entry ∷ [])

-- this line may stand behind lines that have told so much, and all of them have then told that
abbrev pub Follows : Stage → List ℕ → Stage → Type 0
Follows (Opened accepts) line next = (format : Format) × IsAccepted accepts format × (line ≡ first_line format) × (next ≡ Named format)
Follows (Named format) line next =
    (exit : ℤ) × FitsSigned w32 exit × (line ≡ named_line (codes "exit ") (signed_decimal exit)) × (next ≡ Exited format)
Follows (Exited format) line next = (ops : ℕ) × (ops ≤ 1000000000) × (line ≡ named_line (codes "ops ") (decimal ops)) × (next ≡ Counted format)
Follows (Counted format) line next =
    (count : ℕ) × (1 ≤ count) × (count ≤ 524288) × (line ≡ named_line (codes "regions ") (decimal count)) × (next ≡ InRegions format count [])
Follows (InRegions format count regions) line next = IsRegionLine format count regions line next ⊎ IsCountLine format count regions line next
Follows (InEntries format regions count entries) line next = IsEntryLine format regions count entries line next

-- these lines lead from the one stage to the other
pub data Leads : Stage → List ℕ → Stage → Type 0 where
  arrived : (s : Stage) → Leads s [] s
  onward : (s : Stage) (line : List ℕ) (t : Stage) (lines : List ℕ) (u : Stage) → Follows s line t → Leads t lines u → Leads s (line ++ lines) u

-- the region of the last entry is the function main
pub record EndsInMain (regions : List Region) (entries : List Entry) : Type 0 where
  pub root : ℕ
  pub last : length entries ≡ root + 1
  pub main : Region
  pub there : slice_get regions (entry_of entries root).region ≡ Some main
  pub kind : main.kind ≡ Func
  pub func : main.func ≡ codes "main"

-- the end may stand here: all entries are there, the last is of main, and no other is left over
pub record MayEnd (format : Format) (regions : List Region) (count : ℕ) (entries : List Entry) : Type 0 where
  pub all : length entries ≡ count
  pub main : EndsInMain regions entries
  pub none_left : NoneIsLeft format entries

-- the stage is that of a whole file but for its end
abbrev pub IsWhole : Stage → Type 0
IsWhole (Opened accepts) = ⊥
IsWhole (Named format) = ⊥
IsWhole (Exited format) = ⊥
IsWhole (Counted format) = ⊥
IsWhole (InRegions format count regions) = ⊥
IsWhole (InEntries format regions count entries) = MayEnd format regions count entries

-- nothing right stands here behind lines that have told so much: no line that may, and no end of the file
pub record IsWrong (stage : Stage) (rest : List ℕ) : Type 0 where
  pub no_line : (line later : List ℕ) (next : Stage) → Follows stage line next → rest ≢ line ++ later
  pub no_end : IsWhole stage → rest ≢ codes "end\n"

-- from this stage on lines lead to a wrong one, behind which so many bytes are left with it
pub record GoesWrong (from : Stage) (text : List ℕ) (left : ℕ) : Type 0 where
  pub before : List ℕ
  pub rest : List ℕ
  pub stage : Stage
  pub cut : text ≡ before ++ rest
  pub leads : Leads from before stage
  pub wrong : IsWrong stage rest
  pub left_is : length rest ≡ left

-- where files of these formats are read, the first wrong line starts at this byte: right lines stand before it, and it is missing,
-- has not its form, or breaks a rule of the format that the first line tells together with the lines before it
abbrev pub IsFirstWrong : Accepts → List ℕ → ℕ → Type 0
IsFirstWrong accepts bytes place = (left : ℕ) × (place + left ≡ length bytes) × GoesWrong (Opened accepts) bytes left
