-- Believed with a public law.
-- The lines of the file of a sum: which line may stand behind which, by what the lines before it told.
use Rattle.std.specs.Prelude.{ℕ, ℤ, ◌+◌, ◌*◌, ◌<◌, ◌≤◌, ◌≡◌, ◌≢◌, ◌⊎◌, List, [], ◌∷◌, ◌++◌, length, FitsSigned, codes, int_lt, true}
use Rattle.std.specs.Int.{w32}
use Rattle.std.specs.Fmt.{decimal}
use Rattle.k_optab.specs.declared.region.Region.{Region}
use Rattle.k_optab.specs.declared.region.RegionKind.TheVariants.{Func}
use Rattle.std.specs.Prelude.{Some, slice_get}
use Rattle.k_dict_entries.specs.Entries.{AreRuns, laid, trees_of}
use Rattle.k_dict_entries.specs.Rules.{child_works, entry_of}
use Rattle.k_dict_entries.specs.Tallies.{total}
use Rattle.k_dict_entries.specs.Trees.{size}
use Rattle.k_dict_entries.specs.declared.entry.Entry.{Entry}
use Rattle.k_dict_entries.specs.declared.entry.Run.{Run}
use Rattle.k_text.specs.Texts.{named_line}
use Rattle.k_dict_saved.specs.Formats.{IsNamedBy, Names}
use Rattle.k_dict_saved.specs.Lines.{InEntries, InRegions}
use Rattle.k_dict_saved.specs.Lines as lists
use Rattle.k_dict_saved.specs.declared.format.Format.TheVariants.{Two}
use Rattle.k_sum.specs.Exits as ends
use Rattle.k_sum.specs.SumText.{exit_line, roots_text}
use Rattle.k_sum.specs.declared.exits.Exit.{Exit}
use Rattle.k_sum_order.specs.Order.{AreInOrder}

-- what the lines before those of the regions tell: how many runs there were, how many of them ended with each value, and how many
-- operations they made
pub record Head : Type 0 where
  pub runs : ℕ
  pub exits : List Exit
  pub ops : ℕ

-- each of these exit values is lower than this one
abbrev pub AreLower : List Exit → ℤ → Type 0
AreLower [] value = Unit {0}
AreLower (x ∷ exits) value = (int_lt x.value value ≡ true) × AreLower exits value

-- an exit value may stand behind these: it is higher, a run ended with it, and with those before it there are no more runs than there were
pub record IsNextExit (runs : ℕ) (exits : List Exit) (x : Exit) : Type 0 where
  pub value : FitsSigned w32 x.value
  pub rise : AreLower exits x.value
  pub some : 1 ≤ x.runs
  pub few : ends.total exits + x.runs ≤ runs

-- these roots are of a region
abbrev pub AreOfRegion : ℕ → List Entry → List Run → Type 0
AreOfRegion region entries [] = Unit {0}
AreOfRegion region entries (root ∷ roots) = ((entry_of entries root.entry).region ≡ region) × AreOfRegion region entries roots

-- all roots are of one region
abbrev pub AreOfOneRegion : List Entry → List Run → Type 0
AreOfOneRegion entries roots = (region : ℕ) × AreOfRegion region entries roots

-- the roots are of one region, which is the function main
pub record AreOfMain (regions : List Region) (entries : List Entry) (roots : List Run) : Type 0 where
  pub region : ℕ
  pub main : Region
  pub there : slice_get regions region ≡ Some main
  pub kind : main.kind ≡ Func
  pub func : main.func ≡ codes "main"
  pub each : AreOfRegion region entries roots

-- the roots of so many runs: they are entries by rising number, of main, and each run has one; their works are at most 2 ^ 44 together and
-- their instances at most 2 ^ 59, as those of one profile; and no entry is left over
pub record AreRoots (runs : ℕ) (regions : List Region) (entries : List Entry) (roots : List Run) : Type 0 where
  pub rise : AreRuns 0 (length entries) roots
  pub main : AreOfMain regions entries roots
  pub count : total roots ≡ runs
  pub work : child_works entries roots ≤ 17592186044416
  pub instances : size (laid (trees_of entries) roots) ≤ 576460752303423488
  pub none_left : (n : ℕ) → n < length entries → IsNamedBy n entries ⊎ Names n roots

-- what lines have told: how far they have come, and what later lines depend on
pub data Stage : Type 0 where
  Opened : Stage
  Named : Stage
  Counted : (runs : ℕ) → Stage
  InExits : (runs count : ℕ) (exits : List Exit) → Stage
  Told : (head : Head) → Stage
  Listed : (head : Head) (inner : lists.Stage) → Stage
  Rooted : (head : Head) (regions : List Region) (entries : List Entry) (roots : List Run) → Stage

-- the line of one more exit value
pub record IsExitLine (runs count : ℕ) (exits : List Exit) (line : List ℕ) (next : Stage) : Type 0 where
  pub exit : Exit
  pub few : length exits < count
  pub right : IsNextExit runs exits exit
  pub line_is : line ≡ exit_line exit
  pub next_is : next ≡ InExits runs count (exits ++ exit ∷ [])

-- the line with the number of operations, at most 1,000,000,000 a run, behind the exit values of all runs
pub record IsOpsLine (runs count : ℕ) (exits : List Exit) (line : List ℕ) (next : Stage) : Type 0 where
  pub ops : ℕ
  pub all : length exits ≡ count
  pub whole : ends.total exits ≡ runs
  pub few : ops ≤ 1000000000 * runs
  pub line_is : line ≡ named_line (codes "ops ") (decimal ops)
  pub next_is : next ≡ Told (record { runs = runs; exits = exits; ops = ops })

-- the entries that lines of regions and entries told so far
abbrev pub entries_so_far : lists.Stage → List Entry
entries_so_far (lists.Opened accepts) = []
entries_so_far (lists.Named format) = []
entries_so_far (lists.Exited format) = []
entries_so_far (lists.Counted format) = []
entries_so_far (lists.InRegions format count regions) = []
entries_so_far (lists.InEntries format regions count entries) = entries

-- a line of regions or entries as in a saved profile of format 2, with the entries in order
pub record IsListLine (head : Head) (inner : lists.Stage) (line : List ℕ) (next : Stage) : Type 0 where
  pub stage : lists.Stage
  pub follows : lists.Follows inner line stage
  pub order : AreInOrder (entries_so_far stage)
  pub next_is : next ≡ Listed head stage

-- the line of the roots, behind all entries
pub record IsRootsLine (head : Head) (inner : lists.Stage) (line : List ℕ) (next : Stage) : Type 0 where
  pub regions : List Region
  pub entries : List Entry
  pub inner_is : inner ≡ InEntries Two regions (length entries) entries
  pub roots : List Run
  pub right : AreRoots head.runs regions entries roots
  pub line_is : line ≡ roots_text roots
  pub next_is : next ≡ Rooted head regions entries roots

-- this line may stand behind lines that have told so much, and all of them have then told that
abbrev pub Follows : Stage → List ℕ → Stage → Type 0
Follows Opened line next = (line ≡ codes "kremlin sum 1\n") × (next ≡ Named)
Follows Named line next = (runs : ℕ) × (1 ≤ runs) × (runs ≤ 4294967295) × (line ≡ named_line (codes "runs ") (decimal runs)) × (next ≡ Counted runs)
Follows (Counted runs) line next =
    (count : ℕ) × (1 ≤ count) × (count ≤ runs) × (line ≡ named_line (codes "exits ") (decimal count)) × (next ≡ InExits runs count [])
Follows (InExits runs count exits) line next = IsExitLine runs count exits line next ⊎ IsOpsLine runs count exits line next
Follows (Told head) line next =
    (count : ℕ) × (1 ≤ count) × (count ≤ 524288) × (line ≡ named_line (codes "regions ") (decimal count)) × (next ≡ Listed head (InRegions Two count []))
Follows (Listed head inner) line next = IsListLine head inner line next ⊎ IsRootsLine head inner line next
Follows (Rooted head regions entries roots) line next = ⊥

-- these lines lead from the one stage to the other
pub data Leads : Stage → List ℕ → Stage → Type 0 where
  arrived : (s : Stage) → Leads s [] s
  onward : (s : Stage) (line : List ℕ) (t : Stage) (lines : List ℕ) (u : Stage) → Follows s line t → Leads t lines u → Leads s (line ++ lines) u

-- the stage is that of a whole file but for its end
abbrev pub IsWhole : Stage → Type 0
IsWhole Opened = ⊥
IsWhole Named = ⊥
IsWhole (Counted runs) = ⊥
IsWhole (InExits runs count exits) = ⊥
IsWhole (Told head) = ⊥
IsWhole (Listed head inner) = ⊥
IsWhole (Rooted head regions entries roots) = Unit {0}

-- nothing right stands here behind lines that have told so much: no line that may, and no end of the file
pub record IsWrong (stage : Stage) (rest : List ℕ) : Type 0 where
  pub no_line : (line later : List ℕ) (next : Stage) → Follows stage line next → rest ≢ line ++ later
  pub no_end : IsWhole stage → rest ≢ codes "end\n"

-- from this stage on lines lead to a wrong one, behind which so many bytes are left with it
pub record GoesWrong (from : Stage) (text : List ℕ) (left : ℕ) : Type 0 where
  pub before : List ℕ
  pub rest : List ℕ
  pub stage : Stage
  pub cut : text ≡ before ++ rest
  pub leads : Leads from before stage
  pub wrong : IsWrong stage rest
  pub left_is : length rest ≡ left

-- the first wrong line starts at this byte: right lines stand before it, and it is missing, has not its form, or breaks a rule together
-- with the lines before it
abbrev pub IsFirstWrong : List ℕ → ℕ → Type 0
IsFirstWrong bytes place = (left : ℕ) × (place + left ≡ length bytes) × GoesWrong Opened bytes left
