-- For contracts between crates: nobody has to believe it.
-- What the parts of the reading answer.
use Rattle.std.specs.Prelude.{ℕ, ℤ, ◌+◌, ◌<◌, ◌≤◌, ◌≡◌, ◌≢◌, Bool, true, ◌&&◌, List, [], ◌∷◌, ◌++◌, length, slice_get, slice_set, Contains, Option, Some, None, Result, Ok, Err, FitsSigned, codes}
use Rattle.std.specs.Int.{w32}
use Rattle.std.specs.Fmt.{decimal, signed_decimal}
use Rattle.std.specs.List.{flat_map}
use Rattle.k_optab.specs.declared.region.Region.{Region}
use Rattle.k_dict_entries.specs.Entries.{AreDistinct, NameBelow, all_runs, tree_of, trees_of}
use Rattle.k_dict_saved.specs.Extents.{extent_of}
use Rattle.k_dict_saved.specs.Formats.{HaveRuns, IsAccepted, NoneIsLeft, first_line}
use Rattle.k_scan.specs.Numbers.{signed_at}
use Rattle.k_scan.specs.Pieces.{word_at}
use Rattle.k_dict_saved.specs.Lines.{EndsInMain, GoesWrong, InEntries, InRegions, IsClosed, IsNextEntry, IsRegion, Leads, MayStand, Named, Opened, last_of}
use Rattle.k_dict_saved.specs.Files.{IsFile}
use Rattle.k_text.specs.Texts.{named_line}
use Rattle.k_dict_saved.specs.FileText.{entry_line, file_text, region_line}
use Rattle.k_dict_saved.specs.Syntax.{◌>>=◌}
use Rattle.k_dict_entries.specs.Rules.{HasBoundedNumbers, HaveBoundedNumbers, HaveFewInstances, HaveFewLevels, NameRegions}
use Rattle.k_dict_entries.specs.Trees.{alone, height, size}
use Rattle.k_dict_entries.specs.declared.entry.Entry.{Entry}
use Rattle.k_dict_entries.specs.declared.entry.Run.{Run}
use Rattle.k_dict_saved.specs.declared.reading.extents.Extent.{Extent}
use Rattle.k_dict_saved.specs.declared.reading.stop.Halt.{Halt}
use Rattle.k_dict_saved.specs.declared.reading.stop.Halt.TheVariants as halts
use Rattle.k_dict_saved.specs.declared.reading.stop.Stop.{Stop}
use Rattle.k_dict_saved.specs.declared.reading.stop.Stop.TheVariants as stops
use Rattle.k_dict_saved.specs.declared.file.File.{File}
use Rattle.k_dict_saved.specs.declared.format.Accepts.{Accepts}
use Rattle.k_dict_saved.specs.declared.format.Accepts.TheVariants.{OneAlone, Both}
use Rattle.k_dict_saved.specs.declared.format.Format.{Format}
use Rattle.k_dict_saved.specs.declared.format.Format.TheVariants.{One, Two}

-- the line of a region that may stand behind these
abbrev pub NextRegion : List Region → List ℕ → Result (Region × List ℕ) Stop → Type 0
NextRegion before text (Ok found) = IsRegion found.0 × MayStand (last_of before) found.0 × (text ≡ region_line found.0 ++ found.1)
NextRegion before text (Err stops.Wrong) = (r : Region) (later : List ℕ) → IsRegion r → MayStand (last_of before) r → text ≢ region_line r ++ later
NextRegion before text (Err stops.Memory) = Unit {0}

-- behind this region each of these may stand behind the one before it
abbrev pub AreLinked : Option Region → List Region → Type 0
AreLinked last [] = Unit {0}
AreLinked last (r ∷ regions) = MayStand last r × AreLinked (Some r) regions

-- each region has a name and a place of a source
abbrev pub AreEach : List Region → Type 0
AreEach regions = (n : ℕ) (r : Region) → slice_get regions n ≡ Some r → IsRegion r

-- the rules that concern one entry with those before it
pub record HaveRules (regions : ℕ) (entries : List Entry) : Type 0 where
  pub numbers : HaveBoundedNumbers entries
  pub levels : HaveFewLevels entries
  pub instances : HaveFewInstances entries
  pub in_list : NameRegions regions entries

-- the lines of all regions
abbrev pub AllRegions : Format → ℕ → List ℕ → Result (List Region × List ℕ) Halt → Type 0
AllRegions format count text (Ok found) =
    (text ≡ flat_map region_line found.0 ++ found.1) × (length found.0 ≡ count)
    × Leads (InRegions format count []) (flat_map region_line found.0) (InRegions format count found.0) × AreEach found.0 × AreLinked None found.0
AllRegions format count text (Err (halts.Wrong left)) = GoesWrong (InRegions format count []) text left
AllRegions format count text (Err halts.Memory) = Unit {0}

-- the line of an entry that may stand behind these
abbrev pub NextEntry : Format → ℕ → List Entry → List Entry → List ℕ → Result (List ℕ) Stop → Type 0
NextEntry format regions old new text (Ok rest) = (e : Entry) × IsNextEntry format regions old e × (text ≡ entry_line e ++ rest) × (new ≡ old ++ e ∷ [])
NextEntry format regions old new text (Err stops.Wrong) = (e : Entry) (later : List ℕ) → IsNextEntry format regions old e → text ≢ entry_line e ++ later
NextEntry format regions old new text (Err stops.Memory) = Unit {0}

-- the lines of all entries
abbrev pub AllEntries : Format → List Region → ℕ → List ℕ → Result (List Entry × List ℕ) Halt → Type 0
AllEntries format list count text (Ok found) =
    (text ≡ flat_map entry_line found.0 ++ found.1) × (length found.0 ≡ count)
    × Leads (InEntries format list count []) (flat_map entry_line found.0) (InEntries format list count found.0)
    × HaveRules (length list) found.0 × AreDistinct found.0 × HaveRuns format found.0
AllEntries format list count text (Err (halts.Wrong left)) = GoesWrong (InEntries format list count []) text left
AllEntries format list count text (Err halts.Memory) = Unit {0}

-- the format whose first line was found
abbrev pub first_format : Option (List ℕ) → Option (List ℕ) → Option (Format × List ℕ)
first_format (Some rest) other = Some (One, rest)
first_format None (Some rest) = Some (Two, rest)
first_format None None = None

-- the first line: the format that it tells, and the text behind it
unfoldable pub first_at : Accepts → List ℕ → Option (Format × List ℕ)
first_at OneAlone text = first_format (word_at (codes "kremlin 1\n") text) None
first_at Both text = first_format (word_at (codes "kremlin 1\n") text) (word_at (codes "kremlin 2\n") text)

-- the lines between the first and the regions
abbrev pub head_lines : ℤ → ℕ → ℕ → List ℕ
head_lines exit ops count =
    named_line (codes "exit ") (signed_decimal exit) ++ (named_line (codes "ops ") (decimal ops) ++ named_line (codes "regions ") (decimal count))

-- the numbers that these lines tell
pub record HasHead (exit : ℤ) (ops count : ℕ) (text rest : List ℕ) : Type 0 where
  pub exit_fits : FitsSigned w32 exit
  pub few_ops : ops ≤ 1000000000
  pub some : 1 ≤ count
  pub few : count ≤ 524288
  pub cut : text ≡ head_lines exit ops count ++ rest
  pub leads : (format : Format) → Leads (Named format) (head_lines exit ops count) (InRegions format count [])

-- the head of a file
abbrev pub FoundHead : List ℕ → Result (ℤ × ℕ × ℕ × List ℕ) Halt → Type 0
FoundHead text (Ok found) = HasHead found.0 found.1 found.2 text found.3
FoundHead text (Err (halts.Wrong left)) = (format : Format) → GoesWrong (Named format) text left
FoundHead text (Err halts.Memory) = Unit {0}

-- the numbers of an entry, and the extent of its tree, are within the rules
pub record IsWithinRules (entries : List Entry) (e : Entry) : Type 0 where
  pub numbers : HasBoundedNumbers entries e
  pub levels : height (alone (tree_of (trees_of entries) e)) ≤ 32
  pub instances : size (alone (tree_of (trees_of entries) e)) ≤ 576460752303423488

-- the extent of an entry that keeps within the rules, by those before it
abbrev pub HasExtent : List Entry → Entry → Option Extent → Type 0
HasExtent entries e (Some extent) = IsWithinRules entries e × (extent ≡ extent_of (tree_of (trees_of entries) e))
HasExtent entries e None = ¬ IsWithinRules entries e

-- what adding an entry answers
abbrev pub Adds : {T : Type 0} → List Entry → Entry → List Entry → Result T Stop → Type 0
Adds old e new (Ok x) = IsWithinRules old e × (¬ Contains old e) × (all_runs old + length e.runs ≤ 16777216) × (new ≡ old ++ e ∷ [])
Adds old e new (Err stops.Wrong) = IsWithinRules old e → (¬ Contains old e) → 16777216 < all_runs old + length e.runs
Adds old e new (Err stops.Memory) = Unit {0}

-- the marks with one more at each number that runs name
abbrev pub marked : List Bool → List Run → List Bool
marked marks [] = marks
marked marks (run ∷ runs) = marked (slice_set marks run.entry true) runs

-- the marks with one more at each number that entries name
abbrev pub marked_all : List Bool → List Entry → List Bool
marked_all marks [] = marks
marked_all marks (e ∷ entries) = marked_all (marked marks e.runs) entries

-- the runs of these entries name numbers below this one
abbrev pub AllNameBelow : ℕ → List Entry → Type 0
AllNameBelow high [] = Unit {0}
AllNameBelow high (e ∷ entries) = NameBelow high e.runs × AllNameBelow high entries

-- all are marked but the last
abbrev pub are_marked : List Bool → Bool
are_marked [] = true
are_marked (mark ∷ []) = true
are_marked (mark ∷ next ∷ marks) = mark && are_marked (next ∷ marks)

-- a result with its value seen so
abbrev pub seen : {X Y E : Type 0} → (X → Y) → Result X E → Result Y E
seen view (Ok x) = Ok (view x)
seen view (Err e) = Err e

-- the line with a run's end, and the text behind it
unfoldable pub exit_at : List ℕ → Option (ℤ × List ℕ)
exit_at text = word_at (codes "exit ") text >>= λ rest. signed_at rest >>= λ exit. word_at (codes "\n") exit.1 >>= λ rest. Some (exit.0, rest)

-- the line with the number of entries, behind these regions
abbrev pub FoundCount : List Region → List ℕ → Option (ℕ × List ℕ) → Type 0
FoundCount regions text (Some found) =
    IsClosed (last_of regions) × (1 ≤ found.0) × (found.0 ≤ 1048576) × (text ≡ named_line (codes "entries ") (decimal found.0) ++ found.1)
FoundCount regions text None = (count : ℕ) (later : List ℕ) → IsClosed (last_of regions) → 1 ≤ count → count ≤ 1048576
    → text ≢ named_line (codes "entries ") (decimal count) ++ later

-- the end stands here, and may
abbrev pub Ends : Format → List Region → List Entry → List ℕ → Type 0
Ends format regions entries text = (text ≡ codes "end\n") × EndsInMain regions entries × NoneIsLeft format entries

-- the file of these parts, where the end stands here and may
abbrev pub Finishes : File → List ℕ → Result File Halt → Type 0
Finishes file text (Ok finished) = Ends file.format file.regions file.entries text × (finished ≡ file)
Finishes file text (Err (halts.Wrong left)) = (¬ Ends file.format file.regions file.entries text) × (left ≡ length text)
Finishes file text (Err halts.Memory) = Unit {0}

-- what reading the lines behind the first answers: what they tell, or how many bytes are left at their first wrong line
abbrev pub ReadsLines : Format → List ℕ → Result File Halt → Type 0
ReadsLines format text (Ok file) = (file.format ≡ format) × IsFile file × (first_line format ++ text ≡ file_text file)
ReadsLines format text (Err (halts.Wrong left)) = GoesWrong (Named format) text left
ReadsLines format text (Err halts.Memory) = Unit {0}

-- what reading a whole file answers: what it tells, or how many bytes are left at its first wrong line
abbrev pub ReadsAll : Accepts → List ℕ → Result File Halt → Type 0
ReadsAll accepts text (Ok file) = IsAccepted accepts file.format × IsFile file × (text ≡ file_text file)
ReadsAll accepts text (Err (halts.Wrong left)) = GoesWrong (Opened accepts) text left
ReadsAll accepts text (Err halts.Memory) = Unit {0}
