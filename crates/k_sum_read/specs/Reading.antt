-- For contracts between crates: nobody has to believe it.
-- What the parts of the reading answer.
use Rattle.std.specs.Prelude.{ℕ, ℤ, ◌*◌, ◌≤◌, ◌<◌, ◌≡◌, ◌≢◌, ◌⊎◌, Bool, true, ◌&&◌, List, [], ◌∷◌, ◌++◌, length, int_lt, Option, Some, None, Result, Ok, Err, codes}
use Rattle.std.specs.Fmt.{decimal}
use Rattle.k_optab.specs.declared.region.Region.{Region}
use Rattle.k_dict_entries.specs.Entries.{AreRuns}
use Rattle.k_dict_entries.specs.Rules.{NameRegions, child_works}
use Rattle.k_dict_entries.specs.Tallies.{total}
use Rattle.k_dict_entries.specs.declared.entry.Entry.{Entry}
use Rattle.k_dict_entries.specs.declared.entry.Run.{Run}
use Rattle.k_dict_saved.specs.Extents.{capped, extents_of}
use Rattle.k_dict_saved.specs.Files.{AreFileEntries, AreRegions}
use Rattle.k_dict_saved.specs.Formats.{IsNamedBy, Names}
use Rattle.k_dict_saved.specs.Lines.{InEntries, InRegions}
use Rattle.k_dict_saved.specs.Reading.{AllEntries, AllRegions}
use Rattle.k_dict_saved.specs.declared.format.Format.TheVariants.{Two}
use Rattle.k_dict_saved.specs.declared.reading.extents.Extent.{Extent}
use Rattle.k_dict_saved.specs.declared.reading.extents.Sums.{Sums}
use Rattle.k_dict_saved.specs.declared.reading.stop.Halt.{Halt}
use Rattle.k_dict_saved.specs.declared.reading.stop.Halt.TheVariants as halts
use Rattle.k_dict_saved.specs.declared.reading.stop.Stop.{Stop}
use Rattle.k_dict_saved.specs.declared.reading.stop.Stop.TheVariants as stops
use Rattle.k_sum.specs.Exits as ends
use Rattle.k_sum.specs.SumText.{exit_line, roots_text, sum_text}
use Rattle.k_sum.specs.declared.exits.Exit.{Exit}
use Rattle.k_sum.specs.declared.sum.Sum.{Sum}
use Rattle.k_sum_order.specs.Order.{AreInOrder, ComesBefore}
use Rattle.k_sum_saved.specs.SumRules.{AreBehind, AreExits, IsSum}
use Rattle.k_sum_read.specs.declared.head.Counts.{Counts}
use Rattle.k_sum_read.specs.declared.listing.Listing.{Listing}
use Rattle.k_sum_saved.specs.SumLines.{AreRoots, GoesWrong, Head, InExits, IsNextExit, Leads, Listed, Opened, Stage, Told}
use Rattle.k_text.specs.Texts.{named_line}

-- lines at the front of a text lead from the one stage to the other, and this text is left
abbrev pub Reaches : Stage → List ℕ → Stage → List ℕ → Type 0
Reaches from text stage rest = (lines : List ℕ) × (text ≡ lines ++ rest) × Leads from lines stage

-- the lines up to the exit values
abbrev pub FoundCounts : List ℕ → Result (ℕ × ℕ × List ℕ) Halt → Type 0
FoundCounts text (Ok found) =
    Reaches Opened text (InExits found.0 found.1 []) found.2 × (1 ≤ found.0) × (found.0 ≤ 4294967295) × (1 ≤ found.1) × (found.1 ≤ found.0)
FoundCounts text (Err (halts.Wrong left)) = GoesWrong Opened text left
FoundCounts text (Err halts.Memory) = Unit {0}

-- the last of exit values is lower than this one
abbrev pub LastIsLower : List Exit → ℤ → Type 0
LastIsLower exits value = (before : List Exit) (x : Exit) → exits ≡ before ++ x ∷ [] → int_lt x.value value ≡ true

-- the line of an exit value that may stand behind these
abbrev pub NextExit : ℕ → List Exit → List ℕ → Option (Exit × List ℕ) → Type 0
NextExit runs exits text (Some found) = IsNextExit runs exits found.0 × (text ≡ exit_line found.0 ++ found.1)
NextExit runs exits text None = (x : Exit) (later : List ℕ) → IsNextExit runs exits x → text ≢ exit_line x ++ later

-- the lines of all exit values, and how many runs they tell of
abbrev pub AllExits : ℕ → ℕ → List ℕ → Result (List Exit × ℕ × List ℕ) Halt → Type 0
AllExits runs count text (Ok found) =
    Reaches (InExits runs count []) text (InExits runs count found.0) found.2 × (length found.0 ≡ count) × (found.1 ≡ ends.total found.0) × AreBehind runs [] found.0
AllExits runs count text (Err (halts.Wrong left)) = GoesWrong (InExits runs count []) text left
AllExits runs count text (Err halts.Memory) = Unit {0}

-- the line with the number of operations, behind exit values of so many runs
abbrev pub FoundOps : ℕ → ℕ → List ℕ → Option (ℕ × List ℕ) → Type 0
FoundOps runs total text (Some found) = (total ≡ runs) × (found.0 ≤ 1000000000 * runs) × (text ≡ named_line (codes "ops ") (decimal found.0) ++ found.1)
FoundOps runs total text None = (ops : ℕ) (later : List ℕ) → total ≡ runs → ops ≤ 1000000000 * runs → text ≢ named_line (codes "ops ") (decimal ops) ++ later

-- what these counts tell
abbrev pub head_of : Counts → Head
head_of counts = record { runs = counts.runs; exits = counts.exits; ops = counts.ops }

-- the counts of a sum
pub record AreCounts (counts : Counts) : Type 0 where
  pub some : 1 ≤ counts.runs
  pub few : counts.runs ≤ 4294967295
  pub exits : AreExits counts.runs counts.exits
  pub ops : counts.ops ≤ 1000000000 * counts.runs

-- the lines before the regions
abbrev pub FoundHead : List ℕ → Result (Counts × List ℕ) Halt → Type 0
FoundHead text (Ok found) = Reaches Opened text (Told (head_of found.0)) found.1 × AreCounts found.0
FoundHead text (Err (halts.Wrong left)) = GoesWrong Opened text left
FoundHead text (Err halts.Memory) = Unit {0}

-- the lines of all regions
abbrev pub ListsRegions : ℕ → List ℕ → Result (List Region × List ℕ) Halt → Type 0
ListsRegions count text (Ok found) = AllRegions Two count text (Ok found)
ListsRegions count text (Err (halts.Wrong left)) = (head : Head) → GoesWrong (Listed head (InRegions Two count [])) text left
ListsRegions count text (Err halts.Memory) = Unit {0}

-- the last of entries comes behind the one before it
abbrev pub LastIsBehind : List Entry → Type 0
LastIsBehind entries = (before : List Entry) (d e : Entry) → entries ≡ (before ++ d ∷ []) ++ e ∷ [] → ComesBefore d e

-- the lines of all entries
abbrev pub ListsEntries : List Region → ℕ → List ℕ → Result (List Entry × List Extent × List ℕ) Halt → Type 0
ListsEntries list count text (Ok found) = AllEntries Two list count text (Ok (found.0, found.2)) × AreInOrder found.0 × (found.1 ≡ extents_of found.0)
ListsEntries list count text (Err (halts.Wrong left)) = (head : Head) → GoesWrong (Listed head (InEntries Two list count [])) text left
ListsEntries list count text (Err halts.Memory) = Unit {0}

-- the regions and the entries of a sum
pub record IsListing (listing : Listing) : Type 0 where
  pub regions : AreRegions listing.regions
  pub entries : AreFileEntries Two listing.entries
  pub in_list : NameRegions (length listing.regions) listing.entries
  pub order : AreInOrder listing.entries
  pub extents : listing.extents ≡ extents_of listing.entries

-- the lines of the regions and of the entries
abbrev pub FoundListing : List ℕ → Result (Listing × List ℕ) Halt → Type 0
FoundListing text (Ok found) =
    ((head : Head) → Reaches (Told head) text (Listed head (InEntries Two found.0.regions (length found.0.entries) found.0.entries)) found.1) × IsListing found.0
FoundListing text (Err (halts.Wrong left)) = (head : Head) → GoesWrong (Told head) text left
FoundListing text (Err halts.Memory) = Unit {0}

-- the line of the roots, whose works come to so much
abbrev pub FoundRoots : ℕ → List Region → List Entry → List ℕ → Result (List Run × ℕ × List ℕ) Stop → Type 0
FoundRoots runs regions entries text (Ok found) =
    AreRoots runs regions entries found.0 × (text ≡ roots_text found.0 ++ found.2) × (found.1 ≡ child_works entries found.0)
FoundRoots runs regions entries text (Err stops.Wrong) = (roots : List Run) (later : List ℕ) → AreRoots runs regions entries roots → text ≢ roots_text roots ++ later
FoundRoots runs regions entries text (Err stops.Memory) = Unit {0}

-- roots of so many runs rise, and what they have together, which stops at the greatest number of 64 bits, is within the limits
abbrev pub AreWithin : ℕ → ℕ → Sums → List Run → Type 0
AreWithin runs high sums roots =
    AreRuns 0 high roots × (capped (total roots) ≡ runs) × (sums.works ≤ 17592186044416) × (sums.instances ≤ 576460752303423488)

-- all are marked
abbrev pub are_all : List Bool → Bool
are_all [] = true
are_all (mark ∷ marks) = mark && are_all marks

-- no entry is left over: another names it, or it is a run's root
abbrev pub NoneIsLeft : List Entry → List Run → Type 0
NoneIsLeft entries roots = (n : ℕ) → n < length entries → IsNamedBy n entries ⊎ Names n roots

-- the sum of these parts
abbrev pub sum_of_parts : Counts → Listing → List Run → ℕ → Sum
sum_of_parts counts listing roots work = record {
  runs = counts.runs;
  exits = counts.exits;
  ops = counts.ops;
  work = work;
  regions = listing.regions;
  dict = listing.entries;
  roots = roots;
}

-- what the lines behind the entries answer: the sum, or how many bytes are left at their first wrong line
abbrev pub Finishes : Counts → Listing → List ℕ → Result Sum Halt → Type 0
Finishes counts listing text (Ok sum) =
    (roots : List Run) × AreRoots counts.runs listing.regions listing.entries roots × (text ≡ roots_text roots ++ codes "end\n")
    × (sum ≡ sum_of_parts counts listing roots (child_works listing.entries roots))
Finishes counts listing text (Err (halts.Wrong left)) =
    GoesWrong (Listed (head_of counts) (InEntries Two listing.regions (length listing.entries) listing.entries)) text left
Finishes counts listing text (Err halts.Memory) = Unit {0}

-- what reading a whole file answers: what it tells, or how many bytes are left at its first wrong line
abbrev pub ReadsAll : List ℕ → Result Sum Halt → Type 0
ReadsAll text (Ok sum) = IsSum sum × (text ≡ sum_text sum)
ReadsAll text (Err (halts.Wrong left)) = GoesWrong Opened text left
ReadsAll text (Err halts.Memory) = Unit {0}
