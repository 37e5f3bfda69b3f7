-- The bytes of a file are read line by line: they spell one, or they have a first wrong line.
use Rattle.std.proofs.Common.{◌≡◌, ◌≢◌, ◌⊎◌, inl, inr, ℕ, ℤ, zero, suc, ◌+◌, ◌-◌, ◌≤◌, List, [], ◌∷◌, ◌++◌, length, Option, Some, None, Ok, refl, sym, ◌∙◌, subst, arith, length-append}
use Rattle.std.specs.Prelude.{codes}
use Rattle.std.proofs.lemmas.Option.{none-some}
use Rattle.k_optab.specs.declared.region.Region.{Region}
use Rattle.k_dict_entries.specs.Entries.{AreDistinct}
use Rattle.k_dict_entries.specs.declared.entry.Entry.{Entry}
use Rattle.k_dict_entries.proofs.Pushes.{AreDistinct-push}
use Rattle.k_dict_saved.specs.Extents.{extents_of}
use Rattle.k_dict_saved.specs.FileText.{entry_line, file_text, region_line}
use Rattle.k_dict_saved.specs.Files.{IsFile}
use Rattle.k_dict_saved.specs.Formats.{IsAccepted, first_line}
use Rattle.k_dict_saved.specs.Lines.{GoesWrong, InEntries, InRegions, IsNextEntry, IsRegion, MayStand, Named, Opened, last_of}
use Rattle.k_dict_saved.specs.Reading.{AllEntries, AllRegions, FoundCount, HasHead, exit_at, first_at}
use Rattle.k_dict_saved.specs.Syntax.{entry_at, named_at, region_at}
use Rattle.k_dict_saved.specs.declared.file.File.{File}
use Rattle.k_dict_saved.specs.declared.format.Format.{Format}
use Rattle.k_dict_saved.proofs.EntrySteps.{AtEntries, entries_done, entries_more, entries_start, no_entry, no_other_entry, wrong_entry}
use Rattle.k_dict_saved.proofs.HeadSteps.{first_takes, has_head, no_count, no_entries, no_exit, no_first, no_ops, wrong_fourth, wrong_second, wrong_third}
use Rattle.k_dict_saved.proofs.Leading.{left_within}
use Rattle.k_dict_saved.proofs.RegionSteps.{AtRegions, no_other_region, no_region, regions_done, regions_more, regions_start, wrong_region}
use Rattle.k_dict_saved.proofs.Spelled.{entry_takes, named_takes, region_takes}
use Rattle.k_dict_saved.proofs.Whole.{is_file, text_is, wrong_at_count, wrong_at_end, wrong_in_entries, wrong_in_regions}
use Rattle.k_top_exists.specs.Files.{FileIsAnswered, SpellsOrIsWrong}
use Rattle.k_top_exists.proofs.Deciding.{closed_decided, end_decided, next_decided, stand_decided}

-- ---- regions

-- the line of a region that may stand here, or none does
abbrev pub NextRegionOrNone : List Region → List ℕ → Type 0
NextRegionOrNone before text =
    ((r : Region) × (rest : List ℕ) × (IsRegion r × MayStand (last_of before) r × (text ≡ region_line r ++ rest)))
    ⊎ ((r : Region) (later : List ℕ) → IsRegion r → MayStand (last_of before) r → text ≢ region_line r ++ later)

pub region_next : (before : List Region) (text : List ℕ) → NextRegionOrNone before text
region_next before text = by (region_at text) refl
  where
    by : (o : Option (Region × List ℕ)) → region_at text ≡ o → NextRegionOrNone before text
    by None h = inr (no_region (last_of before) text h)
    by (Some found) h =
        let takes = region_takes text found.0 found.1 h in
        elim (stand_decided (last_of before) found.0) [
          | inl stands ↦ inl (found.0, found.1, (takes.1, stands, takes.0))
          | inr not_so ↦ inr (no_other_region (last_of before) text found.1 found.0 h not_so)
        ]

-- the lines of all regions, or a wrong one among them
abbrev RegionsOrWrong : Format → ℕ → List ℕ → Type 0
RegionsOrWrong format count text =
    ((list : List Region) × (rest : List ℕ) × AllRegions format count text (Ok (list, rest))) ⊎ ((left : ℕ) × GoesWrong (InRegions format count []) text left)

regions_from : (format : Format) (count : ℕ) (text : List ℕ) (more : ℕ) (rest : List ℕ) (regions : List Region) → length regions + more ≡ count
    → AtRegions format count text rest regions → RegionsOrWrong format count text
regions_from format count text zero rest regions sum at = inl (regions, rest, regions_done format count text rest regions at (omega arith))
regions_from format count text (suc more) rest regions sum at = elim (region_next regions rest) [
  | inl next ↦ (let new : List Region = regions ++ next.0 ∷ [] in
      let longer = length-append regions (next.0 ∷ []) in
      regions_from format count text more next.1 new (omega arith)
      (regions_more format count text rest next.1 regions new next.0 at (omega arith) next.2 refl))
  | inr none ↦ inr (length rest, wrong_region format count text rest regions (length rest) at (omega arith) refl none)
]

regions_read : (format : Format) (count : ℕ) (text : List ℕ) → RegionsOrWrong format count text
regions_read format count text = regions_from format count text count text [] (omega arith) (regions_start format count text [] refl)

-- ---- entries

-- the line of an entry that may stand here, or none does
abbrev pub NextEntryOrNone : Format → ℕ → List Entry → List ℕ → Type 0
NextEntryOrNone format regions before text =
    ((e : Entry) × (rest : List ℕ) × IsNextEntry format regions before e × (text ≡ entry_line e ++ rest))
    ⊎ ((e : Entry) (later : List ℕ) → IsNextEntry format regions before e → text ≢ entry_line e ++ later)

pub entry_next : (format : Format) (regions : ℕ) (before : List Entry) (text : List ℕ) → regions ≤ 524288 → length before ≤ 1048576
    → NextEntryOrNone format regions before text
entry_next format regions before text small few = by (entry_at regions (length before) text) refl
  where
    by : (o : Option (Entry × List ℕ)) → entry_at regions (length before) text ≡ o → NextEntryOrNone format regions before text
    by None h = inr (no_entry format regions before text (omega arith) few h)
    by (Some found) h =
        let takes = entry_takes regions (length before) text found.0 found.1 h in
        elim (next_decided format regions before found.0 takes.1 takes.2) [
          | inl next ↦ inl (found.0, found.1, next, takes.0)
          | inr not_so ↦ inr (no_other_entry format regions before text (omega arith) few found.0 found.1 h not_so)
        ]

-- the lines of all entries, or a wrong one among them
abbrev EntriesOrWrong : Format → List Region → ℕ → List ℕ → Type 0
EntriesOrWrong format list count text =
    ((entries : List Entry) × (rest : List ℕ) × AllEntries format list count text (Ok (entries, rest))) ⊎ ((left : ℕ) × GoesWrong (InEntries format list count []) text left)

entries_from : (format : Format) (list : List Region) (count : ℕ) (text : List ℕ) → length list ≤ 524288 → count ≤ 1048576
    → (more : ℕ) (rest : List ℕ) (entries : List Entry) → length entries + more ≡ count → AreDistinct entries
    → AtEntries format (length list) count text rest entries (extents_of entries) → EntriesOrWrong format list count text
entries_from format list count text small few zero rest entries sum distinct at =
    inl (entries, rest, entries_done format (length list) count text rest entries (extents_of entries) at (omega arith) distinct list refl)
entries_from format list count text small few (suc more) rest entries sum distinct at = elim (entry_next format (length list) entries rest small (omega arith)) [
  | inl next ↦ (let new : List Entry = entries ++ next.0 ∷ [] in
      let longer = length-append entries (next.0 ∷ []) in
      entries_from format list count text small few more next.1 new (omega arith)
      (AreDistinct-push entries next.0 distinct next.2.new (omega arith) next.2.few_runs)
      (entries_more format (length list) count text rest next.1 entries new (extents_of entries) (extents_of new) at (omega arith) (next.0, next.2, next.3, refl) refl))
  | inr none ↦ inr (
    length rest,
    wrong_entry format (length list) count text rest entries entries (extents_of entries) (length rest) at (omega arith) refl none list refl,
  )
]

entries_read : (format : Format) (list : List Region) (count : ℕ) (text : List ℕ) → length list ≤ 524288 → count ≤ 1048576 → EntriesOrWrong format list count text
entries_read format list count text small few =
    entries_from format list count text small few count text [] (omega arith)
    (record { few = omega arith; few_runs = omega arith; apart = λ m n e h k. absurd (none-some e h) })
    (entries_start format (length list) count text [] (extents_of []) refl refl)

-- ---- the other lines

-- the lines before the regions, or a wrong one among them
abbrev HeadOrWrong : List ℕ → Type 0
HeadOrWrong text =
    ((exit : ℤ) × (ops : ℕ) × (count : ℕ) × (rest : List ℕ) × HasHead exit ops count text rest) ⊎ ((left : ℕ) × ((format : Format) → GoesWrong (Named format) text left))

head_read : (text : List ℕ) → HeadOrWrong text
head_read text = by_exit (exit_at text) refl
  where
    by_count : (exit : ℤ) (ops_text : List ℕ) → exit_at text ≡ Some (exit, ops_text) → (ops : ℕ) (regions_text : List ℕ)
        → named_at (codes "ops ") 0 1000000000 ops_text ≡ Some (ops, regions_text)
        → (o : Option (ℕ × List ℕ)) → named_at (codes "regions ") 1 524288 regions_text ≡ o → HeadOrWrong text
    by_count exit ops_text second ops regions_text third None h =
        inr (length regions_text, λ format. wrong_fourth text exit ops_text second ops regions_text third format (length regions_text) (no_count format regions_text h))
    by_count exit ops_text second ops regions_text third (Some count) h =
        inl (exit, ops, count.0, count.1, has_head text exit ops_text second ops regions_text third count.0 count.1 h)

    by_ops : (exit : ℤ) (ops_text : List ℕ) → exit_at text ≡ Some (exit, ops_text) → (o : Option (ℕ × List ℕ))
        → named_at (codes "ops ") 0 1000000000 ops_text ≡ o → HeadOrWrong text
    by_ops exit ops_text second None h =
        inr (length ops_text, λ format. wrong_third text exit ops_text second format (length ops_text) (no_ops format ops_text h))
    by_ops exit ops_text second (Some ops) h =
        by_count exit ops_text second ops.0 ops.1 h (named_at (codes "regions ") 1 524288 ops.1) refl

    by_exit : (o : Option (ℤ × List ℕ)) → exit_at text ≡ o → HeadOrWrong text
    by_exit None h = inr (length text, λ format. no_exit format text h)
    by_exit (Some exit) h = by_ops exit.0 exit.1 h (named_at (codes "ops ") 0 1000000000 exit.1) refl

-- the line with the number of entries, or none stands here
abbrev pub CountOrNone : List Region → List ℕ → Type 0
CountOrNone regions text = ((count : ℕ) × (rest : List ℕ) × FoundCount regions text (Some (count, rest))) ⊎ FoundCount regions text None

pub count_read : (regions : List Region) (text : List ℕ) → CountOrNone regions text
count_read regions text = by (named_at (codes "entries ") 1 1048576 text) refl
  where
    by : (o : Option (ℕ × List ℕ)) → named_at (codes "entries ") 1 1048576 text ≡ o → CountOrNone regions text
    by None h = inr (no_entries regions text h)
    by (Some found) h =
        let takes = named_takes (codes "entries ") 1 1048576 text found.0 found.1 h in
        elim (closed_decided (last_of regions)) [
          | inl closed ↦ inl (found.0, found.1, (closed, takes.1, takes.2, takes.0))
          | inr not_so ↦ inr (λ count later closed some few is. not_so closed)
        ]

-- ---- the whole file

-- the lines behind the first: what they tell, or a wrong one among them
abbrev LinesOrWrong : Format → List ℕ → Type 0
LinesOrWrong format text =
    ((file : File) × (file.format ≡ format) × IsFile file × (first_line format ++ text ≡ file_text file)) ⊎ ((left : ℕ) × GoesWrong (Named format) text left)

module _ (format : Format) (exit : ℤ) (ops count : ℕ) (text region_text : List ℕ) (head : HasHead exit ops count text region_text) where
  module _ (list : List Region) (count_text : List ℕ) (all : AllRegions format count region_text (Ok (list, count_text))) where
    module _ (number : ℕ) (entry_text : List ℕ) (found : FoundCount list count_text (Some (number, entry_text))) where
      behind_entries : (entries : List Entry) (end : List ℕ) → AllEntries format list number entry_text (Ok (entries, end)) → LinesOrWrong format text
      behind_entries entries end these = elim (end_decided format list entries end these.5 these.4) [
        | inl ends ↦ inl (
          record { format = format; exit = exit; ops = ops; regions = list; entries = entries },
          refl,
          is_file format exit ops count text region_text head list count_text all number entry_text found entries end these ends,
          text_is format exit ops count text region_text head list count_text all number entry_text found entries end these ends.0,
        )
        | inr not_so ↦ inr (length end, wrong_at_end format exit ops count text region_text head list count_text all number entry_text found entries end these not_so)
      ]

      behind_count : LinesOrWrong format text
      behind_count =
          let most = head.few in let count_is = all.1 in
          elim (entries_read format list number entry_text (omega arith) found.2) [
            | inl these ↦ behind_entries these.0 these.1 these.2
            | inr wrong ↦ inr (wrong.0, wrong_in_entries format exit ops count text region_text head list count_text all number entry_text found wrong.0 wrong.1)
          ]

    behind_regions : LinesOrWrong format text
    behind_regions = elim (count_read list count_text) [
      | inl found ↦ behind_count found.0 found.1 found.2
      | inr none ↦ inr (length count_text, wrong_at_count format exit ops count text region_text head list count_text all none)
    ]

  behind_head : LinesOrWrong format text
  behind_head = elim (regions_read format count region_text) [
    | inl all ↦ behind_regions all.0 all.1 all.2
    | inr wrong ↦ inr (wrong.0, wrong_in_regions format exit ops count text region_text head wrong.0 wrong.1)
  ]

lines_read : (format : Format) (text : List ℕ) → LinesOrWrong format text
lines_read format text = elim (head_read text) [
  | inl head ↦ behind_head format head.0 head.1 head.2 text head.3 head.4
  | inr wrong ↦ inr (wrong.0, wrong.1 format)
]

-- any bytes spell a file of one of the formats that are read, or have a first wrong line
pub file_or_wrong : FileIsAnswered
file_or_wrong accepts bytes = by (first_at accepts bytes) refl
  where
    placed : (left : ℕ) → GoesWrong (Opened accepts) bytes left → SpellsOrIsWrong accepts bytes
    placed left wrong = let within = left_within (Opened accepts) bytes left wrong in inr (length bytes - left, (left, omega arith, wrong))

    by : (o : Option (Format × List ℕ)) → first_at accepts bytes ≡ o → SpellsOrIsWrong accepts bytes
    by None h = placed (length bytes) (no_first accepts bytes h)
    by (Some found) h =
        let takes = first_takes accepts bytes found.0 found.1 h in
        elim (lines_read found.0 found.1) [
          | inl file ↦ (let P : Format → Type 0 = IsAccepted accepts in inl (file.0, subst P (sym file.1) takes.0, file.2, takes.1 ∙ file.3))
          | inr wrong ↦ placed wrong.0 (wrong_second accepts bytes found.0 found.1 h wrong.0 wrong.1)
        ]
