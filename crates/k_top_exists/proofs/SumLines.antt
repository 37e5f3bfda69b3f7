-- The bytes of a file are read line by line as those of a sum: they spell one, or they have a first wrong line.
use Rattle.std.proofs.Common.{◌≡◌, ◌⊎◌, inl, inr, ℕ, zero, suc, ◌+◌, ◌-◌, ◌*◌, ◌≤◌, List, [], ◌∷◌, ◌++◌, length, Option, Some, None, Ok, Err, refl, arith, length-append}
use Rattle.std.specs.Prelude.{codes}
use Rattle.std.proofs.lemmas.Bool.{cases_eq}
use Rattle.std.proofs.lemmas.Option.{none-some}
use Rattle.k_optab.specs.declared.region.Region.{Region}
use Rattle.k_dict_entries.proofs.Pushes.{AreDistinct-push}
use Rattle.k_dict_entries.specs.Entries.{AreDistinct, NameEarlier}
use Rattle.k_dict_entries.specs.Rules.{child_works}
use Rattle.k_dict_entries.specs.declared.entry.Entry.{Entry}
use Rattle.k_dict_entries.specs.declared.entry.Run.{Run}
use Rattle.k_dict_saved.proofs.EntrySteps.{AtEntries, entries_done, entries_more, entries_start}
use Rattle.k_dict_saved.proofs.RegionSteps.{AtRegions, regions_done, regions_more, regions_start}
use Rattle.k_dict_saved.proofs.Spelled.{named_takes}
use Rattle.k_dict_saved.specs.Extents.{extents_of}
use Rattle.k_dict_saved.specs.Lines.{InEntries, InRegions}
use Rattle.k_dict_saved.specs.Reading.{AllRegions, FoundCount}
use Rattle.k_dict_saved.specs.Syntax.{named_at, runs_at}
use Rattle.k_dict_saved.specs.declared.fault.SavedFault.TheVariants.{NotSaved}
use Rattle.k_dict_saved.specs.declared.format.Format.TheVariants.{Two}
use Rattle.k_dict_saved.specs.declared.reading.extents.Extent.{Extent}
use Rattle.k_dict_saved.specs.declared.reading.stop.Halt.TheVariants as halts
use Rattle.k_dict_saved.specs.declared.reading.stop.Stop.TheVariants as stops
use Rattle.k_scan.specs.Pieces.{word_at}
use Rattle.k_sum.specs.Exits as ends
use Rattle.k_sum.specs.SumText.{sum_text}
use Rattle.k_sum.specs.declared.exits.Exit.{Exit}
use Rattle.k_sum.specs.declared.sum.Sum.{Sum}
use Rattle.k_sum_order.specs.Order.{AreInOrder}
use Rattle.k_sum_read.proofs.Ending.{sum_ends, wrong_at_end, wrong_at_roots}
use Rattle.k_sum_read.proofs.ExitSteps.{AtExits, counts_reach, exits_more, exits_start, head_found, next_exit_line, no_exit_line, no_exits, no_first, no_ops, no_runs, other_exit_line, other_total, refused_exits, some_ops, wrong_at_ops, wrong_exit}
use Rattle.k_sum_read.proofs.ListSteps.{all_listed, entry_out_of_order, no_count, no_order, order_more, refused_entries, refused_regions, wrong_at_count, wrong_entry, wrong_region}
use Rattle.k_sum_read.proofs.RootSteps.{no_word, refused_runs, right_roots, roots_named, wrong_roots}
use Rattle.k_sum_read.proofs.Whole.{finished, place_is, refused_listing}
use Rattle.k_sum_read.specs.Reading.{AllExits, FoundHead, FoundListing, FoundRoots, ListsEntries, NextExit, Reaches, sum_of_parts}
use Rattle.k_sum_read.specs.SumFile.{ReadsSum}
use Rattle.k_sum_saved.specs.ExitLine.{exit_line_at}
use Rattle.k_sum_saved.specs.SumLines.{GoesWrong, Head, InExits, Listed, Opened, Told}
use Rattle.k_sum_saved.specs.SumRules.{AreBehind, IsSum}
use Rattle.k_top_exists.proofs.Deciding.{text_decided}
use Rattle.k_top_exists.proofs.SavedLines.{count_read, entry_next, region_next}
use Rattle.k_top_exists.proofs.SumDeciding.{exit_decided, order_decided, roots_decided}

-- ---- exit values

-- the line of an exit value that may stand here, or none does
abbrev NextExitOrNone : ℕ → List Exit → List ℕ → Type 0
NextExitOrNone runs exits text = ((x : Exit) × (rest : List ℕ) × NextExit runs exits text (Some (x, rest))) ⊎ NextExit runs exits text None

exit_next : (runs total : ℕ) (exits : List Exit) (text : List ℕ) → runs ≤ 4294967295 → total ≡ ends.total exits → total ≤ runs → AreBehind runs [] exits
    → NextExitOrNone runs exits text
exit_next runs total exits text most total_is within are = by (exit_line_at text) refl
  where
    by : (o : Option (Exit × List ℕ)) → exit_line_at text ≡ o → NextExitOrNone runs exits text
    by None h = inr (no_exit_line runs total exits text most total_is within are h)
    by (Some found) h = elim (exit_decided runs total exits are found.0) [
      | inl here ↦ inl (found.0, found.1, next_exit_line runs total exits text most total_is within are found.0 found.1 h here)
      | inr not_here ↦ inr (other_exit_line runs total exits text most total_is within are found.0 found.1 h not_here)
    ]

-- the lines of all exit values, or a wrong one among them
abbrev ExitsOrWrong : ℕ → ℕ → List ℕ → Type 0
ExitsOrWrong runs count text =
    ((exits : List Exit) × (total : ℕ) × (rest : List ℕ) × AllExits runs count text (Ok (exits, total, rest))) ⊎ ((left : ℕ) × GoesWrong (InExits runs count []) text left)

exits_from : (runs count : ℕ) (text : List ℕ) → runs ≤ 4294967295 → (more : ℕ) (rest : List ℕ) (exits : List Exit) (total : ℕ) → length exits + more ≡ count
    → AtExits runs count text rest exits total → ExitsOrWrong runs count text
exits_from runs count text most zero rest exits total sum at = inl (exits, total, rest, (at.reach, omega (arith, sum), at.total_is, at.are))
exits_from runs count text most (suc more) rest exits total sum at = elim (exit_next runs total exits rest most at.total_is at.within at.are) [
  | inl next ↦ (let new : List Exit = exits ++ next.0 ∷ [] in
      let longer = length-append exits (next.0 ∷ []) in
      exits_from runs count text most more next.1 new (total + next.0.runs) (omega (arith, sum, longer))
      (exits_more runs count text rest exits total at (omega (arith, sum)) next.0 next.1 new (total + next.0.runs) next.2 refl refl))
  | inr none ↦ inr (length rest, wrong_exit runs count text rest exits total at (omega (arith, sum)) (length rest) refl none)
]

exits_read : (runs count : ℕ) (text : List ℕ) → runs ≤ 4294967295 → ExitsOrWrong runs count text
exits_read runs count text most = exits_from runs count text most count text [] 0 (omega arith) (exits_start runs count text [] refl)

-- ---- the lines before the regions

abbrev HeadOrWrong : List ℕ → Type 0
HeadOrWrong text = ((counts : _) × (rest : List ℕ) × FoundHead text (Ok (counts, rest))) ⊎ ((left : ℕ) × GoesWrong Opened text left)

module _ (text exit_text : List ℕ) (runs count : ℕ)
    (found : Reaches Opened text (InExits runs count []) exit_text × (1 ≤ runs) × (runs ≤ 4294967295) × (1 ≤ count) × (count ≤ runs)) where
  behind_exits : (exits : List Exit) (total : ℕ) (ops_text : List ℕ) → AllExits runs count exit_text (Ok (exits, total, ops_text)) → HeadOrWrong text
  behind_exits exits total ops_text all = elim (cases_eq total runs) [
    | inl whole ↦ by whole (named_at (codes "ops ") 0 (1000000000 * runs) ops_text) refl
    | inr other ↦ inr (length ops_text, wrong_at_ops text exit_text runs count found exits total ops_text all (other_total runs total ops_text other))
  ]
    where
      by : total ≡ runs → (o : Option (ℕ × List ℕ)) → named_at (codes "ops ") 0 (1000000000 * runs) ops_text ≡ o → HeadOrWrong text
      by whole None h = inr (length ops_text, wrong_at_ops text exit_text runs count found exits total ops_text all (no_ops runs total ops_text found.2 h))
      by whole (Some ops) h =
          inl (
            record { runs = runs; exits = exits; ops = ops.0 },
            ops.1,
            head_found text exit_text runs count found exits total ops_text all ops.0 ops.1 (some_ops runs total ops_text whole ops.0 ops.1 h)
                (record { runs = runs; exits = exits; ops = ops.0 }) refl,
          )

  behind_counts : HeadOrWrong text
  behind_counts = elim (exits_read runs count exit_text found.2) [
    | inl all ↦ behind_exits all.0 all.1 all.2 all.3
    | inr wrong ↦ inr (wrong.0, refused_exits text exit_text runs count found (halts.Wrong wrong.0) wrong.1)
  ]

head_read : (text : List ℕ) → HeadOrWrong text
head_read text = by_first (word_at (codes "kremlin sum 1\n") text) refl
  where
    by_count : (runs_text : List ℕ) (first : word_at (codes "kremlin sum 1\n") text ≡ Some runs_text) (runs : ℕ) (exits_text : List ℕ)
        (second : named_at (codes "runs ") 1 4294967295 runs_text ≡ Some (runs, exits_text)) (o : Option (ℕ × List ℕ)) → named_at (codes "exits ") 1 runs exits_text ≡ o → HeadOrWrong text
    by_count runs_text first runs exits_text second None h = inr (length exits_text, no_exits text runs_text first runs exits_text second h)
    by_count runs_text first runs exits_text second (Some count) h =
        behind_counts text count.1 runs count.0 (counts_reach text runs_text first runs exits_text second count.0 count.1 h)

    by_runs : (runs_text : List ℕ) (first : word_at (codes "kremlin sum 1\n") text ≡ Some runs_text) (o : Option (ℕ × List ℕ))
        → named_at (codes "runs ") 1 4294967295 runs_text ≡ o → HeadOrWrong text
    by_runs runs_text first None h = inr (length runs_text, no_runs text runs_text first h)
    by_runs runs_text first (Some runs) h = by_count runs_text first runs.0 runs.1 h (named_at (codes "exits ") 1 runs.0 runs.1) refl

    by_first : (o : Option (List ℕ)) → word_at (codes "kremlin sum 1\n") text ≡ o → HeadOrWrong text
    by_first None h = inr (length text, no_first text h)
    by_first (Some runs_text) h = by_runs runs_text h (named_at (codes "runs ") 1 4294967295 runs_text) refl

-- ---- regions

abbrev RegionsOrWrong : ℕ → List ℕ → Type 0
RegionsOrWrong count text =
    ((list : List Region) × (rest : List ℕ) × AllRegions Two count text (Ok (list, rest)))
    ⊎ ((left : ℕ) × ((head : Head) → GoesWrong (Listed head (InRegions Two count [])) text left))

regions_from : (count : ℕ) (text : List ℕ) (more : ℕ) (rest : List ℕ) (regions : List Region) → length regions + more ≡ count → AtRegions Two count text rest regions
    → RegionsOrWrong count text
regions_from count text zero rest regions sum at = inl (regions, rest, regions_done Two count text rest regions at (omega (arith, sum)))
regions_from count text (suc more) rest regions sum at = elim (region_next regions rest) [
  | inl next ↦ (let new : List Region = regions ++ next.0 ∷ [] in
      let longer = length-append regions (next.0 ∷ []) in
      regions_from count text more next.1 new (omega (arith, sum, longer)) (regions_more Two count text rest next.1 regions new next.0 at (omega (arith, sum)) next.2 refl))
  | inr none ↦ inr (length rest, wrong_region count text rest regions (length rest) at (omega (arith, sum)) refl none)
]

regions_read : (count : ℕ) (text : List ℕ) → RegionsOrWrong count text
regions_read count text = regions_from count text count text [] (omega arith) (regions_start Two count text [] refl)

-- ---- entries

abbrev EntriesOrWrong : List Region → ℕ → List ℕ → Type 0
EntriesOrWrong list count text =
    ((entries : List Entry) × (extents : List Extent) × (rest : List ℕ) × ListsEntries list count text (Ok (entries, extents, rest)))
    ⊎ ((left : ℕ) × ((head : Head) → GoesWrong (Listed head (InEntries Two list count [])) text left))

module _ (list : List Region) (count : ℕ) (text : List ℕ) (small : length list ≤ 524288) (few : count ≤ 1048576) where
  entries_from : (more : ℕ) (rest : List ℕ) (entries : List Entry) → length entries + more ≡ count → AreDistinct entries → AreInOrder entries
      → AtEntries Two (length list) count text rest entries (extents_of entries) → EntriesOrWrong list count text
  entries_from zero rest entries sum distinct order at =
      inl (
        entries,
        extents_of entries,
        rest,
        (entries_done Two (length list) count text rest entries (extents_of entries) at (omega (arith, sum)) distinct list refl, order, refl),
      )
  entries_from (suc more) rest entries sum distinct order at =
      elim (entry_next Two (length list) entries rest small (omega (arith, sum, few))) [
        | inl next ↦ elim (order_decided entries next.0 order) [
          | inl ordered ↦ (let new : List Entry = entries ++ next.0 ∷ [] in
              let longer = length-append entries (next.0 ∷ []) in
              entries_from more next.1 new (omega (arith, sum, longer)) (AreDistinct-push entries next.0 distinct next.2.new (omega (arith, sum, few)) next.2.few_runs) ordered
              (entries_more Two (length list) count text rest next.1 entries new (extents_of entries) (extents_of new) at (omega (arith, sum)) (next.0, next.2, next.3, refl) refl))
          | inr out ↦ inr (
            length rest,
            λ head.
                entry_out_of_order (length list) count text rest entries (extents_of entries) at order (omega (arith, sum)) list refl head (entries ++ next.0 ∷ []) next.1 (length rest) refl
                (omega (arith, small)) (omega (arith, sum, few)) (next.0, next.2, next.3, refl) (λ last. out (order_more entries next.0 order last)),
          )
        ]
        | inr none ↦ inr (
          length rest,
          λ head.
              wrong_entry (length list) count text rest entries (extents_of entries) at order (omega (arith, sum)) list refl head entries (length rest) refl none,
        )
      ]

  entries_read : EntriesOrWrong list count text
  entries_read =
      entries_from count text [] (omega arith) (record { few = omega arith; few_runs = omega arith; apart = λ m n e h k. absurd (none-some e h) }) (no_order [] refl)
      (entries_start Two (length list) count text [] (extents_of []) refl refl)

-- ---- both lists

abbrev ListingOrWrong : List ℕ → Type 0
ListingOrWrong text =
    ((listing : _) × (rest : List ℕ) × FoundListing text (Ok (listing, rest))) ⊎ ((left : ℕ) × ((head : Head) → GoesWrong (Told head) text left))

module _ (text : List ℕ) (count : ℕ) (region_text : List ℕ) (first : named_at (codes "regions ") 1 524288 text ≡ Some (count, region_text)) where
  module _ (list : List Region) (count_text : List ℕ) (all : AllRegions Two count region_text (Ok (list, count_text))) where
    behind_number : (number : ℕ) (entry_text : List ℕ) → FoundCount list count_text (Some (number, entry_text)) → ListingOrWrong text
    behind_number number entry_text found =
        let takes = named_takes (codes "regions ") 1 524288 text count region_text first in
        elim (entries_read list number entry_text (omega (arith, takes.2, all.1)) found.2) [
          | inl these ↦ inl (
            record { regions = list; entries = these.0; extents = these.1 },
            these.2,
            all_listed text count region_text first list count_text all number entry_text found these.0 these.1 these.2 these.3
                (record { regions = list; entries = these.0; extents = these.1 }) refl,
          )
          | inr wrong ↦ inr (wrong.0, refused_entries text count region_text first list count_text all number entry_text found (halts.Wrong wrong.0) wrong.1)
        ]

    behind_regions : ListingOrWrong text
    behind_regions = elim (count_read list count_text) [
      | inl found ↦ behind_number found.0 found.1 found.2
      | inr none ↦ inr (length count_text, wrong_at_count text count region_text first list count_text all none)
    ]

  behind_first : ListingOrWrong text
  behind_first = elim (regions_read count region_text) [
    | inl all ↦ behind_regions all.0 all.1 all.2
    | inr wrong ↦ inr (wrong.0, refused_regions text count region_text first (halts.Wrong wrong.0) wrong.1)
  ]

listing_read : (text : List ℕ) → ListingOrWrong text
listing_read text = by (named_at (codes "regions ") 1 524288 text) refl
  where
    by : (o : Option (ℕ × List ℕ)) → named_at (codes "regions ") 1 524288 text ≡ o → ListingOrWrong text
    by None h = inr (length text, no_count text h)
    by (Some found) h = behind_first text found.0 found.1 h

-- ---- the line of the roots

abbrev RootsOrWrong : ℕ → List Region → List Entry → List ℕ → Type 0
RootsOrWrong runs regions entries text =
    ((roots : List Run) × (work : ℕ) × (rest : List ℕ) × FoundRoots runs regions entries text (Ok (roots, work, rest))) ⊎ FoundRoots runs regions entries text (Err stops.Wrong)

roots_read : (runs : ℕ) (regions : List Region) (entries : List Entry) (text : List ℕ) → 1 ≤ runs → runs ≤ 4294967295 → length entries ≤ 1048576 → NameEarlier entries
    → RootsOrWrong runs regions entries text
roots_read runs regions entries text some most few earlier = by_word (word_at (codes "roots") text) refl
  where
    same : List Run × List ℕ → List Run × List ℕ
    same found = found

    by_runs : (behind : List ℕ) (word : word_at (codes "roots") text ≡ Some behind) (o : Option (List Run × List ℕ)) → runs_at (length entries) 1048576 behind ≡ o
        → RootsOrWrong runs regions entries text
    by_runs behind word None h = inr (refused_runs runs regions entries text most few behind word same (length entries) stops.Wrong refl h)
    by_runs behind word (Some found) h =
        elim (roots_decided runs regions entries found.0 some most earlier (roots_named runs regions entries text most few behind word found.0 found.1 (length entries) refl h)) [
          | inl are ↦ inl (
            found.0,
            child_works entries found.0,
            found.1,
            right_roots runs regions entries text most few behind word found.0 found.1 (length entries) refl h (child_works entries found.0) are refl,
          )
          | inr not_so ↦ inr (wrong_roots runs regions entries text most few behind word found.0 found.1 (length entries) refl h not_so)
        ]

    by_word : (o : Option (List ℕ)) → word_at (codes "roots") text ≡ o → RootsOrWrong runs regions entries text
    by_word None h = inr (no_word runs regions entries text most few h)
    by_word (Some behind) h = by_runs behind h (runs_at (length entries) 1048576 behind) refl

-- ---- the whole file

abbrev SumOrWrong : List ℕ → Type 0
SumOrWrong text = ((sum : Sum) × (IsSum sum × (text ≡ sum_text sum))) ⊎ ((left : ℕ) × GoesWrong Opened text left)

module _ (text : List ℕ) (counts : _) (list_text : List ℕ) (head : FoundHead text (Ok (counts, list_text))) where
  behind_listing : (listing : _) (roots_text : List ℕ) → FoundListing list_text (Ok (listing, roots_text)) → SumOrWrong text
  behind_listing listing roots_text found =
      elim (roots_read counts.runs listing.regions listing.entries roots_text head.1.some head.1.few found.1.entries.distinct.few (λ n e at. found.1.entries.runs n e at)) [
        | inl roots ↦ elim (text_decided roots.2 (codes "end\n")) [
          | inl ended ↦ (let sum : Sum = sum_of_parts counts listing roots.0 roots.1 in
              inl (sum, finished text counts list_text head listing roots_text found (Ok sum) (sum_ends counts listing roots_text roots.0 roots.1 roots.2 roots.3 ended sum refl)))
          | inr not_ended ↦ inr (
            length roots.2,
            finished text counts list_text head listing roots_text found (Err (halts.Wrong (length roots.2)))
                (wrong_at_end counts listing roots_text roots.0 roots.1 roots.2 roots.3 not_ended),
          )
        ]
        | inr none ↦ inr (
          length roots_text,
          finished text counts list_text head listing roots_text found (Err (halts.Wrong (length roots_text))) (wrong_at_roots counts listing roots_text none),
        )
      ]

  behind_head : SumOrWrong text
  behind_head = elim (listing_read list_text) [
    | inl found ↦ behind_listing found.0 found.1 found.2
    | inr wrong ↦ inr (wrong.0, refused_listing text counts list_text head (halts.Wrong wrong.0) wrong.1)
  ]

sum_or_wrong : (text : List ℕ) → SumOrWrong text
sum_or_wrong text = elim (head_read text) [
  | inl head ↦ behind_head text head.0 head.1 head.2
  | inr wrong ↦ inr wrong
]

-- any bytes spell a sum, or have a first wrong line
pub sum_is_read : (bytes : List ℕ) → ((sum : Sum) × ReadsSum bytes (Ok sum)) ⊎ ((place : ℕ) × ReadsSum bytes (Err (NotSaved place)))
sum_is_read bytes = elim (sum_or_wrong bytes) [
  | inl sum ↦ inl sum
  | inr wrong ↦ inr (length bytes - wrong.0, place_is bytes wrong.0 (length bytes - wrong.0) wrong.1 refl)
]
