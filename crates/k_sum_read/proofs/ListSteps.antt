-- The lines of the regions and of the entries, one by one.
use Rattle.std.proofs.Common.{◌≡◌, ◌≢◌, ℕ, ◌^◌, ◌<◌, ◌≤◌, ◌⊎◌, inl, inr, Bool, true, false, List, [], ◌∷◌, ◌++◌, length, Some, None, Ok, Err, refl, sym, ap, ◌∙◌, subst, arith}
use Rattle.std.specs.Prelude.{codes}
use Rattle.std.specs.List.{flat_map}
use Rattle.std.specs.Fmt.{decimal}
use Rattle.std.proofs.lemmas.Bool.{false≢true}
use Rattle.std.proofs.lemmas.Option.{none-some, same_Some}
use Rattle.k_optab.specs.declared.region.Region.{Region}
use Rattle.k_dict_entries.specs.declared.entry.Entry.{Entry}
use Rattle.k_dict_saved.specs.FileText.{entry_line, region_line}
use Rattle.k_dict_saved.specs.Lines.{InEntries, InRegions, IsNextEntry, MayStand, IsRegion, last_of}
use Rattle.k_dict_saved.specs.Lines as lists
use Rattle.k_dict_saved.specs.Reading.{AllRegions, FoundCount, NextEntry}
use Rattle.k_dict_saved.specs.Syntax.{entry_at, named_at}
use Rattle.k_dict_saved.specs.declared.format.Format.TheVariants.{Two}
use Rattle.k_dict_saved.specs.declared.reading.extents.Extent.{Extent}
use Rattle.k_dict_saved.specs.declared.reading.stop.Halt.{Halt}
use Rattle.k_dict_saved.specs.declared.reading.stop.Halt.TheVariants as halts
use Rattle.k_dict_saved.specs.declared.reading.stop.Stop.TheVariants as stops
use Rattle.k_dict_saved.proofs.EntrySteps.{AtEntries, next_again}
use Rattle.k_dict_saved.proofs.Leading.{leads_once as list_leads_once}
use Rattle.k_dict_saved.proofs.RegionSteps.{AtRegions, linked_paired}
use Rattle.k_dict_saved.proofs.Spelled.{named_again, named_takes}
use Rattle.k_sum_order.specs.Order.{AreInOrder, ComesBefore}
use Rattle.k_sum_order.specs.Placing.{AreLinked}
use Rattle.k_sum_order.proofs.Comparing.{linked_order, order_linked}
use Rattle.k_sum_read.specs.Reading.{FoundListing, LastIsBehind, ListsEntries, ListsRegions, Reaches}
use Rattle.k_sum_read.specs.declared.listing.Listing.{Listing}
use Rattle.k_sum_read.proofs.Leading.{listed_leads, reaches_line, reaches_on, wrong_behind, wrong_here}
use Rattle.k_sum_saved.specs.SumLines.{Follows, GoesWrong, Head, IsRootsLine, Listed, Stage, Told, entries_so_far}
use Rattle.k_text.specs.Texts.{named_line}

abbrev in_regions : lists.Stage → Bool
in_regions (lists.Opened accepts) = false
in_regions (lists.Named format) = false
in_regions (lists.Exited format) = false
in_regions (lists.Counted format) = false
in_regions (lists.InRegions format count regions) = true
in_regions (lists.InEntries format regions count entries) = false

-- no line of roots stands in the midst of others
no_roots : (head : Head) (count : ℕ) (regions : List Region) (line : List ℕ) (next : Stage) → IsRootsLine head (InRegions Two count regions) line next → ⊥
no_roots head count regions line next roots = false≢true (sym (ap in_regions roots.inner_is))

abbrev entries_told : lists.Stage → ℕ
entries_told (lists.Opened accepts) = 0
entries_told (lists.Named format) = 0
entries_told (lists.Exited format) = 0
entries_told (lists.Counted format) = 0
entries_told (lists.InRegions format count regions) = 0
entries_told (lists.InEntries format regions count entries) = count

no_roots_yet : (head : Head) (count : ℕ) (regions : List Region) (entries : List Entry) (line : List ℕ) (next : Stage)
    → IsRootsLine head (InEntries Two regions count entries) line next → length entries < count → ⊥
no_roots_yet head count regions entries line next roots less =
    let told : count ≡ length roots.entries = ap entries_told roots.inner_is in
    let same : entries ≡ roots.entries = ap entries_so_far roots.inner_is in
    let long : length entries ≡ length roots.entries = ap length same in absurd (omega arith)

-- ---- regions

-- the lines of regions lead on
pub regions_reach : (head : Head) (count : ℕ) (text rest : List ℕ) (regions : List Region) → text ≡ flat_map region_line regions ++ rest
    → lists.Leads (InRegions Two count []) (flat_map region_line regions) (InRegions Two count regions)
    → Reaches (Listed head (InRegions Two count [])) text (Listed head (InRegions Two count regions)) rest
regions_reach head count text rest regions cut leads =
    (flat_map region_line regions, cut, listed_leads head (InRegions Two count []) (flat_map region_line regions) (InRegions Two count regions) leads (λ m n d e less at at'. absurd (none-some d at)))

-- where no region's line stands
pub wrong_region : (count : ℕ) (text rest : List ℕ) (regions : List Region) (left : ℕ) → AtRegions Two count text rest regions → length regions < count → left ≡ length rest
    → ((r : Region) (later : List ℕ) → IsRegion r → MayStand (last_of regions) r → rest ≢ region_line r ++ later)
    → (head : Head) → GoesWrong (Listed head (InRegions Two count [])) text left
wrong_region count text rest regions left at less left_is none head =
    let P : ℕ → Type 0 = GoesWrong (Listed head (InRegions Two count [])) text in
    subst P (sym left_is)
    (wrong_behind (Listed head (InRegions Two count [])) text (Listed head (InRegions Two count regions)) rest (length rest) (regions_reach head count text rest regions at.cut at.leads)
    (wrong_here (Listed head (InRegions Two count regions)) rest (record { no_line = here; no_end = λ whole is. whole })))
  where
    one : (line later : List ℕ) (stage : lists.Stage) → lists.Follows (InRegions Two count regions) line stage → rest ≢ line ++ later
    one line later stage (inl more) is = none more.region later more.right more.stands (is ∙ ap (λ l. l ++ later) more.line_is)
    one line later stage (inr other) is = let all = other.all in absurd (omega arith)

    here : (line later : List ℕ) (next : Stage) → Follows (Listed head (InRegions Two count regions)) line next → rest ≢ line ++ later
    here line later next (inl listed) is = one line later listed.stage listed.follows is
    here line later next (inr roots) is = no_roots head count regions line next roots

-- ---- entries

-- the last two of entries
pub goes_on_push : (before : List Entry) (d e : Entry) → AreLinked (before ++ d ∷ []) → ComesBefore d e → AreLinked ((before ++ d ∷ []) ++ e ∷ [])
goes_on_push [] d e linked first = (first, (tt, tt))
goes_on_push (c ∷ []) d e linked first = (linked.0, (first, (tt, tt)))
goes_on_push (c ∷ b ∷ before) d e linked first = (linked.0, goes_on_push (b ∷ before) d e linked.1 first)

pub last_of_push : (before : List Entry) (d e : Entry) → AreLinked ((before ++ d ∷ []) ++ e ∷ []) → ComesBefore d e
last_of_push [] d e linked = linked.0
last_of_push (c ∷ []) d e linked = linked.1.0
last_of_push (c ∷ b ∷ before) d e linked = last_of_push (b ∷ before) d e linked.1

-- the list is empty, or has a last item
pub split : (entries : List Entry) → (entries ≡ []) ⊎ ((before : List Entry) × (d : Entry) × (entries ≡ before ++ d ∷ []))
split [] = inl refl
split (e ∷ entries) = elim (split entries) [
  | inl none ↦ inr ([], e, ap (λ l. e ∷ l) none)
  | inr some ↦ inr (e ∷ some.0, some.1, ap (λ l. e ∷ l) some.2)
]

-- entries in order with one more that comes behind the last
pub order_more : (entries : List Entry) (e : Entry) → AreInOrder entries → LastIsBehind (entries ++ e ∷ []) → AreInOrder (entries ++ e ∷ [])
order_more entries e order last = elim (split entries) [
  | inl none ↦ (let P : List Entry → Type 0 = λ l. AreInOrder (l ++ e ∷ []) in subst P (sym none) (linked_order (e ∷ []) (tt, tt)))
  | inr some ↦ (let P : List Entry → Type 0 = λ l. AreInOrder (l ++ e ∷ []) in
      let Q : List Entry → Type 0 = AreInOrder in
      subst P (sym some.2) (linked_order ((some.0 ++ some.1 ∷ []) ++ e ∷ [])
      (goes_on_push some.0 some.1 e (order_linked (some.0 ++ some.1 ∷ []) (subst Q some.2 order)) (last some.0 some.1 e (ap (λ l. l ++ e ∷ []) some.2)))))
]

-- entries in order end so
pub order_last : (entries : List Entry) → AreInOrder entries → LastIsBehind entries
order_last entries order before d e is = let P : List Entry → Type 0 = AreInOrder in last_of_push before d e (order_linked ((before ++ d ∷ []) ++ e ∷ []) (subst P is order))

-- the lines of entries lead on
pub entries_reach : (head : Head) (list : List Region) (count : ℕ) (text rest : List ℕ) (entries : List Entry) → text ≡ flat_map entry_line entries ++ rest
    → lists.Leads (InEntries Two list count []) (flat_map entry_line entries) (InEntries Two list count entries) → AreInOrder entries
    → Reaches (Listed head (InEntries Two list count [])) text (Listed head (InEntries Two list count entries)) rest
entries_reach head list count text rest entries cut leads order =
    (flat_map entry_line entries, cut, listed_leads head (InEntries Two list count []) (flat_map entry_line entries) (InEntries Two list count entries) leads order)

-- before the first
pub no_order : (entries : List Entry) → entries ≡ [] → AreInOrder entries
no_order entries none = let P : List Entry → Type 0 = AreInOrder in subst P (sym none) (λ m n d e less at at'. absurd (none-some d at))

module _ (regions count : ℕ) (text rest : List ℕ) (entries : List Entry) (extents : List Extent) (at : AtEntries Two regions count text rest entries extents) (order : AreInOrder entries)
    (less : length entries < count) (list : List Region) (same : length list ≡ regions) (head : Head) where
  wrong_at : (left : ℕ) → left ≡ length rest
      → ((e : Entry) (later : List ℕ) → IsNextEntry Two regions entries e → AreInOrder (entries ++ e ∷ []) → rest ≢ entry_line e ++ later)
      → GoesWrong (Listed head (InEntries Two list count [])) text left
  wrong_at left left_is none =
      let P : ℕ → Type 0 = GoesWrong (Listed head (InEntries Two list count [])) text in
      subst P (sym left_is)
      (wrong_behind (Listed head (InEntries Two list count [])) text (Listed head (InEntries Two list count entries)) rest (length rest)
      (entries_reach head list count text rest entries at.cut (at.leads list same) order)
      (wrong_here (Listed head (InEntries Two list count entries)) rest (record { no_line = here; no_end = λ whole is. whole })))
    where
      one : (line later : List ℕ) (stage : lists.Stage) → lists.Follows (InEntries Two list count entries) line stage → AreInOrder (entries_so_far stage) → rest ≢ line ++ later
      one line later stage more ordered is =
          let R : ℕ → Type 0 = λ n. IsNextEntry Two n entries more.entry in
          let Q : List Entry → Type 0 = AreInOrder in
          none more.entry later (subst R same more.right) (subst Q (ap entries_so_far more.next_is) ordered) (is ∙ ap (λ l. l ++ later) more.line_is)

      here : (line later : List ℕ) (next : Stage) → Follows (Listed head (InEntries Two list count entries)) line next → rest ≢ line ++ later
      here line later next (inl listed) is = one line later listed.stage listed.follows listed.order is
      here line later next (inr roots) is = no_roots_yet head count list entries line next roots less

  -- where no entry's line stands
  pub wrong_entry : (new : List Entry) (left : ℕ) → left ≡ length rest → NextEntry Two regions entries new rest (Err stops.Wrong) → GoesWrong (Listed head (InEntries Two list count [])) text left
  wrong_entry new left left_is none = wrong_at left left_is (λ e later next ordered is. none e later next is)

  -- where that of an entry out of order does
  pub entry_out_of_order : (new : List Entry) (behind : List ℕ) (left : ℕ) → left ≡ length rest → regions < 2 ^ 64 → length entries ≤ 1048576
      → NextEntry Two regions entries new rest (Ok behind) → (LastIsBehind new → ⊥) → GoesWrong (Listed head (InEntries Two list count [])) text left
  entry_out_of_order new behind left left_is small few found out =
      wrong_at left left_is (λ e later next ordered is.
      let pair = same_Some (found.0, behind) (e, later)
      (sym (next_again Two regions entries found.0 behind small few found.1) ∙ ap (entry_at regions (length entries)) (sym found.2 ∙ is) ∙ next_again Two regions entries e later small few next) in
      let P : List Entry → Type 0 = LastIsBehind in
      out (subst P (ap (λ x. entries ++ x ∷ []) (sym (ap (λ p. p.0) pair)) ∙ sym found.3) (order_last (entries ++ e ∷ []) ordered)))

-- ---- all lines

-- no line of how many regions there are
pub no_count : (text : List ℕ) → named_at (codes "regions ") 1 524288 text ≡ None → (head : Head) → GoesWrong (Told head) text (length text)
no_count text none head = wrong_here (Told head) text (record { no_line = at; no_end = λ whole is. whole })
  where
    at : (line later : List ℕ) (next : Stage) → Follows (Told head) line next → text ≢ line ++ later
    at line later next one is = none-some (one.0, later)
        (sym none ∙ ap (named_at (codes "regions ") 1 524288) (is ∙ ap (λ l. l ++ later) one.3)
        ∙ named_again (codes "regions ") 1 524288 one.0 later one.1 one.2 (omega arith))

module _ (text : List ℕ) (count : ℕ) (region_text : List ℕ) (first : named_at (codes "regions ") 1 524288 text ≡ Some (count, region_text)) where
  count_reach : (head : Head) → Reaches (Told head) text (Listed head (InRegions Two count [])) region_text
  count_reach head =
      let takes = named_takes (codes "regions ") 1 524288 text count region_text first in
      reaches_line (Told head) text (named_line (codes "regions ") (decimal count)) (Listed head (InRegions Two count [])) region_text (count, takes.1, takes.2, refl, refl) takes.0

  -- what a refusal among the regions says
  pub refused_regions : (halt : Halt) → ListsRegions count region_text (Err halt) → FoundListing text (Err halt)
  refused_regions (halts.Wrong left) wrong = λ head. wrong_behind (Told head) text (Listed head (InRegions Two count [])) region_text left (count_reach head) (wrong head)
  refused_regions halts.Memory wrong = tt

  module _ (list : List Region) (count_text : List ℕ) (all : AllRegions Two count region_text (Ok (list, count_text))) where
    list_reach : (head : Head) → Reaches (Told head) text (Listed head (InRegions Two count list)) count_text
    list_reach head =
        reaches_on (Told head) text (Listed head (InRegions Two count [])) region_text (Listed head (InRegions Two count list)) count_text (count_reach head)
        (regions_reach head count region_text count_text list all.0 all.2)

    -- no right number of entries stands there
    pub wrong_at_count : FoundCount list count_text None → (head : Head) → GoesWrong (Told head) text (length count_text)
    wrong_at_count none head =
        wrong_behind (Told head) text (Listed head (InRegions Two count list)) count_text (length count_text) (list_reach head)
        (wrong_here (Listed head (InRegions Two count list)) count_text (record { no_line = here; no_end = λ whole is. whole }))
      where
        one : (line later : List ℕ) (stage : lists.Stage) → lists.Follows (InRegions Two count list) line stage → count_text ≢ line ++ later
        one line later stage (inl more) is = let few = more.few in let same = all.1 in absurd (omega arith)
        one line later stage (inr other) is = none other.entries later other.closed other.some other.few (is ∙ ap (λ l. l ++ later) other.line_is)

        here : (line later : List ℕ) (next : Stage) → Follows (Listed head (InRegions Two count list)) line next → count_text ≢ line ++ later
        here line later next (inl listed) is = one line later listed.stage listed.follows is
        here line later next (inr roots) is = no_roots head count list line next roots

    module _ (number : ℕ) (entry_text : List ℕ) (found : FoundCount list count_text (Some (number, entry_text))) where
      number_reach : (head : Head) → Reaches (Told head) text (Listed head (InEntries Two list number [])) entry_text
      number_reach head =
          let line : lists.Leads (InRegions Two count list) (named_line (codes "entries ") (decimal number)) (InEntries Two list number []) =
          list_leads_once (InRegions Two count list) (named_line (codes "entries ") (decimal number)) (InEntries Two list number [])
          (inr (record { entries = number; all = all.1; closed = found.0; some = found.1; few = found.2; line_is = refl; next_is = refl })) in
          reaches_on (Told head) text (Listed head (InRegions Two count list)) count_text (Listed head (InEntries Two list number [])) entry_text (list_reach head) (
            named_line (codes "entries ") (decimal number),
            found.3,
            listed_leads head (InRegions Two count list) (named_line (codes "entries ") (decimal number)) (InEntries Two list number []) line (λ m n d e less at at'. absurd (none-some d at)),
          )

      -- what a refusal among the entries says
      pub refused_entries : (halt : Halt) → ListsEntries list number entry_text (Err halt) → FoundListing text (Err halt)
      refused_entries (halts.Wrong left) wrong = λ head. wrong_behind (Told head) text (Listed head (InEntries Two list number [])) entry_text left (number_reach head) (wrong head)
      refused_entries halts.Memory wrong = tt

      -- the whole listing
      pub all_listed : (entries : List Entry) (extents : List Extent) (rest : List ℕ) → ListsEntries list number entry_text (Ok (entries, extents, rest)) → (listing : Listing)
          → listing ≡ record { regions = list; entries = entries; extents = extents } → FoundListing text (Ok (listing, rest))
      all_listed entries extents rest these listing is =
          let P : Listing → Type 0 = λ l. FoundListing text (Ok (l, rest)) in
          let count_is = all.1 in let takes = named_takes (codes "regions ") 1 524288 text count region_text first in
          let some = takes.1 in let few = takes.2 in
          let number_is = these.0.1 in let some_entries = found.1 in
          subst P (sym is) (
            λ head. reaches_on (Told head) text (Listed head (InEntries Two list number [])) entry_text (Listed head (InEntries Two list (length entries) entries)) rest (number_reach head) (on head),
            record {
              regions = record { some = omega arith; few = omega arith; each = all.3; paired = linked_paired None list all.4 found.0 };
              entries = record {
                some = omega arith;
                distinct = these.0.4;
                runs = these.0.5;
                numbers = these.0.3.numbers;
                levels = these.0.3.levels;
                instances = these.0.3.instances;
              };
              in_list = these.0.3.in_list;
              order = these.1;
              extents = these.2;
            },
          )
        where
          on : (head : Head) → Reaches (Listed head (InEntries Two list number [])) entry_text (Listed head (InEntries Two list (length entries) entries)) rest
          on head =
              let P : ℕ → Type 0 = λ n. Reaches (Listed head (InEntries Two list number [])) entry_text (Listed head (InEntries Two list n entries)) rest in
              subst P (sym these.0.1) (entries_reach head list number entry_text rest entries these.0.0 these.0.2 these.1)
