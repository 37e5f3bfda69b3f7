-- A whole file: its lines lead to its end, and it is that of no other sum.
use Rattle.std.proofs.Common.{◌≡◌, ℕ, ◌+◌, ◌-◌, inl, inr, List, [], ◌∷◌, ◌++◌, length, Result, Ok, Err, refl, sym, ap, ◌∙◌, subst, append-nil, append_assoc, length-append, arith}
use Rattle.std.specs.Prelude.{codes}
use Rattle.std.specs.List.{flat_map}
use Rattle.std.specs.Fmt.{decimal}
use Rattle.std.proofs.lemmas.List.Concat.{flat_map-cons}
use Rattle.std.proofs.lemmas.Option.{none-some}
use Rattle.k_optab.specs.declared.region.Region.{Region}
use Rattle.k_dict_entries.specs.Rules.{AreProfile, child_works}
use Rattle.k_dict_entries.specs.declared.entry.Entry.{Entry}
use Rattle.k_dict_entries.specs.declared.entry.Run.{Run}
use Rattle.k_dict_entries.proofs.Pushes.{interned}
use Rattle.k_dict_saved.specs.FileText.{entry_line, region_line}
use Rattle.k_dict_saved.specs.Files.{AreFileEntries}
use Rattle.k_dict_saved.specs.Lines.{InEntries, InRegions}
use Rattle.k_dict_saved.specs.Lines as lists
use Rattle.k_dict_saved.specs.declared.fault.SavedFault.TheVariants.{NotSaved, Memory}
use Rattle.k_dict_saved.specs.declared.format.Format.TheVariants.{Two}
use Rattle.k_dict_saved.specs.declared.reading.stop.Halt.{Halt}
use Rattle.k_dict_saved.specs.declared.reading.stop.Halt.TheVariants as halts
use Rattle.k_dict_saved.proofs.Made.{leads_entries, leads_regions}
use Rattle.k_dict_saved.proofs.RegionSteps.{flat_map-push}
use Rattle.k_sum.specs.SumText.{exit_line, exits_text, roots_text, runs_text, sum_text}
use Rattle.k_sum.specs.declared.exits.Exit.{Exit}
use Rattle.k_sum.specs.declared.sum.Sum.{Sum}
use Rattle.k_sum_read.specs.Laws.{FileIsOfOne, LinesLead, NoSumIsWrong, ReadOfWrite, whole_of}
use Rattle.k_sum_read.specs.Reading.{Finishes, FoundHead, FoundListing, Reaches, ReadsAll, head_of, sum_of_parts}
use Rattle.k_sum_saved.specs.SumRules.{AreBehind, IsSum}
use Rattle.k_sum_read.specs.declared.head.Counts.{Counts as CountsValue}
use Rattle.k_sum_read.specs.declared.listing.Listing.{Listing}
use Rattle.k_sum_read.proofs.Leading.{leads_once, leads_through, left_within, listed_leads, reaches_line, reaches_on, wrong_behind}
use Rattle.k_sum_saved.specs.SumLines.{Counted, Follows, GoesWrong, Head, InExits, IsFirstWrong, Leads, Listed, Named, Opened, Rooted, Stage, Told, arrived, onward}
use Rattle.k_sum_saved.proofs.OneReading.{whole_is_not_wrong, whole_is_one}
use Rattle.k_text.specs.Texts.{named_line}

-- ---- what lines tell is their text

-- the text of lines of regions and entries that told so much
abbrev list_text : lists.Stage → List ℕ
list_text (lists.Opened accepts) = []
list_text (lists.Named format) = []
list_text (lists.Exited format) = []
list_text (lists.Counted format) = []
list_text (lists.InRegions format count regions) = named_line (codes "regions ") (decimal count) ++ flat_map region_line regions
list_text (lists.InEntries format regions count entries) =
    (named_line (codes "regions ") (decimal (length regions)) ++ flat_map region_line regions) ++ (named_line (codes "entries ") (decimal count) ++ flat_map entry_line entries)

-- the text of the lines before the regions
abbrev head_text : Head → List ℕ
head_text head = (runs_text (codes "kremlin sum 1\n") head.runs ++ exits_text head.exits) ++ named_line (codes "ops ") (decimal head.ops)

-- the text of lines that told so much
abbrev told : Stage → List ℕ
told Opened = []
told Named = codes "kremlin sum 1\n"
told (Counted runs) = runs_text (codes "kremlin sum 1\n") runs
told (InExits runs count exits) = runs_text (codes "kremlin sum 1\n") runs ++ (named_line (codes "exits ") (decimal count) ++ flat_map exit_line exits)
told (Told head) = head_text head
told (Listed head inner) = head_text head ++ list_text inner
told (Rooted head regions entries roots) = (head_text head ++ list_text (InEntries Two regions (length entries) entries)) ++ roots_text roots

-- the lists have begun
abbrev IsIn : lists.Stage → Type 0
IsIn (lists.Opened accepts) = ⊥
IsIn (lists.Named format) = ⊥
IsIn (lists.Exited format) = ⊥
IsIn (lists.Counted format) = ⊥
IsIn (lists.InRegions format count regions) = Unit {0}
IsIn (lists.InEntries format regions count entries) = Unit {0}

abbrev IsProper : Stage → Type 0
IsProper Opened = Unit {0}
IsProper Named = Unit {0}
IsProper (Counted runs) = Unit {0}
IsProper (InExits runs count exits) = Unit {0}
IsProper (Told head) = Unit {0}
IsProper (Listed head inner) = IsIn inner
IsProper (Rooted head regions entries roots) = Unit {0}

push_text : {X : Type 0} (f : X → List ℕ) (front : List ℕ) (xs : List X) (x : X) → front ++ flat_map f (xs ++ x ∷ []) ≡ (front ++ flat_map f xs) ++ f x
push_text f front xs x = ap (λ l. front ++ l) (flat_map-push f xs x) ∙ sym (append_assoc front (flat_map f xs) (f x))

list_line : (s : lists.Stage) (line : List ℕ) (t : lists.Stage) → IsIn s → lists.Follows s line t → (list_text t ≡ list_text s ++ line) × IsIn t
list_line (lists.Opened accepts) line t is follows = absurd is
list_line (lists.Named format) line t is follows = absurd is
list_line (lists.Exited format) line t is follows = absurd is
list_line (lists.Counted format) line t is follows = absurd is
list_line (lists.InRegions format count regions) line t is (inl more) =
    let P : lists.Stage → Type 0 = IsIn in (
      ap list_text more.next_is ∙ push_text region_line (named_line (codes "regions ") (decimal count)) regions more.region
          ∙ ap (λ l. (named_line (codes "regions ") (decimal count) ++ flat_map region_line regions) ++ l) (sym more.line_is),
      subst P (sym more.next_is) tt,
    )
list_line (lists.InRegions format count regions) line t is (inr other) =
    let P : lists.Stage → Type 0 = IsIn in (
      ap list_text other.next_is
          ∙ ap (λ n. (named_line (codes "regions ") (decimal n) ++ flat_map region_line regions) ++ (named_line (codes "entries ") (decimal other.entries) ++ [])) other.all
          ∙ ap (λ l. (named_line (codes "regions ") (decimal count) ++ flat_map region_line regions) ++ l) (append-nil (named_line (codes "entries ") (decimal other.entries)) ∙ sym other.line_is),
      subst P (sym other.next_is) tt,
    )
list_line (lists.InEntries format regions count entries) line t is more =
    let P : lists.Stage → Type 0 = IsIn in
    let front : List ℕ = named_line (codes "regions ") (decimal (length regions)) ++ flat_map region_line regions in
    let number : List ℕ = named_line (codes "entries ") (decimal count) in (
      ap list_text more.next_is ∙ ap (λ l. front ++ l) (push_text entry_line number entries more.entry) ∙ sym (append_assoc front (number ++ flat_map entry_line entries) (entry_line more.entry))
          ∙ ap (λ l. (front ++ (number ++ flat_map entry_line entries)) ++ l) (sym more.line_is),
      subst P (sym more.next_is) tt,
    )

told_line : (s : Stage) (line : List ℕ) (t : Stage) → IsProper s → Follows s line t → (told t ≡ told s ++ line) × IsProper t
told_line Opened line t is one = let P : Stage → Type 0 = IsProper in (ap told one.1 ∙ sym one.0, subst P (sym one.1) tt)
told_line Named line t is one = let P : Stage → Type 0 = IsProper in (ap told one.4 ∙ ap (λ l. codes "kremlin sum 1\n" ++ l) (sym one.3), subst P (sym one.4) tt)
told_line (Counted runs) line t is one =
    let P : Stage → Type 0 = IsProper in
    (ap told one.4 ∙ ap (λ l. runs_text (codes "kremlin sum 1\n") runs ++ l) (append-nil (named_line (codes "exits ") (decimal one.0)) ∙ sym one.3), subst P (sym one.4) tt)
told_line (InExits runs count exits) line t is (inl one) =
    let P : Stage → Type 0 = IsProper in
    let front : List ℕ = runs_text (codes "kremlin sum 1\n") runs in let number : List ℕ = named_line (codes "exits ") (decimal count) in (
      ap told one.next_is ∙ ap (λ l. front ++ l) (push_text exit_line number exits one.exit) ∙ sym (append_assoc front (number ++ flat_map exit_line exits) (exit_line one.exit))
          ∙ ap (λ l. (front ++ (number ++ flat_map exit_line exits)) ++ l) (sym one.line_is),
      subst P (sym one.next_is) tt,
    )
told_line (InExits runs count exits) line t is (inr one) =
    let P : Stage → Type 0 = IsProper in
    let front : List ℕ = runs_text (codes "kremlin sum 1\n") runs in (
      ap told one.next_is
          ∙ ap (λ n. (front ++ (named_line (codes "exits ") (decimal n) ++ flat_map exit_line exits)) ++ named_line (codes "ops ") (decimal one.ops)) one.all
          ∙ ap (λ l. (front ++ (named_line (codes "exits ") (decimal count) ++ flat_map exit_line exits)) ++ l) (sym one.line_is),
      subst P (sym one.next_is) tt,
    )
told_line (Told head) line t is one =
    let P : Stage → Type 0 = IsProper in
    (ap told one.4 ∙ ap (λ l. head_text head ++ l) (append-nil (named_line (codes "regions ") (decimal one.0)) ∙ sym one.3), subst P (sym one.4) tt)
told_line (Listed head inner) line t is (inl one) =
    let P : Stage → Type 0 = IsProper in
    let more = list_line inner line one.stage is one.follows in
    (ap told one.next_is ∙ ap (λ l. head_text head ++ l) more.0 ∙ sym (append_assoc (head_text head) (list_text inner) line), subst P (sym one.next_is) more.1)
told_line (Listed head inner) line t is (inr one) =
    let P : Stage → Type 0 = IsProper in
    (ap told one.next_is ∙ (λ i. (head_text head ++ list_text (sym one.inner_is i)) ++ sym one.line_is i), subst P (sym one.next_is) tt)
told_line (Rooted head regions entries roots) line t is one = absurd one

told_all : (s : Stage) (lines : List ℕ) (t : Stage) → IsProper s → Leads s lines t → told t ≡ told s ++ lines
told_all _ _ _ is (arrived s) = sym (append-nil (told s))
told_all _ _ _ is (onward s line t lines u first rest) =
    let one = told_line s line t is first in
    told_all t lines u one.1 rest ∙ ap (λ l. l ++ lines) one.0 ∙ append_assoc (told s) line lines

-- the text of a sum is what its lines told, and the end
text_told : (sum : Sum) → sum_text sum ≡ told (whole_of sum) ++ codes "end\n"
text_told sum = regroup (runs_text (codes "kremlin sum 1\n") sum.runs) (exits_text sum.exits) (named_line (codes "ops ") (decimal sum.ops))
    (named_line (codes "regions ") (decimal (length sum.regions)) ++ flat_map region_line sum.regions) (named_line (codes "entries ") (decimal (length sum.dict)) ++ flat_map entry_line sum.dict)
    (roots_text sum.roots) (codes "end\n")
  where
    regroup : (a b c d f h z : List ℕ) → ((((((a ++ b) ++ c) ++ d) ++ f) ++ h) ++ z) ≡ (((((a ++ b) ++ c) ++ (d ++ f)) ++ h) ++ z)
    regroup a b c d f h z = simp append_assoc

-- lines that lead to the end of a sum are its text
text_is : (sum : Sum) (lines bytes : List ℕ) → Leads Opened lines (whole_of sum) → bytes ≡ lines ++ codes "end\n" → bytes ≡ sum_text sum
text_is sum lines bytes leads cut = cut ∙ ap (λ l. l ++ codes "end\n") (sym (told_all Opened lines (whole_of sum) tt leads)) ∙ sym (text_told sum)

-- ---- the lines of a sum

-- the entries of a profile are those of a file of format 2
file_entries : (entries : List Entry) → AreProfile entries → AreFileEntries Two entries
file_entries entries are = record {
  some = are.some;
  distinct = record { few = are.interned.few; few_runs = are.interned.few_runs; apart = are.interned.apart };
  runs = are.interned.earlier;
  numbers = are.numbers;
  levels = are.levels;
  instances = are.instances;
}

-- and those of such a file are those of a profile
profile_entries : (entries : List Entry) → AreFileEntries Two entries → AreProfile entries
profile_entries entries are = record {
  some = are.some;
  interned = interned entries are.distinct are.runs;
  numbers = are.numbers;
  levels = are.levels;
  instances = are.instances;
}

exits_lead : (runs count : ℕ) (before after : List Exit) → AreBehind runs before after → length before + length after ≡ count
    → Leads (InExits runs count before) (flat_map exit_line after) (InExits runs count (before ++ after))
exits_lead runs count before [] are sum =
    let P : List Exit → Type 0 = λ l. Leads (InExits runs count before) [] (InExits runs count l) in subst P (sym (append-nil before)) (arrived (InExits runs count before))
exits_lead runs count before (x ∷ after) are sum =
    let next : List Exit = before ++ x ∷ [] in
    let longer = length-append before (x ∷ []) in
    let line : Follows (InExits runs count before) (exit_line x) (InExits runs count next) = inl (record { exit = x; few = omega arith; right = are.0; line_is = refl; next_is = refl }) in
    let P : List Exit → Type 0 = λ l. Leads (InExits runs count before) (flat_map exit_line (x ∷ after)) (InExits runs count l) in
    let T : List ℕ → Type 0 = λ l. Leads (InExits runs count before) l (InExits runs count (next ++ after)) in
    subst P (append_assoc before (x ∷ []) after)
    (subst T (sym (flat_map-cons exit_line x after)) (onward (InExits runs count before) (exit_line x) (InExits runs count next) (flat_map exit_line after) (InExits runs count (next ++ after)) line
    (exits_lead runs count next after are.1 (omega arith))))

module _ (sum : Sum) (is : IsSum sum) where
  abbrev the_head : Head
  the_head = record { runs = sum.runs; exits = sum.exits; ops = sum.ops }

  abbrev ops_line : List ℕ
  ops_line = named_line (codes "ops ") (decimal sum.ops)

  abbrev regions_line : List ℕ
  regions_line = named_line (codes "regions ") (decimal (length sum.regions))

  abbrev entries_line : List ℕ
  entries_line = named_line (codes "entries ") (decimal (length sum.dict))

  -- the lines of the entries and of the roots
  entries_lead : Leads (Listed the_head (InRegions Two (length sum.regions) sum.regions)) (entries_line ++ (flat_map entry_line sum.dict ++ roots_text sum.roots)) (whole_of sum)
  entries_lead =
      let regions = leads_regions Two (length sum.regions) [] sum.regions is.regions.each is.regions.paired (omega arith) in
      let number : lists.Follows (InRegions Two (length sum.regions) sum.regions) entries_line (InEntries Two sum.regions (length sum.dict) []) =
      inr (record { entries = length sum.dict; all = refl; closed = regions.1; some = is.profile.some; few = is.profile.interned.few; line_is = refl; next_is = refl }) in
      let entries = leads_entries Two sum.regions (length sum.dict) [] sum.dict (file_entries sum.dict is.profile) is.in_list (omega arith) in
      let roots : Follows (Listed the_head (InEntries Two sum.regions (length sum.dict) sum.dict)) (roots_text sum.roots) (whole_of sum) =
      inr (record { regions = sum.regions; entries = sum.dict; inner_is = refl; roots = sum.roots; right = is.roots; line_is = refl; next_is = refl }) in
      onward (Listed the_head (InRegions Two (length sum.regions) sum.regions)) entries_line (Listed the_head (InEntries Two sum.regions (length sum.dict) []))
      (flat_map entry_line sum.dict ++ roots_text sum.roots) (whole_of sum)
      (inl (record { stage = InEntries Two sum.regions (length sum.dict) []; follows = number; order = λ m n d e less at at'. absurd (none-some d at); next_is = refl }))
      (leads_through (Listed the_head (InEntries Two sum.regions (length sum.dict) [])) (flat_map entry_line sum.dict) (Listed the_head (InEntries Two sum.regions (length sum.dict) sum.dict))
      (roots_text sum.roots) (whole_of sum)
      (listed_leads the_head (InEntries Two sum.regions (length sum.dict) []) (flat_map entry_line sum.dict) (InEntries Two sum.regions (length sum.dict) sum.dict) entries is.order)
      (leads_once (Listed the_head (InEntries Two sum.regions (length sum.dict) sum.dict)) (roots_text sum.roots) (whole_of sum) roots))

  -- the lines behind the exit values
  lists_lead : Leads (InExits sum.runs (length sum.exits) sum.exits) (ops_line ++ (regions_line ++ (flat_map region_line sum.regions ++ (entries_line ++ (flat_map entry_line sum.dict ++ roots_text sum.roots))))) (whole_of sum)
  lists_lead =
      let regions = leads_regions Two (length sum.regions) [] sum.regions is.regions.each is.regions.paired (omega arith) in
      let ops : Follows (InExits sum.runs (length sum.exits) sum.exits) ops_line (Told the_head) =
      inr (record { ops = sum.ops; all = refl; whole = is.exits.whole; few = is.ops; line_is = refl; next_is = refl }) in
      onward (InExits sum.runs (length sum.exits) sum.exits) ops_line (Told the_head) (regions_line ++ (flat_map region_line sum.regions ++ (entries_line ++ (flat_map entry_line sum.dict ++ roots_text sum.roots))))
      (whole_of sum) ops
      (onward (Told the_head) regions_line (Listed the_head (InRegions Two (length sum.regions) [])) (flat_map region_line sum.regions ++ (entries_line ++ (flat_map entry_line sum.dict ++ roots_text sum.roots)))
      (whole_of sum) (length sum.regions, is.regions.some, is.regions.few, refl, refl)
      (leads_through (Listed the_head (InRegions Two (length sum.regions) [])) (flat_map region_line sum.regions) (Listed the_head (InRegions Two (length sum.regions) sum.regions))
      (entries_line ++ (flat_map entry_line sum.dict ++ roots_text sum.roots)) (whole_of sum)
      (listed_leads the_head (InRegions Two (length sum.regions) []) (flat_map region_line sum.regions) (InRegions Two (length sum.regions) sum.regions) regions.0 (λ m n d e less at at'. absurd (none-some d at)))
      entries_lead))

  -- all lines
  all_lead : (lines : List ℕ) × Leads Opened lines (whole_of sum)
  all_lead =
      let rest : List ℕ = ops_line ++ (regions_line ++ (flat_map region_line sum.regions ++ (entries_line ++ (flat_map entry_line sum.dict ++ roots_text sum.roots)))) in
      let runs_line : List ℕ = named_line (codes "runs ") (decimal sum.runs) in let exits_line : List ℕ = named_line (codes "exits ") (decimal (length sum.exits)) in (
        codes "kremlin sum 1\n" ++ (runs_line ++ (exits_line ++ (flat_map exit_line sum.exits ++ rest))),
        onward Opened (codes "kremlin sum 1\n") Named (runs_line ++ (exits_line ++ (flat_map exit_line sum.exits ++ rest))) (whole_of sum) (refl, refl)
            (onward Named runs_line (Counted sum.runs) (exits_line ++ (flat_map exit_line sum.exits ++ rest)) (whole_of sum) (sum.runs, is.some, is.few, refl, refl)
            (onward (Counted sum.runs) exits_line (InExits sum.runs (length sum.exits) []) (flat_map exit_line sum.exits ++ rest) (whole_of sum)
            (length sum.exits, is.exits.some, is.exits.few, refl, refl)
            (leads_through (InExits sum.runs (length sum.exits) []) (flat_map exit_line sum.exits) (InExits sum.runs (length sum.exits) sum.exits) rest (whole_of sum)
            (exits_lead sum.runs (length sum.exits) [] sum.exits is.exits.each (omega arith)) lists_lead))),
      )

pub lines_lead : LinesLead
lines_lead sum is = let all = all_lead sum is in (all.0, all.1, sym (text_is sum all.0 (all.0 ++ codes "end\n") all.1 refl))

pub no_sum_wrong : NoSumIsWrong
no_sum_wrong sum place is wrong =
    let lines = lines_lead sum is in
    let P : List ℕ → Type 0 = λ l. IsFirstWrong l place in
    whole_is_not_wrong lines.0 (whole_of sum) place lines.1 tt (subst P lines.2 wrong)

pub file_of_one : FileIsOfOne
file_of_one one other is is' same =
    let lines = lines_lead one is in let lines' = lines_lead other is' in
    let whole : whole_of one ≡ whole_of other = whole_is_one lines.0 lines'.0 (whole_of one) (whole_of other) lines.1 lines'.1 tt tt (sym lines.2 ∙ same ∙ lines'.2) in
    let parts : parts_of (whole_of one) ≡ parts_of (whole_of other) = ap parts_of whole in
    let dict : one.dict ≡ other.dict = ap (λ p. p.4) parts in
    let roots : one.roots ≡ other.roots = ap (λ p. p.5) parts in
    let work : one.work ≡ other.work = is.work ∙ (λ i. child_works (dict i) (roots i)) ∙ sym is'.work in
    λ i. record {
      runs = (parts i).0;
      exits = (parts i).1;
      ops = (parts i).2;
      work = work i;
      regions = (parts i).3;
      dict = dict i;
      roots = roots i;
    }
  where
    parts_of : Stage → ℕ × List Exit × ℕ × List Region × List Entry × List Run
    parts_of Opened = (0, [], 0, [], [], [])
    parts_of Named = (0, [], 0, [], [], [])
    parts_of (Counted runs) = (0, [], 0, [], [], [])
    parts_of (InExits runs count exits) = (0, [], 0, [], [], [])
    parts_of (Told head) = (0, [], 0, [], [], [])
    parts_of (Listed head inner) = (0, [], 0, [], [], [])
    parts_of (Rooted head regions entries roots) = (head.runs, head.exits, head.ops, regions, entries, roots)

pub read_of_write : ReadOfWrite
read_of_write sum (Ok read) is reads = sym (file_of_one sum read is reads.0 reads.1)
read_of_write sum (Err (NotSaved place)) is reads = no_sum_wrong sum place is reads
read_of_write sum (Err Memory) is reads = tt

-- ---- how reading ends

-- what a refusal before the regions says
pub refused_head : (text : List ℕ) (halt : Halt) → FoundHead text (Err halt) → ReadsAll text (Err halt)
refused_head text (halts.Wrong left) wrong = wrong
refused_head text halts.Memory wrong = tt

module _ (text : List ℕ) (counts : CountsValue) (list_text' : List ℕ) (head : FoundHead text (Ok (counts, list_text'))) where
  -- what a refusal of the lists says
  pub refused_listing : (halt : Halt) → FoundListing list_text' (Err halt) → ReadsAll text (Err halt)
  refused_listing (halts.Wrong left) wrong = wrong_behind Opened text (Told (head_of counts)) list_text' left head.0 (wrong (head_of counts))
  refused_listing halts.Memory wrong = tt

  module _ (listing : Listing) (roots_text' : List ℕ) (found : FoundListing list_text' (Ok (listing, roots_text'))) where
    reach : Reaches Opened text (Listed (head_of counts) (InEntries Two listing.regions (length listing.entries) listing.entries)) roots_text'
    reach = reaches_on Opened text (Told (head_of counts)) list_text' (Listed (head_of counts) (InEntries Two listing.regions (length listing.entries) listing.entries)) roots_text' head.0
        (found.0 (head_of counts))

    -- how the reading ends
    pub finished : (result : Result Sum Halt) → Finishes counts listing roots_text' result → ReadsAll text result
    finished (Ok sum) (roots, right, cut, is) =
        let made : Sum = sum_of_parts counts listing roots (child_works listing.entries roots) in
        let right_sum : IsSum made = record {
          some = head.1.some;
          few = head.1.few;
          exits = head.1.exits;
          ops = head.1.ops;
          regions = found.1.regions;
          profile = profile_entries listing.entries found.1.entries;
          in_list = found.1.in_list;
          order = found.1.order;
          roots = right;
          work = refl;
        } in
        let line : Follows (Listed (head_of counts) (InEntries Two listing.regions (length listing.entries) listing.entries)) (roots_text roots) (whole_of made) =
        inr (record { regions = listing.regions; entries = listing.entries; inner_is = refl; roots = roots; right = right; line_is = refl; next_is = refl }) in
        let whole = reaches_on Opened text (Listed (head_of counts) (InEntries Two listing.regions (length listing.entries) listing.entries)) roots_text' (whole_of made) (codes "end\n") reach
        (reaches_line (Listed (head_of counts) (InEntries Two listing.regions (length listing.entries) listing.entries)) roots_text' (roots_text roots) (whole_of made) (codes "end\n") line cut) in
        let P : Sum → Type 0 = λ s. IsSum s × (text ≡ sum_text s) in
        subst P (sym is) (right_sum, text_is made whole.0 text whole.2 whole.1)
    finished (Err (halts.Wrong left)) wrong =
        wrong_behind Opened text (Listed (head_of counts) (InEntries Two listing.regions (length listing.entries) listing.entries)) roots_text' left reach wrong
    finished (Err halts.Memory) wrong = tt

-- the place of the first wrong line
pub place_is : (bytes : List ℕ) (left place : ℕ) → GoesWrong Opened bytes left → place ≡ length bytes - left → IsFirstWrong bytes place
place_is bytes left place wrong is = let within = left_within Opened bytes left wrong in (left, omega arith, wrong)
