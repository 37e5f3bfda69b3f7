-- The lines of entries, one by one.
use Rattle.std.proofs.Common.{◌≡◌, ◌≢◌, ℕ, ◌+◌, ◌*◌, ◌^◌, ◌<◌, ◌≤◌, inl, inr, List, [], ◌∷◌, ◌++◌, length, map, get_or, Some, None, Ok, Err, slice_get, Contains, refl, sym, ap, ◌∙◌, subst, append_assoc, length-append, arith}
use Rattle.std.specs.List.{flat_map}
use Rattle.std.proofs.lemmas.List.{map-append}
use Rattle.std.proofs.lemmas.Option.{none-some, same_Some, slice_get_within}
use Rattle.k_optab.specs.declared.region.Region.{Region}
use Rattle.k_dict_entries.specs.Entries.{AreDistinct, all_runs, laid, no_tree, tree_of, trees_of}
use Rattle.k_dict_saved.specs.Extents.{extent_of, extents_of}
use Rattle.k_dict_entries.specs.Interning.{HasNumber}
use Rattle.k_dict_saved.specs.Formats.{AreRunsOf, HaveRuns}
use Rattle.k_dict_saved.specs.Lines.{Follows, GoesWrong, InEntries, IsNextEntry, Leads, MayEnd, Stage, arrived}
use Rattle.k_dict_saved.specs.Reading.{Adds, AllEntries, HaveRules, IsWithinRules, NextEntry}
use Rattle.k_dict_saved.specs.FileText.{entry_line}
use Rattle.k_dict_saved.specs.Syntax.{Gives, entry_at}
use Rattle.k_dict_entries.specs.Trees.{Tree, alone, size}
use Rattle.k_dict_entries.specs.declared.entry.Entry.{Entry}
use Rattle.k_dict_entries.specs.declared.entry.Run.{Run}
use Rattle.k_dict_saved.specs.declared.format.Format.{Format}
use Rattle.k_dict_saved.specs.declared.reading.extents.Extent.{Extent}
use Rattle.k_dict_saved.specs.declared.reading.stop.Stop.{Stop}
use Rattle.k_dict_saved.specs.declared.reading.stop.Stop.TheVariants as stops
use Rattle.k_dict_entries.proofs.EntryTrees.{trees-push}
use Rattle.k_dict_saved.proofs.Keeping.{HaveRuns-push, below_of, few_of, no_rules, rules_more}
use Rattle.k_dict_saved.proofs.Leading.{leads_on, wrong_behind, wrong_here}
use Rattle.k_dict_entries.proofs.Places.{is_there, place_of_push}
use Rattle.k_dict_entries.proofs.Pushes.{all_runs-push}
use Rattle.k_dict_saved.proofs.RegionSteps.{flat_map-push}
use Rattle.k_dict_saved.proofs.Spelled.{AreSmall, entry_again, entry_takes}
use Rattle.k_dict_saved.proofs.RunSums.{size-copies}

-- a tree has an instance
some_instance : (t : Tree) → 1 ≤ size (alone t)
some_instance t = omega arith

-- counts are no more than the instances that they stand for
small_counts : (trees : List Tree) (runs : List Run) → size (laid trees runs) < 2 ^ 64 → AreSmall runs
small_counts trees [] small = tt
small_counts trees (run ∷ runs) small =
    let t : Tree = get_or trees run.entry no_tree in
    let sum = size-copies run.count t (laid trees runs) in
    let at_least : run.count ≤ run.count * size (alone t) = times run.count (size (alone t)) (some_instance t) in
    (omega arith, small_counts trees runs (omega arith))
  where
    times : (a b : ℕ) → 1 ≤ b → a ≤ a * b
    times a b some = grind arith

-- the line of an entry that may stand here is read
pub next_again : (format : Format) (regions : ℕ) (entries : List Entry) (e : Entry) (later : List ℕ) → regions < 2 ^ 64 → length entries ≤ 1048576
    → IsNextEntry format regions entries e → entry_at regions (length entries) (entry_line e ++ later) ≡ Some (e, later)
next_again format regions entries e later small few next =
    let most = next.numbers.most in let work = next.numbers.work in let instances = next.instances in
    let runs = few_of format (length entries) e.runs few next.runs in
    entry_again regions (length entries) e later next.region small (omega arith) (omega arith) (omega arith) (below_of format (length entries) e.runs next.runs)
    (omega arith) (small_counts (trees_of entries) e.runs (omega arith))

module _ (format : Format) (regions : ℕ) (entries : List Entry) (text : List ℕ) (small : regions < 2 ^ 64) (few : length entries ≤ 1048576) where
  -- where no entry is read none stands
  pub no_entry : entry_at regions (length entries) text ≡ None → (e : Entry) (later : List ℕ) → IsNextEntry format regions entries e → text ≢ entry_line e ++ later
  no_entry none e later next is =
      none-some (e, later) (sym none ∙ ap (entry_at regions (length entries)) is ∙ next_again format regions entries e later small few next)

  -- where one is read that may not stand there, no other may
  pub no_other_entry : (found : Entry) (rest : List ℕ) → entry_at regions (length entries) text ≡ Some (found, rest) → ¬ IsNextEntry format regions entries found
      → (e : Entry) (later : List ℕ) → IsNextEntry format regions entries e → text ≢ entry_line e ++ later
  no_other_entry found rest read not_here e later next is =
      let pair = same_Some (found, rest) (e, later) (sym read ∙ ap (entry_at regions (length entries)) is ∙ next_again format regions entries e later small few next) in
      let P : Entry → Type 0 = IsNextEntry format regions entries in not_here (subst P (sym (ap (λ p. p.0) pair)) next)

-- the extents of entries and one more
pub extents_more : (entries : List Entry) (e : Entry) → extents_of (entries ++ e ∷ []) ≡ extents_of entries ++ extent_of (tree_of (trees_of entries) e) ∷ []
extents_more entries e =
    ap (map extent_of) (trees-push [] entries e) ∙ map-append extent_of (trees_of entries) (tree_of (trees_of entries) e ∷ [])

-- an entry that gets the next number was not there
pub got_last : (old new : List Entry) (e : Entry) (n : ℕ) → HasNumber old new e n → length old ≤ n → (¬ Contains old e) × (new ≡ old ++ e ∷ [])
got_last old new e n has high = elim has.list [
  | inl there ↦ (let P : List Entry → Type 0 = λ l. slice_get l n ≡ Some e in
      let within = slice_get_within old n e (subst P there.1 has.at) in absurd (omega arith))
  | inr added ↦ added
]

-- an entry that gets an earlier number was there
pub got_earlier : (old new : List Entry) (e : Entry) (n : ℕ) → HasNumber old new e n → n < length old → Contains old e
got_earlier old new e n has low = elim has.list [
  | inl there ↦ there.0
  | inr added ↦ (let P : List Entry → Type 0 = λ l. slice_get l n ≡ Some e in
      is_there old n e (elim (place_of_push old e n e (subst P added.1 has.at)) [ inl k ↦ k | inr k ↦ absurd (omega (arith, k.0)) ]))
]

-- an entry may stand here
pub next_is : (format : Format) (regions : ℕ) (entries : List Entry) (e : Entry) → e.region < regions → AreRunsOf format (length entries) e.runs → IsWithinRules entries e → ¬ Contains entries e
    → all_runs entries + length e.runs ≤ 16777216 → IsNextEntry format regions entries e
next_is format regions entries e region runs rules absent few = record {
  region = region;
  runs = runs;
  new = absent;
  few_runs = few;
  numbers = rules.numbers;
  levels = rules.levels;
  instances = rules.instances;
}

-- what a refusal to read an entry says
pub refused_entry : {X : Type 0} (view : X → Entry × List ℕ) (format : Format) (regions high : ℕ) (old new : List Entry) (text : List ℕ) (stop : Stop) → high ≡ length old → regions < 2 ^ 64
    → length old ≤ 1048576 → Gives view (Err stop) (entry_at regions high text) → NextEntry format regions old new text (Err stop)
refused_entry view format regions high old new text stops.Wrong is small few none =
    no_entry format regions old text small few (ap (λ n. entry_at regions n text) (sym is) ∙ none)
refused_entry view format regions high old new text stops.Memory is small few none = tt

module _ (format : Format) (regions high : ℕ) (old new : List Entry) (text rest : List ℕ) (e : Entry) (is : high ≡ length old) (small : regions < 2 ^ 64) (few : length old ≤ 1048576)
    (read : entry_at regions high text ≡ Some (e, rest)) where
  read_here : entry_at regions (length old) text ≡ Some (e, rest)
  read_here = ap (λ n. entry_at regions n text) (sym is) ∙ read

  -- what a refusal to add one says
  pub refused_add : (stop : Stop) → Adds {T = Unit {0}} old e new (Err stop) → NextEntry format regions old new text (Err stop)
  refused_add stops.Wrong adds = no_other_entry format regions old text small few e rest read_here (λ next. over next)
    where
      over : IsNextEntry format regions old e → ⊥
      over next =
          let runs = next.few_runs in
          let many = adds (record { numbers = next.numbers; levels = next.levels; instances = next.instances }) next.new in absurd (omega arith)
  refused_add stops.Memory adds = tt

  -- runs that are out of order
  pub wrong_runs : (AreRunsOf format high e.runs → ⊥) → NextEntry format regions old new text (Err stops.Wrong)
  wrong_runs wrong = no_other_entry format regions old text small few e rest read_here
      (λ next. let P : ℕ → Type 0 = λ n. AreRunsOf format n e.runs in wrong (subst P (sym is) next.runs))

  -- one that was added
  pub added_entry : (x : Unit {0}) → AreRunsOf format high e.runs → Adds {T = Unit {0}} old e new (Ok x) → NextEntry format regions old new text (Ok rest)
  added_entry x runs adds =
      let takes = entry_takes regions high text e rest read in
      let P : ℕ → Type 0 = λ n. AreRunsOf format n e.runs in
      (e, next_is format regions old e takes.1 (subst P is runs) adds.0 adds.1 adds.2, takes.0, adds.3)

-- what adding an entry comes to
module _ (old new : List Entry) (e : Entry) (n high : ℕ) (has : HasNumber old new e n) (is : high ≡ length old) where
  pub adds_not : n < high → Adds {T = Unit {0}} old e new (Err stops.Wrong)
  adds_not low rules absent = absurd (absent (got_earlier old new e n has (omega arith)))

  pub adds : high ≤ n → AreDistinct new → IsWithinRules old e → (x : Unit {0}) → Adds {T = Unit {0}} old e new (Ok x)
  adds above distinct rules x =
      let got = got_last old new e n has (omega arith) in
      let runs : all_runs new ≡ all_runs old + length e.runs = ap all_runs got.1 ∙ all_runs-push old e in
      let few = distinct.few_runs in
      (rules, got.0, omega arith, got.1)

  pub adds_extent : high ≤ n → (before after : List Extent) (x : Extent) → before ≡ extents_of old → x ≡ extent_of (tree_of (trees_of old) e) → after ≡ before ++ x ∷ []
      → after ≡ extents_of new
  adds_extent above before after x were extent pushed =
      let got = got_last old new e n has (omega arith) in
      pushed ∙ (λ i. were i ++ extent i ∷ []) ∙ sym (extents_more old e) ∙ ap extents_of (sym got.1)

-- where the reading of entries stands: these were read, and this text is left
pub record AtEntries (format : Format) (regions count : ℕ) (text rest : List ℕ) (entries : List Entry) (extents : List Extent) : Type 0 where
  pub cut : text ≡ flat_map entry_line entries ++ rest
  pub leads : (list : List Region) → length list ≡ regions → Leads (InEntries format list count []) (flat_map entry_line entries) (InEntries format list count entries)
  pub few : length entries ≤ count
  pub rules : HaveRules regions entries
  pub runs : HaveRuns format entries
  pub extents_are : extents ≡ extents_of entries

-- before the first
pub entries_start : (format : Format) (regions count : ℕ) (text : List ℕ) (entries : List Entry) (extents : List Extent) → entries ≡ [] → extents ≡ [] → AtEntries format regions count text text entries extents
entries_start format regions count text entries extents none none' =
    let P : List Entry → Type 0 = λ l. AtEntries format regions count text text l extents in
    subst P (sym none) (record {
      cut = refl;
      leads = λ list same. arrived (InEntries format list count []);
      few = omega arith;
      rules = no_rules regions;
      runs = λ n e h. absurd (none-some e h);
      extents_are = none';
    })

-- behind one more
pub entries_more : (format : Format) (regions count : ℕ) (text rest behind : List ℕ) (entries new : List Entry) (extents after : List Extent) → AtEntries format regions count text rest entries extents
    → length entries < count → NextEntry format regions entries new rest (Ok behind) → after ≡ extents_of new → AtEntries format regions count text behind new after
entries_more format regions count text rest behind entries new extents after at less next extents_are =
    let e : Entry = next.0 in let right = next.1 in
    let P : List Entry → Type 0 = λ l. (text ≡ flat_map entry_line l ++ behind)
    × ((list : List Region) → length list ≡ regions → Leads (InEntries format list count []) (flat_map entry_line l) (InEntries format list count l)) × (length l ≤ count) × HaveRules regions l × HaveRuns format l in
    let made : P new = subst P (sym next.3) (cut, (λ list same. leads list same), omega (arith, length-append entries (e ∷ [])), rules_more format regions entries e at.runs at.rules right, HaveRuns-push format entries e at.runs right.runs) in
    record { cut = made.0; leads = made.1; few = made.2; rules = made.3; runs = made.4; extents_are = extents_are }
  where
    cut : text ≡ flat_map entry_line (entries ++ next.0 ∷ []) ++ behind
    cut = at.cut ∙ ap (λ l. flat_map entry_line entries ++ l) next.2 ∙ sym (append_assoc (flat_map entry_line entries) (entry_line next.0) behind)
        ∙ ap (λ l. l ++ behind) (sym (flat_map-push entry_line entries next.0))

    leads : (list : List Region) → length list ≡ regions → Leads (InEntries format list count []) (flat_map entry_line (entries ++ next.0 ∷ [])) (InEntries format list count (entries ++ next.0 ∷ []))
    leads list same =
        let Q : List ℕ → Type 0 = λ l. Leads (InEntries format list count []) l (InEntries format list count (entries ++ next.0 ∷ [])) in
        let R : ℕ → Type 0 = λ n. IsNextEntry format n entries next.0 in
        let line : Follows (InEntries format list count entries) (entry_line next.0) (InEntries format list count (entries ++ next.0 ∷ [])) =
        record { entry = next.0; few = less; right = subst R (sym same) next.1; line_is = refl; next_is = refl } in
        subst Q (sym (flat_map-push entry_line entries next.0))
        (leads_on (InEntries format list count []) (flat_map entry_line entries) (InEntries format list count entries) (entry_line next.0) (InEntries format list count (entries ++ next.0 ∷ [])) (at.leads list same) line)

-- where no entry's line stands
pub wrong_entry : (format : Format) (regions count : ℕ) (text rest : List ℕ) (entries new : List Entry) (extents : List Extent) (left : ℕ) → AtEntries format regions count text rest entries extents
    → length entries < count → left ≡ length rest → NextEntry format regions entries new rest (Err stops.Wrong) → (list : List Region) → length list ≡ regions
    → GoesWrong (InEntries format list count []) text left
wrong_entry format regions count text rest entries new extents left at less left_is none list same =
    let P : ℕ → Type 0 = GoesWrong (InEntries format list count []) text in
    subst P (sym left_is) (wrong_behind (InEntries format list count []) (flat_map entry_line entries) (InEntries format list count entries) text rest (length rest) (at.leads list same) at.cut
    (wrong_here (InEntries format list count entries) rest (record { no_line = here; no_end = λ whole is. at_end whole })))
  where
    here : (line later : List ℕ) (next : Stage) → Follows (InEntries format list count entries) line next → rest ≢ line ++ later
    here line later next one is =
        let R : ℕ → Type 0 = λ n. IsNextEntry format n entries one.entry in
        none one.entry later (subst R same one.right) (is ∙ ap (λ l. l ++ later) one.line_is)

    at_end : MayEnd format list count entries → ⊥
    at_end whole = let all = whole.all in absurd (omega arith)

-- behind the last
pub entries_done : (format : Format) (regions count : ℕ) (text rest : List ℕ) (entries : List Entry) (extents : List Extent) → AtEntries format regions count text rest entries extents → count ≤ length entries
    → AreDistinct entries → (list : List Region) → length list ≡ regions → AllEntries format list count text (Ok (entries, rest))
entries_done format regions count text rest entries extents at all distinct list same =
    let few = at.few in let P : ℕ → Type 0 = λ n. HaveRules n entries in
    (at.cut, omega arith, at.leads list same, subst P (sym same) at.rules, distinct, at.runs)
