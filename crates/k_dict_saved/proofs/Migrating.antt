-- The entries of format 1 become those of a dictionary, one by one.
use Rattle.std.proofs.Common.{◌≡◌, ℕ, zero, suc, ◌+◌, ◌^◌, ◌<◌, ◌≤◌, ◌⊎◌, inl, inr, List, [], ◌∷◌, ◌++◌, length, get_or, Some, Err, slice_get, refl, sym, ap, ◌∙◌, subst, arith, append-nil, append_assoc, length-append}
use Rattle.std.proofs.lemmas.List.{get_or_append_left, get_or_at}
use Rattle.std.proofs.lemmas.List.Sums.{sum_by-append, sum_by-cons}
use Rattle.std.proofs.lemmas.Bool.{cases_lt, cases_order}
use Rattle.std.proofs.lemmas.Option.{none-some}
use Rattle.k_dict_entries.specs.Trees.{Forest, Label, Tree, alone}
use Rattle.k_dict_entries.specs.Entries.{AreDistinct, AreInterned, NameBelow, all_runs, copies, label_of, laid, no_tree, tree_at, tree_of, trees_of}
use Rattle.k_dict_entries.specs.Gathering.{number_of, with_entry}
use Rattle.k_dict_entries.specs.Interning.{CanIntern, HasNumber, Interns}
use Rattle.k_dict_entries.specs.Tallies.{count_of, counted, total}
use Rattle.k_dict_entries.specs.declared.dict.DictFault.{DictFault}
use Rattle.k_dict_entries.specs.declared.dict.DictFault.TheVariants.{Full}
use Rattle.k_dict_entries.specs.declared.dict.Which.{Which}
use Rattle.k_dict_entries.specs.declared.dict.Which.TheVariants.{Entries, AllRuns}
use Rattle.k_dict_entries.specs.declared.entry.Entry.{Entry}
use Rattle.k_dict_entries.specs.declared.entry.Run.{Run}
use Rattle.k_dict_entries.proofs.Coding.{Knows, Knows-kept, code, code-copies, code-kept, entry_at, number_in, times-counted}
use Rattle.k_dict_entries.proofs.Counting.{counted-at, counted-before, counted-behind}
use Rattle.k_dict_entries.proofs.EntryTrees.{length-trees, trees-push}
use Rattle.k_dict_entries.proofs.Numbers.{IsIn, number_kept}
use Rattle.k_dict_entries.proofs.Places.{place_behind}
use Rattle.k_dict_entries.proofs.Pushes.{all_runs-push}
use Rattle.k_dict_entries.proofs.Sound.{count_of-total, number_is, total-counted}
use Rattle.k_dict_entries.proofs.Walking.{AreEntriesOf, can_add, closing, has_added, none_seen}
use Rattle.k_dict_saved.specs.Formats.{HaveRuns}
use Rattle.k_dict_saved.specs.Migration.{AreOfShapes, renumbered, renumbered_entry}
use Rattle.k_dict_saved.specs.declared.format.Format.TheVariants.{One}

module _ (dict : List Entry) (trees : List Tree) (numbers : List ℕ) (high : ℕ)
    (each : (n : ℕ) → n < high → get_or numbers n 0 ≡ number_in dict (get_or trees n no_tree)) where
  -- the runs of what runs stand for are those runs with the numbers that their entries' trees have
  pub code_renumbered : (runs so_far : List Run) → NameBelow high runs → code dict (laid trees runs) so_far ≡ renumbered numbers runs so_far
  code_renumbered [] so_far below = refl
  code_renumbered (run ∷ runs) so_far below =
      let t : Tree = get_or trees run.entry no_tree in
      code-copies dict run.count t (laid trees runs) so_far
      ∙ ap (code dict (laid trees runs)) (times-counted run.count (number_in dict t) so_far below.1 ∙ ap (λ n. counted n run.count so_far) (sym (each run.entry below.0)))
      ∙ code_renumbered runs (counted (get_or numbers run.entry 0) run.count so_far) below.2

-- what runs stand for is known where their entries' trees are
knows_laid : (dict : List Entry) (trees : List Tree) (high : ℕ) → ((n : ℕ) → n < high → Knows dict (alone (get_or trees n no_tree)))
    → (runs : List Run) → NameBelow high runs → Knows dict (laid trees runs)
knows_laid dict trees high each [] below = tt
knows_laid dict trees high each (run ∷ runs) below = by (knows_laid dict trees high each runs below.2) run.count
  where
    by : Knows dict (laid trees runs) → (n : ℕ) → Knows dict (copies n (get_or trees run.entry no_tree) (laid trees runs))
    by rest zero = rest
    by rest (suc n) = let one = each run.entry below.0 in (one.0, one.1, by rest n)

-- counting adds at most one run
length-counted : (n count : ℕ) (runs : List Run) → length (counted n count runs) ≤ length runs + 1
length-counted n count [] = omega arith
length-counted n count (run ∷ runs) = elim (cases_order n run.entry) [
  | inl at ↦ (let is = ap length (counted-at n count run runs at) in omega arith)
  | inr order ↦ elim order [
    | inl before ↦ (let is = ap length (counted-before n count run runs before) in omega arith)
    | inr behind ↦ (let is = ap length (counted-behind n count run runs behind) in let rest = length-counted n count runs in omega arith)
  ]
]

-- there are no more runs than before
pub length-renumbered : (numbers : List ℕ) (runs so_far : List Run) → length (renumbered numbers runs so_far) ≤ length runs + length so_far
length-renumbered numbers [] so_far = omega arith
length-renumbered numbers (run ∷ runs) so_far =
    let one = length-counted (get_or numbers run.entry 0) run.count so_far in
    let rest = length-renumbered numbers runs (counted (get_or numbers run.entry 0) run.count so_far) in omega arith

-- so many children more can be counted
pub add_fits : (n : ℕ) (tally : List Run) (run : Run) (rest later runs : List Run) → total tally + total rest ≡ total runs → rest ≡ run ∷ later
    → total runs < 2 ^ 64 → count_of n tally + run.count < 2 ^ 64
add_fits n tally run rest later runs sum is few =
    let here = count_of-total n tally in let parts : total rest ≡ run.count + total later = ap total is in omega arith

-- where the counting of children stands: those of these runs are left
pub record Renumbering (numbers : List ℕ) (runs rest tally : List Run) : Type 0 where
  pub whole : renumbered numbers rest tally ≡ renumbered numbers runs []
  pub sum : total tally + total rest ≡ total runs
  pub below : NameBelow (length numbers) rest

pub renumbering_start : (numbers : List ℕ) (runs tally : List Run) → NameBelow (length numbers) runs → tally ≡ [] → Renumbering numbers runs runs tally
renumbering_start numbers runs tally below none =
    let P : List Run → Type 0 = Renumbering numbers runs runs in
    subst P (sym none) (record { whole = refl; sum = omega arith; below = below })

pub renumbering_more : (numbers : List ℕ) (runs rest later tally new : List Run) (run : Run) (n : ℕ) → Renumbering numbers runs rest tally → rest ≡ run ∷ later
    → n ≡ get_or numbers run.entry 0 → new ≡ counted n run.count tally → Renumbering numbers runs later new
renumbering_more numbers runs rest later tally new run n at is number added =
    let here : new ≡ counted (get_or numbers run.entry 0) run.count tally = added ∙ ap (λ k. counted k run.count tally) number in
    let P : List Run → Type 0 = Renumbering numbers runs later in
    let Q : List Run → Type 0 = NameBelow (length numbers) in
    let parts : total rest ≡ run.count + total later = ap total is in
    let more = total-counted (get_or numbers run.entry 0) run.count tally in
    let sum = at.sum in
    subst P (sym here) (record {
      whole = sym (ap (λ l. renumbered numbers l tally) is) ∙ at.whole;
      sum = omega arith;
      below = (subst Q is at.below).2;
    })

pub renumbering_done : (numbers : List ℕ) (runs rest tally : List Run) → Renumbering numbers runs rest tally → rest ≡ [] → tally ≡ renumbered numbers runs []
renumbering_done numbers runs rest tally at none = sym (ap (λ l. renumbered numbers l tally) none) ∙ at.whole

-- where the migration of entries stands: those before these are done
pub record Migrating (entries rest dict : List Entry) (numbers : List ℕ) : Type 0 where
  pub before : List Entry
  pub cut : entries ≡ before ++ rest
  pub are : AreEntriesOf dict (trees_of before)
  pub count : length numbers ≡ length before
  pub knows : (n : ℕ) → n < length before → Knows dict (alone (tree_at before n))
  pub each : (n : ℕ) → n < length before → get_or numbers n 0 ≡ number_in dict (tree_at before n)
  pub few : length dict ≤ length before
  pub few_runs : all_runs dict ≤ all_runs before
  pub interned : AreInterned dict

-- before the first
pub migrating_start : (entries dict : List Entry) (numbers : List ℕ) → dict ≡ [] → numbers ≡ [] → Migrating entries entries dict numbers
migrating_start entries dict numbers none none' =
    let P : List Entry → Type 0 = λ d. Migrating entries entries d numbers in
    let Q : List ℕ → Type 0 = λ l. Migrating entries entries [] l in
    subst P (sym none) (subst Q (sym none') (record {
      before = [];
      cut = refl;
      are = none_seen;
      count = refl;
      knows = λ n less. absurd (omega arith);
      each = λ n less. absurd (omega arith);
      few = omega arith;
      few_runs = omega arith;
      interned = record { few = omega arith; few_runs = omega arith; earlier = λ n d h. absurd (none-some d h); apart = λ m n d h k. absurd (none-some d h) };
    }))

module _ (entries rest later dict : List Entry) (numbers : List ℕ) (e : Entry) (at : Migrating entries rest dict numbers) (is : rest ≡ e ∷ later)
    (runs : HaveRuns One entries) where
  -- the entry stands behind those that are done
  place : slice_get entries (length at.before) ≡ Some e
  place = let P : List Entry → Type 0 = λ l. slice_get l (length at.before) ≡ Some e in
      subst P (sym (at.cut ∙ ap (λ l. at.before ++ l) is)) (place_behind at.before e later)

  -- its runs name entries that are done
  pub below_done : NameBelow (length numbers) e.runs
  below_done = let P : ℕ → Type 0 = λ n. NameBelow n e.runs in subst P (sym at.count) (runs (length at.before) e place).0

  pub place_of_next : slice_get entries (length at.before) ≡ Some e
  place_of_next = place

  -- its children, and what they are coded as
  abbrev children : Forest
  children = laid (trees_of at.before) e.runs

  below : NameBelow (length at.before) e.runs
  below = (runs (length at.before) e place).0

  known : Knows dict children
  known = knows_laid dict (trees_of at.before) (length at.before) at.knows e.runs below

  coded : code dict children [] ≡ renumbered numbers e.runs []
  coded = code_renumbered dict (trees_of at.before) numbers (length at.before) at.each e.runs [] below

  -- the entry that is added can be
  pub can_intern : (d : Entry) → d ≡ renumbered_entry numbers e → CanIntern dict d
  can_intern d same =
      let P : List Run → Type 0 = λ l. CanIntern dict (entry_at (label_of e) l) in
      let Q : Entry → Type 0 = CanIntern dict in
      subst Q (sym same) (subst P coded (can_add dict children known))

  -- there is room for it
  pub room : AreDistinct entries → (length dict < 1048576) × (all_runs dict + length (renumbered_entry numbers e).runs ≤ 16777216)
  room distinct =
      let few = at.few in let few_runs = at.few_runs in
      let count : length entries ≡ length at.before + suc (length later) = ap length (at.cut ∙ ap (λ l. at.before ++ l) is) ∙ length-append at.before (e ∷ later) in
      let sum : all_runs entries ≡ all_runs (at.before ++ e ∷ later) = ap all_runs (at.cut ∙ ap (λ l. at.before ++ l) is) in
      let parts : all_runs (at.before ++ e ∷ later) ≡ all_runs at.before + all_runs (e ∷ later) = sum_by-append (λ x. length x.runs) at.before (e ∷ later) in
      let head : all_runs (e ∷ later) ≡ length e.runs + all_runs later = sum_by-cons (λ x. length x.runs) e later in
      let runs_few = length-renumbered numbers e.runs [] in
      let most = distinct.few in let most_runs = distinct.few_runs in
      (omega arith, omega arith)

  -- so it is not refused
  pub never_full : AreDistinct entries → (new : List Entry) (d : Entry) → d ≡ renumbered_entry numbers e → (fault : DictFault) (which : Which) → fault ≡ Full which
      → Interns dict d (Err fault) new → ⊥
  never_full distinct new d same fault which full refused =
      let free = room distinct in
      let P : DictFault → Type 0 = λ f. Interns dict d (Err f) new in
      let size : length d.runs ≡ length (renumbered_entry numbers e).runs = ap (λ y. length y.runs) same in
      by which (subst P full refused) free.0 (let fits = free.1 in omega arith)
    where
      by : (which : Which) → Interns dict d (Err (Full which)) new → length dict < 1048576 → all_runs dict + length d.runs ≤ 16777216 → ⊥
      by Entries refused few fits = let many = refused.1 in absurd (omega arith)
      by AllRuns refused few fits = let many = refused.2 in absurd (omega arith)

  -- behind one more
  module _ (new : List Entry) (d : Entry) (n : ℕ) (same : d ≡ renumbered_entry numbers e) (interned : AreInterned new) (has : HasNumber dict new d n) where
    abbrev before' : List Entry
    before' = at.before ++ e ∷ []

    abbrev t : Tree
    t = tree_of (trees_of at.before) e

    abbrev x : Label
    x = label_of e

    abbrev added : Entry
    added = entry_at x (code dict children [])

    same_added : d ≡ added
    same_added = same ∙ ap (entry_at x) (sym coded)

    numbered : (new ≡ with_entry dict added) × (n ≡ number_of dict added)
    numbered =
        let number = number_is dict new d n interned has in
        (number.0 ∙ ap (with_entry dict) same_added, number.1 ∙ ap (number_of dict) same_added)

    abbrev more : List Entry
    more = (has_added dict added).more

    kept : new ≡ dict ++ more
    kept = numbered.0 ∙ (has_added dict added).kept

    there : IsIn new added
    there = let P : List Entry → Type 0 = λ l. IsIn l added in subst P (sym numbered.0) (has_added dict added).there

    number_now : number_of new added ≡ number_of dict added
    number_now = ap (λ l. number_of l added) numbered.0 ∙ (has_added dict added).number

    trees_now : trees_of before' ≡ trees_of at.before ++ t ∷ []
    trees_now = trees-push [] at.before e

    are_now : AreEntriesOf new (trees_of before')
    are_now =
        let P : List Entry → Type 0 = λ l. AreEntriesOf l (trees_of at.before ++ t ∷ []) in
        let Q : List Tree → Type 0 = λ l. AreEntriesOf new l in
        subst Q (sym trees_now) (subst P (sym numbered.0) (closing dict (trees_of at.before) at.are x children known))

    -- the trees that were known are known, with the same numbers
    module _ (f : Forest) (knows : Knows dict f) where
      knows_now : Knows new f
      knows_now = let P : List Entry → Type 0 = λ l. Knows l f in subst P (sym kept) (Knows-kept dict more f knows)

      code_now : code new f [] ≡ code dict f []
      code_now = ap (λ l. code l f []) kept ∙ code-kept dict more f knows []

    number_stays : (u : Tree) → Knows dict (alone u) → number_in new u ≡ number_in dict u
    number_stays u knows =
        ap (λ c. number_of new (entry_at u.label c)) (code_now u.inner knows.0)
        ∙ ap (λ l. number_of l (entry_at u.label (code dict u.inner []))) kept
        ∙ number_kept dict more (entry_at u.label (code dict u.inner [])) knows.1.0 knows.1.1

    tree_kept : (m : ℕ) → m < length at.before → tree_at before' m ≡ tree_at at.before m
    tree_kept m less =
        let count = length-trees at.before in
        ap (λ l. get_or l m no_tree) trees_now ∙ get_or_append_left (trees_of at.before) (t ∷ []) no_tree m (omega arith)

    tree_new : tree_at before' (length at.before) ≡ t
    tree_new = ap (λ l. get_or l (length at.before) no_tree) trees_now ∙ get_or_at (trees_of at.before) t [] no_tree (length at.before) (length-trees at.before)

    knows_new : Knows new (alone t)
    knows_new =
        let P : List Run → Type 0 = λ c. IsIn new (entry_at x c) in
        (knows_now children known, subst P (sym (code_now children known)) there, tt)

    last_or : (m : ℕ) → m < length before' → (m < length at.before) ⊎ (m ≡ length at.before)
    last_or m less =
        let count = length-append at.before (e ∷ []) in elim (cases_lt m (length at.before)) [ inl k ↦ inl k | inr k ↦ inr (omega arith) ]

    knows_each : (m : ℕ) → m < length before' → Knows new (alone (tree_at before' m))
    knows_each m less = let P : Tree → Type 0 = λ u. Knows new (alone u) in elim (last_or m less) [
      | inl k ↦ subst P (sym (tree_kept m k)) (knows_now (alone (tree_at at.before m)) (at.knows m k))
      | inr k ↦ subst P (sym (ap (tree_at before') k ∙ tree_new)) knows_new
    ]

    number_each : (m : ℕ) → m < length before' → get_or (numbers ++ n ∷ []) m 0 ≡ number_in new (tree_at before' m)
    number_each m less = elim (last_or m less) [
      | inl k ↦ (let count = at.count in
          get_or_append_left numbers (n ∷ []) 0 m (omega arith) ∙ at.each m k ∙ sym (number_stays (tree_at at.before m) (at.knows m k))
          ∙ ap (number_in new) (sym (tree_kept m k)))
      | inr k ↦ (let last : get_or (numbers ++ n ∷ []) m 0 ≡ n = get_or_at numbers n [] 0 m (at.count ∙ sym k) in
          last ∙ numbered.1 ∙ sym number_now ∙ ap (λ c. number_of new (entry_at x c)) (sym (code_now children known))
          ∙ ap (number_in new) (sym (ap (tree_at before') k ∙ tree_new)))
    ]

    added_runs : length d.runs ≤ length e.runs
    added_runs = let is : length d.runs ≡ length (renumbered numbers e.runs []) = ap (λ y. length y.runs) same in
        let few = length-renumbered numbers e.runs [] in omega arith

    few_now : (length new ≤ length before') × (all_runs new ≤ all_runs before')
    few_now =
        let count = length-append at.before (e ∷ []) in let sum = all_runs-push at.before e in
        let few = at.few in let few_runs = at.few_runs in elim has.list [
          | inl old ↦ (let len : length new ≡ length dict = ap length old.1 in let runs_len : all_runs new ≡ all_runs dict = ap all_runs old.1 in (omega arith, omega arith))
          | inr last ↦ (let len : length new ≡ length dict + 1 = ap length last.1 ∙ length-append dict (d ∷ []) in
              let runs_len : all_runs new ≡ all_runs dict + length d.runs = ap all_runs last.1 ∙ all_runs-push dict d in
              let less = added_runs in (omega arith, omega arith))
        ]

    pub migrating_more : (numbers' : List ℕ) → numbers' ≡ numbers ++ n ∷ [] → Migrating entries later new numbers'
    migrating_more numbers' pushed =
        let P : List ℕ → Type 0 = Migrating entries later new in
        subst P (sym pushed) (record {
          before = before';
          cut = at.cut ∙ ap (λ l. at.before ++ l) is ∙ sym (append_assoc at.before (e ∷ []) later);
          are = are_now;
          count = length-append numbers (n ∷ []) ∙ ap (λ k. k + 1) at.count ∙ sym (length-append at.before (e ∷ []));
          knows = knows_each;
          each = number_each;
          few = few_now.0;
          few_runs = few_now.1;
          interned = interned;
        })

-- behind the last
pub migrating_done : (entries rest dict : List Entry) (numbers : List ℕ) → Migrating entries rest dict numbers → rest ≡ [] → AreOfShapes (trees_of entries) dict
migrating_done entries rest dict numbers at none =
    let all : at.before ≡ entries = sym (at.cut ∙ ap (λ l. at.before ++ l) none ∙ append-nil at.before) in
    let P : List Entry → Type 0 = λ l. AreOfShapes (trees_of l) dict in
    subst P all (record { shapes = at.are.shapes; firsts = at.are.firsts; stands = at.are.stands; earlier = at.are.proper.earlier })
