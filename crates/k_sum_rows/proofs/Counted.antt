-- Counts of entries in the trees of runs. The roots are counted as the children of an entry behind all others.
use Rattle.std.proofs.Common.{◌≡◌, ℕ, zero, suc, ◌+◌, ◌*◌, ◌<◌, ◌≤◌, inl, inr, nat_lt, List, [], ◌∷◌, ◌++◌, length, get_or, set, Some, slice_get, refl, sym, ap, ◌∙◌, subst, arith, if◌then◌else◌}
use Rattle.std.specs.Prelude.{replicate}
use Rattle.std.specs.List.Sorted.{IsPermutation}
use Rattle.std.proofs.lemmas.Bool.{cond-true, cond-false, lt-ltb, le-ltb}
use Rattle.std.proofs.lemmas.List.{get_or_append_left, length-replicate}
use Rattle.std.proofs.lemmas.List.Sorted.{All-permutation}
use Rattle.std.proofs.lemmas.Option.{slice_get_within}
use Rattle.k_dict_entries.specs.Entries.{AreRuns, NameEarlier}
use Rattle.k_dict_entries.specs.Trees.{size}
use Rattle.k_dict_entries.specs.declared.entry.Entry.{Entry}
use Rattle.k_dict_entries.specs.declared.entry.Run.{Run}
use Rattle.k_dict_entries.proofs.Places.{place_behind, place_kept, place_of_push}
use Rattle.k_selfpar.specs.Counts.{Adds, CanCount, dot, weighed, with_children}
use Rattle.k_selfpar.specs.Items.{AreItems, IsItem, Rise, occurring, total}
use Rattle.k_selfpar.specs.Sums.{all_of, one}
use Rattle.k_selfpar.specs.declared.item.Item.{Item}
use Rattle.k_selfpar.proofs.Counting.{Counted, all_counted, can_count, dot_none, entry_done, length-children, mixed, mixed_below, more_counted, root_counted}
use Rattle.k_selfpar.proofs.Giving.{sums_add}
use Rattle.k_selfpar.proofs.ItemLists.{items-occurring, total-occurring, total-permutation}
use Rattle.k_selfpar.proofs.Profile.{count_is_size}
use Rattle.k_sum_rows.specs.Runs.{AreItemsOfRuns, AreRunCounts, run_trees}
use Rattle.k_sum_rows.proofs.Forests.{gives_trees}

-- ---- one more count behind others

set-front : (counts : List ℕ) (x i v : ℕ) → i < length counts → set (counts ++ x ∷ []) i v ≡ set counts i v ++ x ∷ []
set-front [] x i v less = absurd (omega arith)
set-front (c ∷ counts) x zero v less = refl
set-front (c ∷ counts) x (suc i) v less = ap (λ l. c ∷ l) (set-front counts x i v (omega arith))

children-front : (count : ℕ) (counts : List ℕ) (x low high : ℕ) (runs : List Run) → AreRuns low high runs → high ≤ length counts
    → with_children count (counts ++ x ∷ []) runs ≡ with_children count counts runs ++ x ∷ []
children-front count counts x low high [] are within = refl
children-front count counts x low high (run ∷ runs) are within =
    let below : run.entry < high = are.1 in
    let there : get_or (counts ++ x ∷ []) run.entry 0 ≡ get_or counts run.entry 0 = get_or_append_left counts (x ∷ []) 0 run.entry (omega arith) in
    let more : List ℕ = set counts run.entry (get_or counts run.entry 0 + count * run.count) in
    let longer = length-children count counts (run ∷ []) in
    ap (λ n. with_children count (set (counts ++ x ∷ []) run.entry (n + count * run.count)) runs) there
    ∙ ap (λ l. with_children count l runs) (set-front counts x run.entry (get_or counts run.entry 0 + count * run.count) (omega arith))
    ∙ children-front count more x (run.entry + 1) high runs are.3 (omega arith)

dot-front : (counts : List ℕ) (x k : ℕ) (g : ℕ → ℕ) → dot k (counts ++ x ∷ []) g ≡ dot k counts g + x * g (k + length counts)
dot-front [] x k g = let place : k + 0 ≡ k = omega arith in ap (λ n. x * g n + 0) (sym place) ∙ nothing (x * g (k + 0))
  where
    nothing : (a : ℕ) → a + 0 ≡ 0 + a
    nothing a = omega arith
dot-front (c ∷ counts) x k g =
    let place : (k + 1) + length counts ≡ k + suc (length counts) = omega arith in
    ap (λ n. c * g k + n) (dot-front counts x (k + 1) g ∙ ap (λ n. dot (k + 1) counts g + x * g n) place)
    ∙ grouped (c * g k) (dot (k + 1) counts g) (x * g (k + suc (length counts)))
  where
    grouped : (a b d : ℕ) → a + (b + d) ≡ (a + b) + d
    grouped a b d = omega arith

-- ---- the entry whose children are the roots

-- the entries, and behind them one whose children are the roots
abbrev with_roots : List Entry → List Run → List Entry
with_roots entries roots = entries ++ record { region = 0; work = 0; path = 0; runs = roots } ∷ []

-- how far the counting has come: the entries from number n on are done
pub record Done (entries : List Entry) (roots : List Run) (n : ℕ) (counts : List ℕ) : Type 0 where
  pub size : length counts ≡ length entries
  pub low : n ≤ length entries
  pub counted : Counted (with_roots entries roots) (length entries) n (counts ++ 1 ∷ [])

module _ (entries : List Entry) (roots : List Run) (rise : AreRuns 0 (length entries) roots) where
  abbrev above : Entry
  above = record { region = 0; work = 0; path = 0; runs = roots }

  abbrev all : List Entry
  all = with_roots entries roots

  -- what entries give, and the roots
  abbrev whole_of : (ℕ → ℕ) → ℕ → ℕ
  whole_of f m = if nat_lt m (length entries) then f m else weighed f roots

  abbrev own_of_each : (ℕ → ℕ) → ℕ → ℕ
  own_of_each own m = if nat_lt m (length entries) then own m else 0

  whole_below : (f : ℕ → ℕ) (m : ℕ) → m < length entries → whole_of f m ≡ f m
  whole_below f m less = cond-true (nat_lt m (length entries)) (f m) (weighed f roots) (lt-ltb m (length entries) less)

  whole_there : (f : ℕ → ℕ) → whole_of f (length entries) ≡ weighed f roots
  whole_there f = cond-false (nat_lt (length entries) (length entries)) (f (length entries)) (weighed f roots) (le-ltb (length entries) (length entries) (omega arith))

  own_below : (own : ℕ → ℕ) (m : ℕ) → m < length entries → own_of_each own m ≡ own m
  own_below own m less = cond-true (nat_lt m (length entries)) (own m) 0 (lt-ltb m (length entries) less)

  own_there : (own : ℕ → ℕ) → own_of_each own (length entries) ≡ 0
  own_there own = cond-false (nat_lt (length entries) (length entries)) (own (length entries)) 0 (le-ltb (length entries) (length entries) (omega arith))

  weighed_below : (f : ℕ → ℕ) (low high : ℕ) (runs : List Run) → AreRuns low high runs → high ≤ length entries → weighed (whole_of f) runs ≡ weighed f runs
  weighed_below f low high [] are within = refl
  weighed_below f low high (run ∷ runs) are within =
      let below : run.entry < high = are.1 in
      ap (λ x. run.count * x + weighed (whole_of f) runs) (whole_below f run.entry (omega arith))
      ∙ ap (λ x. run.count * f run.entry + x) (weighed_below f (run.entry + 1) high runs are.3 within)

  joined : (a b c d : ℕ) → a ≡ b → c ≡ b → d ≡ 0 → a ≡ d + c
  joined a b c d e f g = omega arith

  -- with the roots each entry gives what it did
  adds_all : NameEarlier entries → (own f : ℕ → ℕ) → Adds entries own f → Adds all (own_of_each own) (whole_of f)
  adds_all earlier own f add n e at = elim (place_of_push entries above n e at) [
    | inl there ↦ (let within = slice_get_within entries n e there in
        whole_below f n within ∙ add n e there ∙ ap (λ x. x + weighed f e.runs) (sym (own_below own n within))
        ∙ ap (λ x. own_of_each own n + x) (sym (weighed_below f 0 n e.runs (earlier n e there) (omega arith))))
    | inr last ↦ (let P : ℕ → Type 0 = λ m. whole_of f m ≡ own_of_each own m + weighed (whole_of f) roots in
        let Q : Entry → Type 0 = λ x. whole_of f n ≡ own_of_each own n + weighed (whole_of f) x.runs in
        let a = whole_there f in let b = weighed_below f 0 (length entries) roots rise (omega arith) in let c = own_there own in
        let there : P (length entries) = joined (whole_of f (length entries)) (weighed f roots) (weighed (whole_of f) roots) (own_of_each own (length entries)) a b c in
        subst Q (sym last.1) (subst P (sym last.0) there))
  ]

  zeros-front : (n : ℕ) → replicate {A = ℕ} (suc n) 0 ≡ replicate n 0 ++ 0 ∷ []
  zeros-front zero = refl
  zeros-front (suc n) = ap (λ (l : List ℕ). 0 ∷ l) (zeros-front n)

  set-last : (counts : List ℕ) (x v : ℕ) → set (counts ++ x ∷ []) (length counts) v ≡ counts ++ v ∷ []
  set-last [] x v = refl
  set-last (c ∷ counts) x v = ap (λ l. c ∷ l) (set-last counts x v)

  get-last : (counts : List ℕ) (x : ℕ) → get_or (counts ++ x ∷ []) (length counts) 0 ≡ x
  get-last [] x = refl
  get-last (c ∷ counts) x = get-last counts x

  -- at first the roots are counted
  pub roots_done : (zeros counts : List ℕ) → zeros ≡ replicate (length entries) 0 → counts ≡ with_children 1 zeros roots → Done entries roots (length entries) counts
  roots_done zeros counts none is =
      let count : length zeros ≡ length entries = ap length none ∙ length-replicate (length entries) 0 in
      let before : List ℕ = zeros ++ 1 ∷ [] in
      let one_more : length entries + 1 ≡ suc (length entries) = omega arith in
      let longer : replicate {A = ℕ} (length entries + 1) 0 ≡ replicate (length entries) 0 ++ 0 ∷ [] =
      ap (λ (m : ℕ). replicate {A = ℕ} m 0) one_more ∙ zeros-front (length entries) in
      let wide : length (replicate {A = ℕ} (length entries) 0) ≡ length entries = length-replicate {A = ℕ} (length entries) 0 in
      let first : Counted all (length entries) (length entries + 1) before =
      root_counted all (length entries) (replicate (length entries + 1) 0) before refl
      (ap (λ l. l ++ 1 ∷ []) none ∙ sym (set-last (replicate (length entries) 0) 0 1)
      ∙ (λ i. set (sym longer i) (wide i) 1)) in
      let last : get_or before (length entries) 0 ≡ 1 = ap (λ n. get_or before n 0) (sym count) ∙ get-last zeros 1 in
      let made : counts ++ 1 ∷ [] ≡ with_children (get_or before (length entries) 0) before roots =
      ap (λ l. l ++ 1 ∷ []) is ∙ sym (children-front 1 zeros 1 0 (length entries) roots rise (omega arith))
      ∙ ap (λ n. with_children n before roots) (sym last) in
      record {
        size = ap length is ∙ length-children 1 zeros roots ∙ count;
        low = omega arith;
        counted = more_counted all (length entries) (length entries) before (counts ++ 1 ∷ []) above first (place_behind entries above []) rise made;
      }

  module _ (earlier : NameEarlier entries) (few : size (run_trees entries roots) ≤ 576460752303423488) where
    -- what the roots give of instances
    all_instances : weighed (all_of one entries) roots ≤ 576460752303423488
    all_instances = let is = gives_trees one entries roots in let count = count_is_size (run_trees entries roots) in omega arith

    some_of : (m : ℕ) → 1 ≤ all_of one entries m
    some_of m = omega arith

    -- the children of the roots can be counted
    pub can_count_roots : (zeros : List ℕ) → zeros ≡ replicate (length entries) 0 → CanCount 1 zeros roots
    can_count_roots zeros none =
        let count : length zeros ≡ length entries = ap length none ∙ length-replicate (length entries) 0 in
        let nothing : dot 0 zeros (all_of one entries) ≡ 0 = ap (λ l. dot 0 l (all_of one entries)) none ∙ dot_none (length entries) 0 (all_of one entries) in
        let most = all_instances in
        can_count 1 zeros 0 (length entries) roots (all_of one entries) rise (omega arith) (λ m less. some_of m) (omega arith)

    module _ (n : ℕ) (counts : List ℕ) (done : Done entries roots (n + 1) counts) (e : Entry) (at : slice_get entries n ≡ Some e) where
      within : n < length entries
      within = slice_get_within entries n e at

      here : slice_get all n ≡ Some e
      here = place_kept entries (above ∷ []) n e at

      count_here : get_or (counts ++ 1 ∷ []) n 0 ≡ get_or counts n 0
      count_here = let size = done.size in let less = within in get_or_append_left counts (1 ∷ []) 0 n (omega arith)

      -- so can those of an entry
      pub can_count_children : CanCount (get_or counts n 0) counts e.runs
      can_count_children =
          let sizes : ℕ → ℕ = all_of one entries in
          let own : ℕ → ℕ = own_of_each (λ m. 1) in
          let g : ℕ → ℕ = mixed n own (whole_of sizes) in
          let size = done.size in let less = within in
          let is = entry_done all (length entries) n (counts ++ 1 ∷ []) e own (whole_of sizes) done.counted here (earlier n e at) (adds_all earlier (λ m. 1) sizes (sums_add one entries earlier)) in
          let front = dot-front counts 1 0 g in
          let total : whole_of sizes (length entries) ≡ weighed sizes roots = whole_there sizes in
          let most = all_instances in
          let same : get_or (counts ++ 1 ∷ []) n 0 * weighed g e.runs ≡ get_or counts n 0 * weighed g e.runs = ap (λ x. x * weighed g e.runs) count_here in
          can_count (get_or counts n 0) counts 0 n e.runs g (earlier n e at) (omega arith)
          (λ m lt. subst (λ x. 1 ≤ x) (sym (mixed_below n m own (whole_of sizes) lt ∙ whole_below sizes m (omega arith))) (some_of m))
          (omega arith)

      -- one entry more is done
      pub more_done : (new : List ℕ) → new ≡ with_children (get_or counts n 0) counts e.runs → Done entries roots n new
      more_done new is =
          let size = done.size in let less = within in
          let made : new ++ 1 ∷ [] ≡ with_children (get_or (counts ++ 1 ∷ []) n 0) (counts ++ 1 ∷ []) e.runs =
          ap (λ l. l ++ 1 ∷ []) is ∙ sym (children-front (get_or counts n 0) counts 1 0 n e.runs (earlier n e at) (omega arith))
          ∙ ap (λ k. with_children k (counts ++ 1 ∷ []) e.runs) (sym count_here) in
          record {
            size = ap length is ∙ length-children (get_or counts n 0) counts e.runs ∙ done.size;
            low = omega arith;
            counted = more_counted all (length entries) n (counts ++ 1 ∷ []) (new ++ 1 ∷ []) e done.counted here (earlier n e at) made;
          }

    -- at the end all are counted
    pub all_done : (counts : List ℕ) → Done entries roots 0 counts → AreRunCounts entries roots counts
    all_done counts done = record {
      count = done.size;
      adds = λ own f add.
          let g : ℕ → ℕ = own_of_each own in
          let all_are = (all_counted all (length entries) (counts ++ 1 ∷ []) done.counted).adds g (whole_of f) (adds_all earlier own f add) in
          let front = dot-front counts 1 0 g in
          let last : g (0 + length counts) ≡ 0 = ap g (let size = done.size in let e : 0 + length counts ≡ length entries = omega arith in e) ∙ own_there own in
          let same : dot 0 counts own ≡ dot 0 counts g = dot_below counts 0 own (let size = done.size in omega arith) in
          let total : whole_of f (length entries) ≡ weighed f roots = whole_there f in
          omega arith;
    }
      where
        dot_below : (l : List ℕ) (k : ℕ) (own : ℕ → ℕ) → k + length l ≤ length entries → dot k l own ≡ dot k l (own_of_each own)
        dot_below [] k own le = refl
        dot_below (c ∷ l) k own le =
            ap (λ x. c * x + dot (k + 1) l own) (sym (own_below own k (omega arith)))
            ∙ ap (λ x. c * own_of_each own k + x) (dot_below l (k + 1) own (omega arith))

-- entries that occur so often, in order of their regions, stand for the instances of the runs
pub items_of_runs : (entries : List Entry) (roots : List Run) (counts : List ℕ) (listed items : List Item) → AreRunCounts entries roots counts → listed ≡ occurring entries 0 counts
    → IsPermutation listed items → Rise 0 items → AreItemsOfRuns entries roots items
items_of_runs entries roots counts listed items counted is same rise = record {
  are = All-permutation (IsItem entries) listed items same
      (subst (AreItems entries) (sym is) (items-occurring entries 0 counts (let size : length counts ≡ length entries = counted.count in omega arith)));
  rise = rise;
  gives = λ own f add. total-permutation own listed items same ∙ ap (total own) is ∙ total-occurring entries own 0 counts ∙ counted.adds own f add;
}
