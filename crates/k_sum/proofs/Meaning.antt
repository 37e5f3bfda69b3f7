-- Two sums together tell of the runs of both.
use Rattle.std.proofs.Common.{◌≡◌, ℕ, zero, suc, ◌+◌, ◌<◌, ◌⊎◌, inl, inr, List, [], ◌∷◌, ◌++◌, length, get_or, Some, slice_get, refl, sym, ap, ◌∙◌, subst, arith, append-nil, append_assoc, length-append}
use Rattle.std.proofs.lemmas.List.{get_or_append_left, get_or_at}
use Rattle.std.proofs.lemmas.Bool.{cases_lt}
use Rattle.std.proofs.lemmas.Option.{same_Some, slice_get_within}
use Rattle.k_optab.specs.Tree.{EachWith}
use Rattle.k_dict_entries.specs.Dictionary.{Firsts, ended, anew}
use Rattle.k_dict_entries.specs.Entries.{AreRuns, NameBelow, NameEarlier, copies, label_of, laid, no_tree, tree_at, tree_of, trees_of}
use Rattle.k_dict_entries.specs.Gathering.{number_of, with_entry}
use Rattle.k_dict_entries.specs.Tallies.{counted}
use Rattle.k_dict_entries.specs.Trees.{Alike, Forest, Label, SameShape, Tree, alone, bare, both, further, grown}
use Rattle.k_dict_entries.specs.declared.entry.Entry.{Entry}
use Rattle.k_dict_entries.specs.declared.entry.Run.{Run}
use Rattle.k_dict_entries.proofs.Coding.{AreProper, Knows, Knows-kept, beside-bare, code, code-copies, code-kept, code-of_laid, code_alike, entry_at, laid_code, number_below, number_in, times-counted}
use Rattle.k_dict_entries.proofs.EntryTrees.{below_bound, laid-prefix, length-trees, trees-kept, trees-push}
use Rattle.k_dict_entries.proofs.Forests.{Alike-refl, Alike-same, Alike-sym, SameShape-refl, beside, beside_front, beside_left, beside_right}
use Rattle.k_dict_entries.proofs.Numbers.{IsIn, number_kept}
use Rattle.k_dict_entries.proofs.Places.{place_behind, place_kept}
use Rattle.k_dict_entries.proofs.Sound.{AreRuns-wider}
use Rattle.k_dict_entries.proofs.Walking.{AreEntriesOf, closing, has_added, tree_there}
use Rattle.k_dict_saved.specs.Migration.{renumbered, renumbered_entry}
use Rattle.k_dict_saved.proofs.Migrating.{code_renumbered}
use Rattle.k_sum.specs.Joining.{Joined, counted_all, joined, with_all, with_one}
use Rattle.k_sum.specs.Laws.{BothTellOfAll, GroupingIsFree, OneTellsOfItsRun, OrderIsFree, TellsOfRuns, forest_of, together}
use Rattle.k_sum.specs.Sums as sums
use Rattle.k_sum.specs.declared.sum.Sum.{Sum}
use Rattle.k_sum.proofs.Joins.{all_go_on, known_all, rise}

-- ---- forests side by side

pub together_is : (f g : Forest) → together f g ≡ beside f g
together_is bare g = refl
together_is (grown x i l) g = ap (grown x i) (together_is l g)

beside_turn : (f g : Forest) → Alike (beside f g) (beside g f)
beside_turn bare g = Alike-same g (beside g bare) (sym (beside-bare g))
beside_turn (grown x i l) g =
    further (grown x i (beside l g)) (grown x i (beside g l)) (beside g (grown x i l))
    (both x i i (beside l g) (beside g l) (Alike-refl i) (beside_turn l g))
    (Alike-sym (beside g (grown x i l)) (grown x i (beside g l)) (beside_front g x i l))

beside_assoc : (f g h : Forest) → beside (beside f g) h ≡ beside f (beside g h)
beside_assoc bare g h = refl
beside_assoc (grown x i l) g h = ap (grown x i) (beside_assoc l g h)

-- ---- the entries of one dictionary are those of their own trees

module _ (dict : List Entry) (proper : AreProper dict) where
  pub same_number : (m n : ℕ) → m < length dict → n < length dict → SameShape (tree_at dict m) (tree_at dict n) → m ≡ n
  same_number m n less less' same =
      let coded : code dict (tree_at dict m).inner [] ≡ code dict (tree_at dict n).inner [] =
      code_alike dict (tree_at dict m).inner (tree_at dict n).inner same.inner [] in
      let label : (tree_at dict m).label ≡ (tree_at dict n).label = same.label in
      let number : number_in dict (tree_at dict m) ≡ number_in dict (tree_at dict n) = λ i. number_of dict (entry_at (label i) (coded i)) in
      sym (number_below dict proper (suc m) m (omega arith) less) ∙ number ∙ number_below dict proper (suc n) n (omega arith) less'

abbrev ShapesApart : List Tree → Type 0
ShapesApart trees = (m n : ℕ) (s t : Tree) → m < n → slice_get trees m ≡ Some s → slice_get trees n ≡ Some t → ¬ SameShape t s

firsts_apart : (kept trees : List Tree) → ShapesApart (kept ++ trees) → Firsts SameShape kept trees (kept ++ trees)
firsts_apart kept [] apart = let P : List Tree → Type 0 = Firsts SameShape kept [] in subst P (sym (append-nil kept)) (ended kept)
firsts_apart kept (t ∷ trees) apart =
    let is : (kept ++ t ∷ []) ++ trees ≡ kept ++ t ∷ trees = append_assoc kept (t ∷ []) trees in
    let P : List Tree → Type 0 = Firsts SameShape (kept ++ t ∷ []) trees in
    let Q : List Tree → Type 0 = ShapesApart in
    anew t kept trees (kept ++ t ∷ trees)
    (λ n k at same. apart n (length kept) k t (slice_get_within kept n k at) (place_kept kept (t ∷ trees) n k at) (place_behind kept t trees) same)
    (subst P is (firsts_apart (kept ++ t ∷ []) trees (subst Q (sym is) apart)))

each_same : (trees : List Tree) → EachWith SameShape trees trees
each_same [] = tt
each_same (t ∷ trees) = (SameShape-refl t, each_same trees)

own_entries : (dict : List Entry) → AreProper dict → AreEntriesOf dict (trees_of dict)
own_entries dict proper = record {
  proper = proper;
  shapes = trees_of dict;
  firsts = firsts_apart [] (trees_of dict) apart;
  stands = each_same (trees_of dict);
}
  where
    apart : ShapesApart (trees_of dict)
    apart m n s t less at at' same =
        let count = length-trees dict in
        let inside = slice_get_within (trees_of dict) m s at in
        let inside' = slice_get_within (trees_of dict) n t at' in
        let low : m < length dict = omega arith in
        let high : n < length dict = omega arith in
        let one : s ≡ tree_at dict m = same_Some s (tree_at dict m) (sym at ∙ tree_there dict m low) in
        let other : t ≡ tree_at dict n = same_Some t (tree_at dict n) (sym at' ∙ tree_there dict n high) in
        let P : Tree → Type 0 = λ u. SameShape u s in
        let Q : Tree → Type 0 = λ u. SameShape (tree_at dict n) u in
        let equal : n ≡ m = same_number dict proper n m high low (subst Q one (subst P other same)) in
        absurd (omega arith)

-- ---- the entries of another dictionary, behind them

-- what runs stand for is known where their entries' trees are
pub knows_laid : (dict : List Entry) (trees : List Tree) (high : ℕ) → ((n : ℕ) → n < high → Knows dict (alone (get_or trees n no_tree)))
    → (runs : List Run) → NameBelow high runs → Knows dict (laid trees runs)
knows_laid dict trees high each [] below = tt
knows_laid dict trees high each (run ∷ runs) below = by (knows_laid dict trees high each runs below.2) run.count
  where
    by : Knows dict (laid trees runs) → (n : ℕ) → Knows dict (copies n (get_or trees run.entry no_tree) (laid trees runs))
    by rest zero = rest
    by rest (suc n) = let one = each run.entry below.0 in (one.0, one.1, by rest n)

-- entries that were joined, where those of the other dictionary are these so far
pub record Stands (seen : List Tree) (before : List Entry) (j : Joined) : Type 0 where
  pub are : AreEntriesOf j.dict (seen ++ trees_of before)
  pub count : length j.numbers ≡ length before
  pub knows : (n : ℕ) → n < length before → Knows j.dict (alone (tree_at before n))
  pub each : (n : ℕ) → n < length before → get_or j.numbers n 0 ≡ number_in j.dict (tree_at before n)

module _ (seen : List Tree) (before : List Entry) (j : Joined) (at : Stands seen before j) (e : Entry) (below : NameBelow (length before) e.runs) where
  abbrev children : Forest
  children = laid (trees_of before) e.runs

  known : Knows j.dict children
  known = knows_laid j.dict (trees_of before) (length before) at.knows e.runs below

  coded : code j.dict children [] ≡ renumbered j.numbers e.runs []
  coded = code_renumbered j.dict (trees_of before) j.numbers (length before) at.each e.runs [] below

  abbrev behind : List Entry
  behind = before ++ e ∷ []

  abbrev t : Tree
  t = tree_of (trees_of before) e

  abbrev x : Label
  x = label_of e

  abbrev added : Entry
  added = entry_at x (code j.dict children [])

  same_added : renumbered_entry j.numbers e ≡ added
  same_added = ap (entry_at x) (sym coded)

  abbrev new : List Entry
  new = with_entry j.dict added

  abbrev n : ℕ
  n = number_of j.dict added

  abbrev more : List Entry
  more = (has_added j.dict added).more

  kept : new ≡ j.dict ++ more
  kept = (has_added j.dict added).kept

  there : IsIn new added
  there = (has_added j.dict added).there

  number_now : number_of new added ≡ n
  number_now = (has_added j.dict added).number

  trees_now : trees_of behind ≡ trees_of before ++ t ∷ []
  trees_now = trees-push [] before e

  are_now : AreEntriesOf new (seen ++ trees_of behind)
  are_now =
      let Q : List Tree → Type 0 = λ l. AreEntriesOf new l in
      subst Q (append_assoc seen (trees_of before) (t ∷ []) ∙ ap (λ l. seen ++ l) (sym trees_now)) (closing j.dict (seen ++ trees_of before) at.are x children known)

  module _ (f : Forest) (knows : Knows j.dict f) where
    knows_now : Knows new f
    knows_now = let P : List Entry → Type 0 = λ l. Knows l f in subst P (sym kept) (Knows-kept j.dict more f knows)

    code_now : code new f [] ≡ code j.dict f []
    code_now = ap (λ l. code l f []) kept ∙ code-kept j.dict more f knows []

  number_stays : (u : Tree) → Knows j.dict (alone u) → number_in new u ≡ number_in j.dict u
  number_stays u knows =
      ap (λ c. number_of new (entry_at u.label c)) (code_now u.inner knows.0)
      ∙ ap (λ l. number_of l (entry_at u.label (code j.dict u.inner []))) kept
      ∙ number_kept j.dict more (entry_at u.label (code j.dict u.inner [])) knows.1.0 knows.1.1

  tree_kept : (m : ℕ) → m < length before → tree_at behind m ≡ tree_at before m
  tree_kept m less =
      let count = length-trees before in
      ap (λ l. get_or l m no_tree) trees_now ∙ get_or_append_left (trees_of before) (t ∷ []) no_tree m (omega arith)

  tree_new : tree_at behind (length before) ≡ t
  tree_new = ap (λ l. get_or l (length before) no_tree) trees_now ∙ get_or_at (trees_of before) t [] no_tree (length before) (length-trees before)

  knows_new : Knows new (alone t)
  knows_new =
      let P : List Run → Type 0 = λ c. IsIn new (entry_at x c) in
      (knows_now children known, subst P (sym (code_now children known)) there, tt)

  last_or : (m : ℕ) → m < length behind → (m < length before) ⊎ (m ≡ length before)
  last_or m less =
      let count = length-append before (e ∷ []) in elim (cases_lt m (length before)) [ inl k ↦ inl k | inr k ↦ inr (omega arith) ]

  knows_each : (m : ℕ) → m < length behind → Knows new (alone (tree_at behind m))
  knows_each m less = let P : Tree → Type 0 = λ u. Knows new (alone u) in elim (last_or m less) [
    | inl k ↦ subst P (sym (tree_kept m k)) (knows_now (alone (tree_at before m)) (at.knows m k))
    | inr k ↦ subst P (sym (ap (tree_at behind) k ∙ tree_new)) knows_new
  ]

  number_each : (m : ℕ) → m < length behind → get_or (j.numbers ++ n ∷ []) m 0 ≡ number_in new (tree_at behind m)
  number_each m less = elim (last_or m less) [
    | inl k ↦ (let count = at.count in
        get_or_append_left j.numbers (n ∷ []) 0 m (omega arith) ∙ at.each m k ∙ sym (number_stays (tree_at before m) (at.knows m k))
        ∙ ap (number_in new) (sym (tree_kept m k)))
    | inr k ↦ (let last : get_or (j.numbers ++ n ∷ []) m 0 ≡ n = get_or_at j.numbers n [] 0 m (at.count ∙ sym k) in
        last ∙ sym number_now ∙ ap (λ c. number_of new (entry_at x c)) (sym (code_now children known))
        ∙ ap (number_in new) (sym (ap (tree_at behind) k ∙ tree_new)))
  ]

  stands_added : Stands seen behind (record { dict = new; numbers = j.numbers ++ n ∷ [] })
  stands_added = record {
    are = are_now;
    count = length-append j.numbers (n ∷ []) ∙ ap (λ k. k + 1) at.count ∙ sym (length-append before (e ∷ []));
    knows = knows_each;
    each = number_each;
  }

  stands_more : Stands seen behind (with_one j e)
  stands_more =
      let P : Entry → Type 0 = λ d. Stands seen behind (record { dict = with_entry j.dict d; numbers = j.numbers ++ number_of j.dict d ∷ [] }) in
      subst P (sym same_added) stands_added

stands_all : (seen : List Tree) (before rest : List Entry) (j : Joined) → Stands seen before j → NameEarlier (before ++ rest)
    → Stands seen (before ++ rest) (with_all j rest)
stands_all seen before [] j at earlier = let P : List Entry → Type 0 = λ l. Stands seen l j in subst P (sym (append-nil before)) at
stands_all seen before (e ∷ rest) j at earlier =
    let is : (before ++ e ∷ []) ++ rest ≡ before ++ e ∷ rest = append_assoc before (e ∷ []) rest in
    let P : List Entry → Type 0 = λ l. Stands seen l (with_all j (e ∷ rest)) in
    let Q : List Entry → Type 0 = NameEarlier in
    let below : NameBelow (length before) e.runs = below_bound 0 (length before) e.runs (earlier (length before) e (place_behind before e rest)) in
    subst P is (stands_all seen (before ++ e ∷ []) rest (with_one j e) (stands_more seen before j at e below) (subst Q (sym is) earlier))

-- ---- two sums together

pub proper_of : (sum : Sum) → TellsOfRuns sum → AreProper sum.dict
proper_of sum tells = record { earlier = tells.earlier; apart = tells.apart }

module _ (one other : Sum) (tells : TellsOfRuns one) (more_tells : TellsOfRuns other) where
  abbrev begin : Joined
  begin = record { dict = one.dict; numbers = [] }

  abbrev all : Joined
  all = joined one.dict other.dict

  begins : Stands (trees_of one.dict) [] begin
  begins =
      let P : List Tree → Type 0 = AreEntriesOf one.dict in
      record {
        are = subst P (sym (append-nil (trees_of one.dict))) (own_entries one.dict (proper_of one tells));
        count = refl;
        knows = λ n less. absurd (omega arith);
        each = λ n less. absurd (omega arith);
      }

  pub stand : Stands (trees_of one.dict) other.dict all
  stand = stands_all (trees_of one.dict) [] other.dict begin begins more_tells.earlier

  pub proper : AreProper all.dict
  proper = stand.are.proper

  below : NameBelow (length other.dict) other.roots
  below = below_bound 0 (length other.dict) other.roots more_tells.roots

  abbrev f : Forest
  f = forest_of one

  abbrev g : Forest
  g = forest_of other

  knows_other : Knows all.dict g
  knows_other = knows_laid all.dict (trees_of other.dict) (length other.dict) stand.knows other.roots below

  coded_other : (so_far : List Run) → code all.dict g so_far ≡ renumbered all.numbers other.roots so_far
  coded_other so_far = code_renumbered all.dict (trees_of other.dict) all.numbers (length other.dict) stand.each other.roots so_far below

  pub prefix : laid (trees_of all.dict) one.roots ≡ f
  prefix =
      let on = all_go_on begin other.dict in
      let trees = trees-kept one.dict on.0 in
      let count = length-trees one.dict in
      let P : ℕ → Type 0 = λ n. NameBelow n one.roots in
      ap (λ l. laid (trees_of l) one.roots) on.1 ∙ ap (λ l. laid l one.roots) trees.1
      ∙ laid-prefix (trees_of one.dict) trees.0 one.roots (subst P (sym count) (below_bound 0 (length one.dict) one.roots tells.roots))

  -- what is counted again is what was counted
  own_code : (runs so_far : List Run) → NameBelow (length one.dict) runs → code one.dict (laid (trees_of one.dict) runs) so_far ≡ counted_all runs so_far
  own_code [] so_far below = refl
  own_code (run ∷ runs) so_far below =
      let t : Tree = get_or (trees_of one.dict) run.entry no_tree in
      code-copies one.dict run.count t (laid (trees_of one.dict) runs) so_far
      ∙ ap (code one.dict (laid (trees_of one.dict) runs)) (times-counted run.count (number_in one.dict t) so_far below.1
      ∙ ap (λ n. counted n run.count so_far) (number_below one.dict (proper_of one tells) (suc run.entry) run.entry (omega arith) below.0))
      ∙ own_code runs (counted run.entry run.count so_far) below.2

  same_roots : counted_all one.roots [] ≡ one.roots
  same_roots =
      sym (own_code one.roots [] (below_bound 0 (length one.dict) one.roots tells.roots)) ∙ code-of_laid one.dict (proper_of one tells) 0 one.roots tells.roots

  alike_all : Alike (forest_of (sums.both one other)) (beside f g)
  alike_all =
      let trees : List Tree = trees_of all.dict in
      let roots : sums.all_roots one other ≡ code all.dict g one.roots =
      sym (coded_other (counted_all one.roots [])) ∙ ap (code all.dict g) same_roots in
      let same : forest_of (sums.both one other) ≡ laid trees (code all.dict g one.roots) = ap (laid trees) roots in
      let turned : beside g (laid trees one.roots) ≡ beside g f = ap (beside g) prefix in
      let P : Forest → Type 0 = λ h. Alike h (beside f g) in
      let Q : Forest → Type 0 = λ h. Alike (laid trees (code all.dict g one.roots)) h in
      subst P (sym same) (further (laid trees (code all.dict g one.roots)) (beside g f) (beside f g)
      (subst Q turned (laid_code all.dict proper g knows_other one.roots)) (beside_turn g f))

  tells_both : TellsOfRuns (sums.both one other)
  tells_both =
      let on = all_go_on begin other.dict in
      let count : length all.dict ≡ length one.dict + length on.0 = ap length on.1 ∙ length-append one.dict on.0 in
      let high : ℕ = length all.dict in
      let P : ℕ → Type 0 = λ n. NameBelow n other.roots in
      let Q : List Run → Type 0 = AreRuns 0 high in
      record {
        earlier = proper.earlier;
        apart = proper.apart;
        roots = rise all.numbers high (known_all begin other.dict (λ n less. absurd (omega arith))) other.roots (counted_all one.roots [])
            (subst P (sym stand.count) below) (subst Q (sym same_roots) (AreRuns-wider 0 (length one.dict) high one.roots (omega arith) tells.roots));
      }

pub both_tell_of_all : BothTellOfAll
both_tell_of_all one other tells more =
    let f : Forest = forest_of one in
    let g : Forest = forest_of other in
    let P : Forest → Type 0 = Alike (forest_of (sums.both one other)) in
    (tells_both one other tells more, subst P (sym (together_is f g)) (alike_all one other tells more))

pub order_is_free : OrderIsFree
order_is_free one other tells more =
    let f : Forest = forest_of one in
    let g : Forest = forest_of other in
    let A : Forest = forest_of (sums.both one other) in
    let B : Forest = forest_of (sums.both other one) in
    further A (beside f g) B (alike_all one other tells more)
    (further (beside f g) (beside g f) B (beside_turn f g) (Alike-sym B (beside g f) (alike_all other one more tells)))

pub grouping_is_free : GroupingIsFree
grouping_is_free one two three a b c =
    let f : Forest = forest_of one in
    let g : Forest = forest_of two in
    let h : Forest = forest_of three in
    let first : Forest = forest_of (sums.both one two) in
    let last : Forest = forest_of (sums.both two three) in
    let A : Forest = forest_of (sums.both (sums.both one two) three) in
    let B : Forest = forest_of (sums.both one (sums.both two three)) in
    let left : Alike A (beside (beside f g) h) =
    further A (beside first h) (beside (beside f g) h) (alike_all (sums.both one two) three (tells_both one two a b) c) (beside_left first (beside f g) h (alike_all one two a b)) in
    let right : Alike B (beside f (beside g h)) =
    further B (beside f last) (beside f (beside g h)) (alike_all one (sums.both two three) a (tells_both two three b c)) (beside_right f last (beside g h) (alike_all two three b c)) in
    further A (beside (beside f g) h) B left
    (further (beside (beside f g) h) (beside f (beside g h)) B (Alike-same (beside (beside f g) h) (beside f (beside g h)) (beside_assoc f g h))
    (Alike-sym B (beside f (beside g h)) right))

pub one_tells_of_its_run : OneTellsOfItsRun
one_tells_of_its_run saved is =
    let some = is.profile.some in (
      record {
        earlier = is.profile.interned.earlier;
        apart = is.profile.interned.apart;
        roots = (omega arith, omega arith, omega arith, tt);
      },
      refl,
    )
