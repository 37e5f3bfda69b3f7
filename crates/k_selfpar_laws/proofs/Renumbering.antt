-- The dictionary of what entries expand to has these entries, with other numbers.
use Rattle.std.proofs.Common.{◌≡◌, ℕ, zero, suc, ◌+◌, ◌<◌, ◌≤◌, ◌⊎◌, inl, inr, Bool, true, false, ◌==◌, if◌then◌else◌, List, [], ◌∷◌, ◌++◌, length, get_or, Some, slice_get, refl, sym, ap, ◌∙◌, subst, arith}
use Rattle.std.proofs.lemmas.Bool.{cases_eq, cases_lt, cases_order, eq-eqb, ne_eqb}
use Rattle.std.proofs.lemmas.Option.{none-some, same_Some, slice_get_within, slice_get-get_or}
use Rattle.k_dict_entries.specs.Dictionary.{IsDictionaryOf}
use Rattle.k_dict_entries.specs.Entries.{AreRuns, NameBelow, NameEarlier, copies, laid, no_tree, tree_at, tree_of, trees_of}
use Rattle.k_dict_entries.specs.Gathering.{number_of}
use Rattle.k_dict_entries.specs.Rules.{no_entry}
use Rattle.k_dict_entries.specs.Tallies.{counted}
use Rattle.k_dict_entries.specs.Trees.{Forest, Label, SameShape, Tree, alone, bare, grown, post_order}
use Rattle.k_dict_entries.specs.declared.entry.Entry.{Entry}
use Rattle.k_dict_entries.specs.declared.entry.Run.{Run}
use Rattle.k_dict_entries.proofs.Again.{covered, from_list}
use Rattle.k_dict_entries.proofs.Coding.{AreProper, code, code-copies, code-entry, code_alike, entry_at, number_below, number_in, times-counted}
use Rattle.k_dict_entries.proofs.Counting.{counted-at, counted-before, counted-behind, counted-exchange}
use Rattle.k_dict_entries.proofs.EntryTrees.{below_bound, length-trees, tree_is}
use Rattle.k_dict_entries.proofs.Forests.{SameShape-further, SameShape-sym}
use Rattle.k_dict_entries.proofs.Lists.{same_tree}
use Rattle.k_dict_entries.proofs.Unique.{one_dictionary}
use Rattle.k_dict_entries.proofs.Walking.{EachWith-at, EachWith-back, none_seen, tree_there, walk, walk_is, walks_well}
use Rattle.k_dict_saved.specs.Formats.{IsNamedBy, Names}
use Rattle.k_profile_trees.proofs.Shapes.{at_back, at_front}
use Rattle.k_selfpar_laws.specs.Renumbered.{AreRenumbered, EntriesAreGatheredAgain, IsRenumbered, MeetRules, times_named}

-- ---- each entry's tree occurs in the root's

-- a tree occurs in a forest
abbrev Occurs : Tree → Forest → Type 0
Occurs u bare = ⊥
Occurs u (grown x i l) = (record { label = x; inner = i } ≡ u) ⊎ (Occurs u i ⊎ Occurs u l)

occurs-within : (u v : Tree) (f : Forest) → Occurs v f → Occurs u v.inner → Occurs u f
occurs-within u v bare has inner = absurd has
occurs-within u v (grown x i l) has inner = elim has [
  | inl is ↦ inr (inl (subst (λ (t : Tree). Occurs u t.inner) (sym is) inner))
  | inr rest ↦ elim rest [
    | inl within ↦ inr (inl (occurs-within u v i within inner))
    | inr behind ↦ inr (inr (occurs-within u v l behind inner))
  ]
]

occurs-copies : (u : Tree) (count : ℕ) (t : Tree) (later : Forest) → Occurs u later → Occurs u (copies count t later)
occurs-copies u zero t later has = has
occurs-copies u (suc count) t later has = inr (inr (occurs-copies u count t later has))

-- the tree of an entry that runs name occurs in what they stand for
occurs-laid : (trees : List Tree) (n high : ℕ) (runs : List Run) → NameBelow high runs → Names n runs → Occurs (get_or trees n no_tree) (laid trees runs)
occurs-laid trees n high [] are names = absurd names
occurs-laid trees n high (run ∷ runs) are names = elim names [
  | inl is ↦ first is run.count are.1
  | inr more ↦ occurs-copies (get_or trees n no_tree) run.count (get_or trees run.entry no_tree) (laid trees runs) (occurs-laid trees n high runs are.2 more)
]
  where
    first : run.entry ≡ n → (count : ℕ) → 1 ≤ count → Occurs (get_or trees n no_tree) (copies count (get_or trees run.entry no_tree) (laid trees runs))
    first is zero some = absurd (omega arith)
    first is (suc count) some = inl (ap (λ k. get_or trees k no_tree) is)

occurs-listed : (u : Tree) (f : Forest) → Occurs u f → (k : ℕ) × (slice_get (post_order f) k ≡ Some u)
occurs-listed u bare has = absurd has
occurs-listed u (grown x i l) has =
    let t : Tree = record { label = x; inner = i } in
    elim has [
      | inl is ↦ at_back (post_order i) (t ∷ post_order l) u (0, ap Some is)
      | inr rest ↦ elim rest [
        | inl within ↦ at_front (post_order i) (t ∷ post_order l) u (occurs-listed u i within)
        | inr behind ↦ (let more = occurs-listed u l behind in at_back (post_order i) (t ∷ post_order l) u (suc more.0, more.1))
      ]
    ]

-- an entry that is named, with its namer
named_at : (n : ℕ) (entries : List Entry) → IsNamedBy n entries → (p : ℕ) × (e : Entry) × (slice_get entries p ≡ Some e) × Names n e.runs
named_at n [] named = absurd named
named_at n (e ∷ entries) named = elim named [
  | inl here ↦ (0, e, refl, here)
  | inr there ↦ (let more = named_at n entries there in (suc more.0, more.1, more.2, more.3))
]

names_below : (n high : ℕ) (runs : List Run) → NameBelow high runs → Names n runs → n < high
names_below n high [] are names = absurd names
names_below n high (run ∷ runs) are names = elim names [
  | inl is ↦ let lt : run.entry < high = are.0 in omega arith
  | inr more ↦ names_below n high runs are.2 more
]

reached : (entries : List Entry) (root : ℕ) → MeetRules entries root → (k n : ℕ) → root < n + k → n < length entries
    → Occurs (tree_at entries n) (alone (tree_at entries root))
reached entries root rules zero n few within = absurd (let last = rules.last in omega arith)
reached entries root rules (suc k) n few within = elim (cases_eq n root) [
  | inl is ↦ inl (ap (tree_at entries) (sym is))
  | inr ne ↦ (let last = rules.last in
      let before : n + 1 < length entries = less last ne in
      let namer = named_at n entries (rules.named n before) in
      let p : ℕ = namer.0 in
      let e : Entry = namer.1 in
      let runs : AreRuns 0 p e.runs = rules.earlier p e namer.2 in
      let below : NameBelow p e.runs = below_bound 0 p e.runs runs in
      let lower : n < p = names_below n p e.runs below namer.3 in
      let inside : p < length entries = slice_get_within entries p e namer.2 in
      let higher : root < p + k = omega arith in
      occurs-within (tree_at entries n) (tree_at entries p) (alone (tree_at entries root)) (reached entries root rules k p higher inside)
      (subst (λ (t : Tree). Occurs (tree_at entries n) t.inner) (sym (tree_is entries p e namer.2 runs))
      (occurs-laid (trees_of entries) n p e.runs below namer.3)))
]
  where
    less : length entries ≡ root + 1 → ¬ (n ≡ root) → n + 1 < length entries
    less last ne = elim (cases_eq (n + 1) (length entries)) [ inl is ↦ absurd (ne (omega arith)) | inr other ↦ by other ]
      where
        by : ¬ (n + 1 ≡ length entries) → n + 1 < length entries
        by other = elim (cases_lt (n + 1) (length entries)) [ inl lt ↦ lt | inr le ↦ absurd (other (omega arith)) ]

-- ---- each tree within the root's is that of an entry

abbrev EachIs : (Tree → Type 0) → List Tree → Type 0
EachIs P [] = Unit {0}
EachIs P (t ∷ trees) = P t × EachIs P trees

each_both : (P : Tree → Type 0) (xs ys : List Tree) → EachIs P xs → EachIs P ys → EachIs P (xs ++ ys)
each_both P [] ys one_part other_part = other_part
each_both P (x ∷ xs) ys one_part other_part = (one_part.0, each_both P xs ys one_part.1 other_part)

each_at : (P : Tree → Type 0) (xs : List Tree) (n : ℕ) (u : Tree) → EachIs P xs → slice_get xs n ≡ Some u → P u
each_at P [] n u each at = absurd (none-some u at)
each_at P (x ∷ xs) zero u each at = subst P (same_Some x u at) each.0
each_at P (x ∷ xs) (suc n) u each at = each_at P xs n u each.1 at

each_copy : (P : Tree → Type 0) (count : ℕ) (t : Tree) (later : Forest) → P t → EachIs P (post_order t.inner) → EachIs P (post_order later)
    → EachIs P (post_order (copies count t later))
each_copy P zero t later is inner rest = rest
each_copy P (suc count) t later is inner rest =
    each_both P (post_order t.inner) (t ∷ post_order (copies count t later)) inner (is, each_copy P count t later is inner rest)

each_laid : (P : Tree → Type 0) (trees : List Tree) (high : ℕ) (runs : List Run) → NameBelow high runs
    → ((m : ℕ) → m < high → P (get_or trees m no_tree) × EachIs P (post_order (get_or trees m no_tree).inner)) → EachIs P (post_order (laid trees runs))
each_laid P trees high [] are so = tt
each_laid P trees high (run ∷ runs) are so =
    let here = so run.entry are.0 in
    each_copy P run.count (get_or trees run.entry no_tree) (laid trees runs) here.0 here.1 (each_laid P trees high runs are.2 so)

abbrev IsTreeOf : List Entry → Tree → Type 0
IsTreeOf entries u = (m : ℕ) × (m < length entries) × (tree_at entries m ≡ u)

within_entries : (entries : List Entry) → NameEarlier entries → (k n : ℕ) → n < k → n < length entries
    → EachIs (IsTreeOf entries) (post_order (tree_at entries n).inner)
within_entries entries earlier zero n few within = absurd (omega arith)
within_entries entries earlier (suc k) n few within =
    let e : Entry = get_or entries n no_entry in
    let at : slice_get entries n ≡ Some e = slice_get-get_or entries n no_entry within in
    subst (λ (t : Tree). EachIs (IsTreeOf entries) (post_order t.inner)) (sym (tree_is entries n e at (earlier n e at)))
    (each_laid (IsTreeOf entries) (trees_of entries) n e.runs (below_bound 0 n e.runs (earlier n e at))
    (λ m lt. ((m, omega arith, refl), within_entries entries earlier k m (omega arith) (omega arith))))

-- trees of one shape have one number
number_alike : (entries : List Entry) (s t : Tree) → SameShape s t → number_in entries s ≡ number_in entries t
number_alike entries s t same = λ i. number_of entries (entry_at (same.label i) (code_alike entries s.inner t.inner same.inner [] i))

-- ---- what an entry's runs become

-- more children may be counted before a forest is coded
code-counted : (entries : List Entry) (f : Forest) (n count : ℕ) (runs : List Run) → code entries f (counted n count runs) ≡ counted n count (code entries f runs)
code-counted entries bare n count runs = refl
code-counted entries (grown x i l) n count runs =
    let m : ℕ = number_of entries (entry_at x (code entries i [])) in
    ap (code entries l) (counted-exchange m 1 n count runs) ∙ code-counted entries l n count (counted m 1 runs)

-- runs with other numbers
abbrev renumbered_runs : (ℕ → ℕ) → List Run → List Run
renumbered_runs to [] = []
renumbered_runs to (run ∷ runs) = counted (to run.entry) run.count (renumbered_runs to runs)

-- what runs stand for is coded as these with other numbers
code-renumbered : (other : List Entry) (trees : List Tree) (high : ℕ) (runs : List Run) → NameBelow high runs
    → code other (laid trees runs) [] ≡ renumbered_runs (λ k. number_in other (get_or trees k no_tree)) runs
code-renumbered other trees high [] are = refl
code-renumbered other trees high (run ∷ runs) are =
    let t : Tree = get_or trees run.entry no_tree in
    let rest : Forest = laid trees runs in
    code-copies other run.count t rest []
    ∙ ap (code other rest) (times-counted run.count (number_in other t) [] are.1)
    ∙ code-counted other rest (number_in other t) run.count []
    ∙ ap (counted (number_in other t) run.count) (code-renumbered other trees high runs are.2)

-- how many children of an entry there are with more of one
children-counted : (k n count : ℕ) (runs : List Run) → times_named k (counted n count runs) ≡ (if n == k then count else 0) + times_named k runs
children-counted k n count [] = refl
children-counted k n count (run ∷ runs) = elim (cases_order n run.entry) [
  | inl at ↦ ap (times_named k) (counted-at n count run runs at)
      ∙ one_more (run.entry == k) ∙ ap (λ e. (if e == k then count else 0) + times_named k (run ∷ runs)) (sym at)
  | inr order ↦ elim order [
    | inl before ↦ ap (times_named k) (counted-before n count run runs before)
    | inr behind ↦ ap (times_named k) (counted-behind n count run runs behind)
        ∙ (let e = children-counted k n count runs in omega arith)
  ]
]
  where
    one_more : (b : Bool) → (if b then count + run.count else 0) + times_named k runs ≡ (if b then count else 0) + ((if b then run.count else 0) + times_named k runs)
    one_more true = omega arith
    one_more false = omega arith

-- there are as many where numbers differ
children-renumbered : (to from : ℕ → ℕ) (count k high : ℕ) (runs : List Run) → ((n : ℕ) → n < count → from (to n) ≡ n) → k < count → high ≤ count
    → NameBelow high runs → times_named (to k) (renumbered_runs to runs) ≡ times_named k runs
children-renumbered to from count k high [] inverse within few are = refl
children-renumbered to from count k high (run ∷ runs) inverse within few are =
    let below : run.entry < high = are.0 in
    children-counted (to k) (to run.entry) run.count (renumbered_runs to runs)
    ∙ ap (λ b. (if b then run.count else 0) + times_named (to k) (renumbered_runs to runs)) (alike (inverse run.entry (omega arith)))
    ∙ ap (λ n. (if run.entry == k then run.count else 0) + n) (children-renumbered to from count k high runs inverse within few are.2)
  where
    alike : from (to run.entry) ≡ run.entry → (to run.entry == to k) ≡ (run.entry == k)
    alike back = elim (cases_eq run.entry k) [
      | inl is ↦ eq-eqb (to run.entry) (to k) (ap to is) ∙ sym (eq-eqb run.entry k is)
      | inr ne ↦ ne_eqb (to run.entry) (to k) (λ is. ne (sym back ∙ ap from is ∙ inverse k within)) ∙ sym (ne_eqb run.entry k ne)
    ]

module _ (entries other : List Entry) (root : ℕ) (rules : MeetRules entries root) (dict : IsDictionaryOf (tree_at entries root) other) where
  abbrev t : Tree
  t = tree_at entries root

  proper : AreProper entries
  proper = record { earlier = rules.earlier; apart = rules.apart }

  other_proper : AreProper other
  other_proper =
      subst AreProper (sym (one_dictionary t other (walk (alone t) []).dict dict (walk_is t))) (walks_well (alone t) [] [] none_seen).are.proper

  all_entries : EachIs (IsTreeOf entries) (post_order (alone t))
  all_entries =
      let last = rules.last in
      each_both (IsTreeOf entries) (post_order t.inner) (t ∷ []) (within_entries entries rules.earlier (root + 1) root (omega arith) (omega arith))
      ((root, omega arith, refl), tt)

  like : (n : ℕ) → n < length entries → (m : ℕ) × (m < length other) × SameShape (tree_at entries n) (tree_at other m)
  like n within =
      let last = rules.last in
      let listed = occurs-listed (tree_at entries n) (alone t) (reached entries root rules (root + 1) n (omega arith) within) in
      let kept = covered [] (post_order (alone t)) dict.shapes dict.firsts listed.0 (tree_at entries n) listed.1 in
      let stands = EachWith-at SameShape dict.shapes (trees_of other) kept.0 kept.1 dict.stands kept.2 in
      let count = length-trees other in
      let inside = slice_get_within (trees_of other) kept.0 stands.0 stands.1 in
      let less : kept.0 < length other = omega arith in
      let is : stands.0 ≡ tree_at other kept.0 = same_Some stands.0 (tree_at other kept.0) (sym stands.1 ∙ tree_there other kept.0 less) in
      let P : Tree → Type 0 = λ v. SameShape kept.1 v in
      (kept.0, less, SameShape-further (tree_at entries n) kept.1 (tree_at other kept.0) kept.3 (subst P is stands.2))

  like_back : (m : ℕ) → m < length other → (n : ℕ) × (n < length entries) × SameShape (tree_at entries n) (tree_at other m)
  like_back m within =
      let shape = EachWith-back SameShape dict.shapes (trees_of other) m (tree_at other m) dict.stands (tree_there other m within) in
      let P : Tree → Type 0 = λ u. SameShape u (tree_at other m) in
      elim (from_list [] (post_order (alone t)) dict.shapes dict.firsts m shape.0 shape.1) [
        | inl none ↦ absurd (none-some shape.0 none.1)
        | inr listed ↦ (let own = each_at (IsTreeOf entries) (post_order (alone t)) listed.0 shape.0 all_entries listed.1 in
            (own.0, own.1, subst P (sym own.2) shape.2))
      ]

  to_is : (n m : ℕ) → m < length other → SameShape (tree_at entries n) (tree_at other m) → number_in other (tree_at entries n) ≡ m
  to_is n m within same = number_alike other (tree_at entries n) (tree_at other m) same ∙ number_below other other_proper (suc m) m (omega arith) within

  from_is : (n m : ℕ) → n < length entries → SameShape (tree_at entries n) (tree_at other m) → number_in entries (tree_at other m) ≡ n
  from_is n m within same =
      number_alike entries (tree_at other m) (tree_at entries n) (SameShape-sym (tree_at entries n) (tree_at other m) same)
      ∙ number_below entries proper (suc n) n (omega arith) within

  abbrev to : ℕ → ℕ
  to n = number_in other (tree_at entries n)

  abbrev from : ℕ → ℕ
  from m = number_in entries (tree_at other m)

  there : (n : ℕ) → n < length entries → (to n < length other) × (from (to n) ≡ n)
  there n within =
      let found = like n within in
      let is : to n ≡ found.0 = to_is n found.0 found.1 found.2 in
      (subst (λ m. m < length other) (sym is) found.1, ap from is ∙ from_is n found.0 within found.2)

  back : (m : ℕ) → m < length other → (from m < length entries) × (to (from m) ≡ m)
  back m within =
      let found = like_back m within in
      let is : from m ≡ found.0 = from_is found.0 m found.1 found.2 in
      (subst (λ n. n < length entries) (sym is) found.1, ap to is ∙ to_is found.0 m within found.2)

  -- an entry whose tree has the shape of another's tells the same, with other numbers
  same_entry : (n m : ℕ) (e f : Entry) → slice_get entries n ≡ Some e → slice_get other m ≡ Some f → SameShape (tree_at entries n) (tree_at other m)
      → IsRenumbered to (length entries) e f
  same_entry n m e f at also same =
      let earlier : AreRuns 0 n e.runs = rules.earlier n e at in
      let within : n < length entries = slice_get_within entries n e at in
      let P : Tree → Type 0 = λ v. SameShape v (tree_at other m) in
      let Q : Tree → Type 0 = λ v. SameShape (tree_of (trees_of entries) e) v in
      let shape : SameShape (tree_of (trees_of entries) e) (tree_of (trees_of other) f) =
      subst Q (tree_is other m f also (other_proper.earlier m f also)) (subst P (tree_is entries n e at earlier) same) in
      let runs : f.runs ≡ renumbered_runs to e.runs =
      sym (code-entry other other_proper m f also)
      ∙ sym (code_alike other (laid (trees_of entries) e.runs) (laid (trees_of other) f.runs) shape.inner [])
      ∙ code-renumbered other (trees_of entries) n e.runs (below_bound 0 n e.runs earlier) in
      record {
        region = ap (λ (x : Label). x.region) (sym shape.label);
        work = ap (λ (x : Label). x.work) (sym shape.label);
        path = ap (λ (x : Label). x.path) (sym shape.label);
        children = λ k few. ap (times_named (to k)) runs
            ∙ children-renumbered to from (length entries) k n e.runs (λ j lt. (there j lt).1) few (omega arith) (below_bound 0 n e.runs earlier);
      }

  renumbered : AreRenumbered entries other
  renumbered = record {
    to = to;
    from = from;
    there = there;
    back = back;
    same = λ n e f at also.
        let found = like n (slice_get_within entries n e at) in
        let P : ℕ → Type 0 = λ m. SameShape (tree_at entries n) (tree_at other m) in
        same_entry n (to n) e f at also (subst P (sym (to_is n found.0 found.1 found.2)) found.2);
  }

pub entries_are_gathered_again : EntriesAreGatheredAgain
entries_are_gathered_again entries root other rules dict =
    let is : dict.0 ≡ tree_at entries root = same_tree dict.0 (tree_at entries root) (sym dict.1) in
    renumbered entries other root rules (subst (λ (t : Tree). IsDictionaryOf t other) is dict.2)
