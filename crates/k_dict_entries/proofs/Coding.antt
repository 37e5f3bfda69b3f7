-- The runs of a forest, by the numbers that the entries of its trees have: they do not depend on the order of siblings.
use Rattle.std.proofs.Common.{◌≡◌, ℕ, zero, suc, ◌+◌, ◌<◌, ◌≤◌, ◌⊎◌, inl, inr, List, [], ◌∷◌, ◌++◌, length, get_or, Some, slice_get, refl, sym, ap, ◌∙◌, subst, arith, append-nil, append_assoc, zero-add}
use Rattle.std.proofs.lemmas.Bool.{cases_order}
use Rattle.std.proofs.lemmas.Option.{slice_get-get_or, slice_get_within}
use Rattle.k_dict_entries.specs.Trees.{Label, Forest, Tree, bare, grown, Alike, neither, both, exchanged, further, SameShape}
use Rattle.k_dict_entries.specs.Entries.{AreRuns, NameEarlier, AreApart, copies, label_of, laid, no_tree, tree_at, tree_of, trees_of}
use Rattle.k_dict_entries.specs.Gathering.{number_of}
use Rattle.k_dict_entries.specs.Tallies.{counted}
use Rattle.k_dict_entries.specs.declared.entry.Entry.{Entry}
use Rattle.k_dict_entries.specs.declared.entry.Run.{Run}
use Rattle.k_dict_entries.proofs.Counting.{run_with, counted-at, counted-before, counted-behind, counted-exchange, counted-sum, AreRuns-counted}
use Rattle.k_dict_entries.proofs.EntryTrees.{tree_is}
use Rattle.k_dict_entries.proofs.Forests.{Alike-refl, Alike-same, Alike-sym, beside, beside_front, beside_right, copies_alike, grown_alike, SameShape-refl}
use Rattle.k_dict_entries.proofs.Numbers.{IsIn, number_found, number_kept}
use Rattle.k_dict_entries.proofs.Places.{place_kept}

-- an entry by its parts
abbrev pub entry_at : Label → List Run → Entry
entry_at label runs = record { region = label.region; work = label.work; path = label.path; runs = runs }

-- runs with the trees of a forest, where each tree has the number of its entry
abbrev pub code : List Entry → Forest → List Run → List Run
code entries bare runs = runs
code entries (grown label inner later) runs = code entries later (counted (number_of entries (entry_at label (code entries inner []))) 1 runs)

-- alike forests have the same runs
pub code_alike : (entries : List Entry) (f g : Forest) → Alike f g → (runs : List Run) → code entries f runs ≡ code entries g runs
code_alike entries _ _ neither runs = refl
code_alike entries _ _ (both x i i' l l' inner later) runs =
    code_alike entries l l' later (counted (number_of entries (entry_at x (code entries i []))) 1 runs)
    ∙ ap (λ c. code entries l' (counted (number_of entries (entry_at x c)) 1 runs)) (code_alike entries i i' inner [])
code_alike entries _ _ (exchanged x y i j l) runs =
    ap (code entries l) (counted-exchange (number_of entries (entry_at y (code entries j []))) 1 (number_of entries (entry_at x (code entries i []))) 1 runs)
code_alike entries _ _ (further f g h one other) runs = code_alike entries f g one runs ∙ code_alike entries g h other runs

-- runs with so many more children of an entry, one by one
abbrev pub times : ℕ → ℕ → List Run → List Run
times zero n runs = runs
times (suc count) n runs = times count n (counted n 1 runs)

pub code-copies : (entries : List Entry) (count : ℕ) (t : Tree) (f : Forest) (runs : List Run)
    → code entries (copies count t f) runs ≡ code entries f (times count (number_of entries (entry_at t.label (code entries t.inner []))) runs)
code-copies entries zero t f runs = refl
code-copies entries (suc count) t f runs =
    code-copies entries count t f (counted (number_of entries (entry_at t.label (code entries t.inner []))) 1 runs)

-- .. or all at once
pub times-counted : (count n : ℕ) (runs : List Run) → 1 ≤ count → times count n runs ≡ counted n count runs
times-counted zero n runs some = absurd (omega arith)
times-counted (suc zero) n runs some = refl
times-counted (suc (suc count)) n runs some =
    let sums : suc count + 1 ≡ suc (suc count) = omega arith in
    times-counted (suc count) n (counted n 1 runs) (omega arith) ∙ counted-sum n (suc count) 1 runs ∙ ap (λ k. counted n k runs) sums

-- these runs name entries below a number
abbrev pub AreBelow : ℕ → List Run → Type 0
AreBelow high [] = Unit {0}
AreBelow high (run ∷ runs) = (run.entry < high) × AreBelow high runs

AreBelow-wider : (low high : ℕ) (runs : List Run) → low ≤ high → AreBelow low runs → AreBelow high runs
AreBelow-wider low high [] wider are = tt
AreBelow-wider low high (run ∷ runs) wider are = (let below : run.entry < low = are.0 in omega arith, AreBelow-wider low high runs wider are.1)

AreBelow-push : (high : ℕ) (runs : List Run) (run : Run) → AreBelow high runs → run.entry < high → AreBelow high (runs ++ run ∷ [])
AreBelow-push high [] run are below = (below, tt)
AreBelow-push high (r ∷ runs) run are below = (are.0, AreBelow-push high runs run are.1 below)

counted-end : (n count : ℕ) (runs more : List Run) → AreBelow n runs → counted n count (runs ++ more) ≡ runs ++ counted n count more
counted-end n count [] more are = refl
counted-end n count (run ∷ runs) more are =
    counted-behind n count run (runs ++ more) are.0 ∙ ap (λ l. run ∷ l) (counted-end n count runs more are.1)

times-more : (count k n : ℕ) (runs : List Run) → AreBelow n runs → times count n (runs ++ run_with n k ∷ []) ≡ runs ++ run_with n (count + k) ∷ []
times-more zero k n runs are = ap (λ m. runs ++ run_with n m ∷ []) (sym (zero-add k))
times-more (suc count) k n runs are =
    let sums : count + (1 + k) ≡ suc count + k = omega arith in
    ap (times count n) (counted-end n 1 runs (run_with n k ∷ []) are ∙ ap (λ l. runs ++ l) (counted-at n 1 (run_with n k) [] refl))
    ∙ times-more count (1 + k) n runs are ∙ ap (λ m. runs ++ run_with n m ∷ []) sums

times-end : (count n : ℕ) (runs : List Run) → 1 ≤ count → AreBelow n runs → times count n runs ≡ runs ++ run_with n count ∷ []
times-end zero n runs some are = absurd (omega arith)
times-end (suc count) n runs some are =
    let sums : count + 1 ≡ suc count = omega arith in
    ap (λ l. times count n (counted n 1 l)) (sym (append-nil runs)) ∙ ap (times count n) (counted-end n 1 runs [] are)
    ∙ times-more count 1 n runs are ∙ ap (λ m. runs ++ run_with n m ∷ []) sums

-- the number that a tree has by what it is coded as
abbrev pub number_in : List Entry → Tree → ℕ
number_in entries t = number_of entries (entry_at t.label (code entries t.inner []))

-- laid out and coded again, runs are the same, where each tree has the number of its place
pub code-laid : (entries : List Entry) (trees : List Tree) (low high : ℕ) (runs before : List Run)
    → ((n : ℕ) → n < high → number_in entries (get_or trees n no_tree) ≡ n) → AreRuns low high runs
    → AreBelow low before → code entries (laid trees runs) before ≡ before ++ runs
code-laid entries trees low high [] before each are below = sym (append-nil before)
code-laid entries trees low high (run ∷ runs) before each are below =
    let rest : Forest = laid trees runs in
    let wide : AreBelow run.entry before = AreBelow-wider low run.entry before are.0 below in
    let next : AreBelow (run.entry + 1) (before ++ run ∷ []) =
    AreBelow-push (run.entry + 1) before run (AreBelow-wider run.entry (run.entry + 1) before (omega arith) wide) (omega arith) in
    code-copies entries run.count (get_or trees run.entry no_tree) rest before
    ∙ ap (λ p. code entries rest (times run.count p before)) (each run.entry are.1)
    ∙ ap (code entries rest) (times-end run.count run.entry before are.2 wide)
    ∙ code-laid entries trees (run.entry + 1) high runs (before ++ run ∷ []) each are.3 next
    ∙ append_assoc before (run ∷ []) runs

-- entries that name earlier ones, no two of which are equal
pub record AreProper (entries : List Entry) : Type 0 where
  pub earlier : NameEarlier entries
  pub apart : AreApart entries

module _ (entries : List Entry) (proper : AreProper entries) where
  coded_at : (n : ℕ) (e : Entry) → slice_get entries n ≡ Some e → code entries (laid (trees_of entries) e.runs) [] ≡ e.runs → number_in entries (tree_at entries n) ≡ n
  coded_at n e at coded =
      let tree : tree_at entries n ≡ tree_of (trees_of entries) e = tree_is entries n e at (proper.earlier n e at) in
      let same : entry_at (label_of e) (code entries (laid (trees_of entries) e.runs) []) ≡ e = ap (entry_at (label_of e)) coded in
      let number : number_of entries e ≡ n = proper.apart (number_of entries e) n e (number_found entries e n at) at in
      ap (λ t. number_of entries (entry_at t.label (code entries t.inner []))) tree ∙ ap (number_of entries) same ∙ number

  pub number_below : (k n : ℕ) → n < k → n < length entries → number_in entries (tree_at entries n) ≡ n
  number_below zero n less within = absurd (omega arith)
  number_below (suc k) n less within =
      let some : Entry = entry_at (no_tree).label [] in
      let e : Entry = get_or entries n some in
      let at : slice_get entries n ≡ Some e = slice_get-get_or entries n some within in
      coded_at n e at (code-laid entries (trees_of entries) 0 n e.runs [] (λ m lower. number_below k m (omega arith) (omega arith)) (proper.earlier n e at) tt)

  -- laid out and coded again, runs are the same
  pub code-of_laid : (low : ℕ) (runs : List Run) → AreRuns low (length entries) runs → code entries (laid (trees_of entries) runs) [] ≡ runs
  code-of_laid low runs are =
      code-laid entries (trees_of entries) low (length entries) runs [] (λ n less. number_below (suc n) n (omega arith) less) are tt

  -- the tree of an entry is coded as its runs
  pub code-entry : (n : ℕ) (e : Entry) → slice_get entries n ≡ Some e → code entries (laid (trees_of entries) e.runs) [] ≡ e.runs
  code-entry n e at =
      let within : n < length entries = slice_get_within entries n e at in
      code-laid entries (trees_of entries) 0 n e.runs [] (λ m lower. number_below (suc m) m (omega arith) (omega arith)) (proper.earlier n e at) tt

-- each tree of a forest has its entry
abbrev pub Knows : List Entry → Forest → Type 0
Knows entries bare = Unit {0}
Knows entries (grown label inner later) = Knows entries inner × IsIn entries (entry_at label (code entries inner [])) × Knows entries later

-- what is known is coded in the same way where entries follow
pub code-kept : (entries more : List Entry) (f : Forest) → Knows entries f → (runs : List Run) → code (entries ++ more) f runs ≡ code entries f runs
code-kept entries more bare knows runs = refl
code-kept entries more (grown x i l) knows runs =
    ap (λ c. code (entries ++ more) l (counted (number_of (entries ++ more) (entry_at x c)) 1 runs)) (code-kept entries more i knows.0 [])
    ∙ ap (λ p. code (entries ++ more) l (counted p 1 runs)) (number_kept entries more (entry_at x (code entries i [])) knows.1.0 knows.1.1)
    ∙ code-kept entries more l knows.2 (counted (number_of entries (entry_at x (code entries i []))) 1 runs)

pub Knows-kept : (entries more : List Entry) (f : Forest) → Knows entries f → Knows (entries ++ more) f
Knows-kept entries more bare knows = tt
Knows-kept entries more (grown x i l) knows =
    let P : List Run → Type 0 = λ c. IsIn (entries ++ more) (entry_at x c) in (
      Knows-kept entries more i knows.0,
      subst P (sym (code-kept entries more i knows.0 [])) (knows.1.0, place_kept entries more knows.1.0 (entry_at x (code entries i [])) knows.1.1),
      Knows-kept entries more l knows.2,
    )

-- the runs of what is known rise
pub AreRuns-code : (entries : List Entry) (f : Forest) (runs : List Run) → Knows entries f → AreRuns 0 (length entries) runs
    → AreRuns 0 (length entries) (code entries f runs)
AreRuns-code entries bare runs knows are = are
AreRuns-code entries (grown x i l) runs knows are =
    let e : Entry = entry_at x (code entries i []) in
    let within : number_of entries e < length entries = slice_get_within entries (number_of entries e) e (number_found entries e knows.1.0 knows.1.1) in
    AreRuns-code entries l (counted (number_of entries e) 1 runs) knows.2
    (AreRuns-counted 0 (length entries) (number_of entries e) 1 runs (omega arith) within (omega arith) are)

copies-add : (a b : ℕ) (t : Tree) (f : Forest) → copies (a + b) t f ≡ copies a t (copies b t f)
copies-add zero b t f = ap (λ n. copies n t f) (zero-add b)
copies-add (suc a) b t f =
    let sums : suc a + b ≡ suc (a + b) = omega arith in
    ap (λ n. copies n t f) sums ∙ ap (grown t.label t.inner) (copies-add a b t f)

copies_front : (a : ℕ) (s : Tree) (x : Label) (i f : Forest) → Alike (copies a s (grown x i f)) (grown x i (copies a s f))
copies_front zero s x i f = Alike-refl (grown x i f)
copies_front (suc a) s x i f =
    further (grown s.label s.inner (copies a s (grown x i f))) (grown s.label s.inner (grown x i (copies a s f))) (grown x i (grown s.label s.inner (copies a s f)))
    (both s.label s.inner s.inner (copies a s (grown x i f)) (grown x i (copies a s f)) (Alike-refl s.inner) (copies_front a s x i f))
    (exchanged s.label x s.inner i (copies a s f))

copies_exchange : (a : ℕ) (s : Tree) (b : ℕ) (t : Tree) (f : Forest) → Alike (copies a s (copies b t f)) (copies b t (copies a s f))
copies_exchange a s zero t f = Alike-refl (copies a s f)
copies_exchange a s (suc b) t f =
    further (copies a s (grown t.label t.inner (copies b t f))) (grown t.label t.inner (copies a s (copies b t f))) (grown t.label t.inner (copies b t (copies a s f)))
    (copies_front a s t.label t.inner (copies b t f))
    (both t.label t.inner t.inner (copies a s (copies b t f)) (copies b t (copies a s f)) (Alike-refl t.inner) (copies_exchange a s b t f))

-- runs with more children of an entry stand for those children and the others
pub laid_counted : (trees : List Tree) (n count : ℕ) (runs : List Run)
    → Alike (laid trees (counted n count runs)) (copies count (get_or trees n no_tree) (laid trees runs))
laid_counted trees n count [] = Alike-refl (copies count (get_or trees n no_tree) bare)
laid_counted trees n count (run ∷ runs) = elim (cases_order n run.entry) [
  | inl at ↦ Alike-same (laid trees (counted n count (run ∷ runs))) (copies count (get_or trees n no_tree) (laid trees (run ∷ runs)))
      (ap (laid trees) (counted-at n count run runs at) ∙ copies-add count run.count (get_or trees run.entry no_tree) (laid trees runs)
      ∙ ap (λ k. copies count (get_or trees k no_tree) (laid trees (run ∷ runs))) (sym at))
  | inr order ↦ elim order [
    | inl before ↦ Alike-same (laid trees (counted n count (run ∷ runs))) (copies count (get_or trees n no_tree) (laid trees (run ∷ runs)))
        (ap (laid trees) (counted-before n count run runs before))
    | inr behind ↦ (let t : Tree = get_or trees n no_tree in let u : Tree = get_or trees run.entry no_tree in
        further (laid trees (counted n count (run ∷ runs))) (laid trees (run ∷ counted n count runs)) (copies count t (laid trees (run ∷ runs)))
        (Alike-same (laid trees (counted n count (run ∷ runs))) (laid trees (run ∷ counted n count runs)) (ap (laid trees) (counted-behind n count run runs behind)))
        (further (copies run.count u (laid trees (counted n count runs))) (copies run.count u (copies count t (laid trees runs))) (copies count t (copies run.count u (laid trees runs)))
        (copies_alike run.count u u (laid trees (counted n count runs)) (copies count t (laid trees runs)) (SameShape-refl u) (laid_counted trees n count runs))
        (copies_exchange run.count u count t (laid trees runs))))
  ]
]

pub beside-bare : (f : Forest) → beside f bare ≡ f
beside-bare bare = refl
beside-bare (grown x i l) = ap (grown x i) (beside-bare l)

-- what is known is like what its runs stand for
pub laid_code : (entries : List Entry) → AreProper entries → (f : Forest) → Knows entries f → (runs : List Run)
    → Alike (laid (trees_of entries) (code entries f runs)) (beside f (laid (trees_of entries) runs))
laid_code entries proper bare knows runs = Alike-refl (laid (trees_of entries) runs)
laid_code entries proper (grown x i l) knows runs =
    let trees : List Tree = trees_of entries in
    let e : Entry = entry_at x (code entries i []) in
    let n : ℕ = number_of entries e in
    let at : slice_get entries n ≡ Some e = number_found entries e knows.1.0 knows.1.1 in
    let tree : tree_at entries n ≡ tree_of trees e = tree_is entries n e at (proper.earlier n e at) in
    let whole : Tree = record { label = x; inner = i } in
    let inner : Alike (laid trees (code entries i [])) i =
    further (laid trees (code entries i [])) (beside i bare) i (laid_code entries proper i knows.0 []) (Alike-same (beside i bare) i (beside-bare i)) in
    let P : Tree → Type 0 = λ t. SameShape t whole in
    let shape : SameShape (tree_at entries n) whole = subst P (sym tree) (record { label = refl; inner = inner }) in
    let t : Tree = tree_at entries n in
    let rest : Forest = laid trees runs in
    further (laid trees (code entries l (counted n 1 runs))) (beside l (laid trees (counted n 1 runs))) (grown x i (beside l rest))
    (laid_code entries proper l knows.2 (counted n 1 runs))
    (further (beside l (laid trees (counted n 1 runs))) (beside l (grown t.label t.inner rest)) (grown x i (beside l rest))
    (beside_right l (laid trees (counted n 1 runs)) (grown t.label t.inner rest) (laid_counted trees n 1 runs))
    (further (beside l (grown t.label t.inner rest)) (grown t.label t.inner (beside l rest)) (grown x i (beside l rest))
    (beside_front l t.label t.inner rest) (grown_alike t whole (beside l rest) (beside l rest) shape (Alike-refl (beside l rest)))))

-- the tree that is known is like the one that its entry stands for
pub known_alike : (entries : List Entry) → AreProper entries → (x : Label) (i : Forest) → Knows entries i
    → SameShape (record { label = x; inner = i }) (tree_of (trees_of entries) (entry_at x (code entries i [])))
known_alike entries proper x i knows =
    let trees : List Tree = trees_of entries in
    let inner : Alike (laid trees (code entries i [])) i =
    further (laid trees (code entries i [])) (beside i bare) i (laid_code entries proper i knows []) (Alike-same (beside i bare) i (beside-bare i)) in
    record { label = refl; inner = Alike-sym (laid trees (code entries i [])) i inner }

-- and like the tree at the entry's place
pub tree_alike : (entries : List Entry) → AreProper entries → (x : Label) (i : Forest) → Knows entries i → (n : ℕ)
    → slice_get entries n ≡ Some (entry_at x (code entries i [])) → SameShape (record { label = x; inner = i }) (tree_at entries n)
tree_alike entries proper x i knows n at =
    let e : Entry = entry_at x (code entries i []) in
    let tree : tree_at entries n ≡ tree_of (trees_of entries) e = tree_is entries n e at (proper.earlier n e at) in
    let P : Tree → Type 0 = λ t. SameShape (record { label = x; inner = i }) t in
    subst P (sym tree) (known_alike entries proper x i knows)
