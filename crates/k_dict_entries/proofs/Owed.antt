-- Giving the instances of runs one by one.
use Rattle.std.proofs.Common.{◌≡◌, ℕ, zero, suc, ◌+◌, ◌-◌, ◌<◌, ◌≤◌, ◌⊎◌, inl, inr, List, [], ◌∷◌, ◌++◌, length, map, get_or, Some, slice_get, refl, sym, ap, ◌∙◌, subst, arith, append-nil, append_assoc, length-append, lt-ltb, le-ltb, nat_lt, if◌then◌else◌}
use Rattle.std.proofs.lemmas.Bool.{cases_lt}
use Rattle.k_optab.specs.declared.node.Node.{Node}
use Rattle.k_dict_entries.specs.Trees.{Forest, Tree, bare, grown, list_of, node_at, nodes_of}
use Rattle.k_dict_entries.specs.Entries.{AreRuns, NameEarlier, copies, expansion, label_of, laid, no_tree, tree_at, tree_of, trees_of}
use Rattle.k_dict_entries.specs.Expanding.{AreShallow, less_one, owed, pending_at, visited}
use Rattle.k_dict_entries.specs.declared.entry.Entry.{Entry}
use Rattle.k_dict_entries.specs.declared.entry.Run.{Run}
use Rattle.k_dict_entries.specs.declared.expansion.Pending.{Pending}
use Rattle.k_dict_entries.proofs.EntryTrees.{tree_is}

nodes_of-copies : (count : ℕ) (t : Tree) (f : Forest) (depth : ℕ) → nodes_of depth (copies count t f) ≡ nodes_of depth (copies count t bare) ++ nodes_of depth f
nodes_of-copies zero t f depth = refl
nodes_of-copies (suc count) t f depth =
    let inner : List Node = nodes_of (depth + 1) t.inner in
    ap (λ l. node_at depth t.label ∷ (inner ++ l)) (nodes_of-copies count t f depth)
    ∙ ap (λ l. node_at depth t.label ∷ l) (sym (append_assoc inner (nodes_of depth (copies count t bare)) (nodes_of depth f)))

nodes_of-laid : (trees : List Tree) (runs : List Run) (depth : ℕ) → nodes_of depth (laid trees runs) ≡ owed trees (map (pending_at depth) runs)
nodes_of-laid trees [] depth = refl
nodes_of-laid trees (run ∷ runs) depth =
    let t : Tree = get_or trees run.entry no_tree in
    nodes_of-copies run.count t (laid trees runs) depth ∙ ap (λ l. nodes_of depth (copies run.count t bare) ++ l) (nodes_of-laid trees runs depth)

owed-append : (trees : List Tree) (xs ys : List Pending) → owed trees (xs ++ ys) ≡ owed trees xs ++ owed trees ys
owed-append trees [] ys = refl
owed-append trees (x ∷ xs) ys =
    let first : List Node = nodes_of x.depth (copies x.run.count (get_or trees x.run.entry no_tree) bare) in
    ap (λ l. first ++ l) (owed-append trees xs ys) ∙ sym (append_assoc first (owed trees xs) (owed trees ys))

copies-less : (count : ℕ) (t : Tree) (f : Forest) → 1 ≤ count → copies count t f ≡ grown t.label t.inner (copies (count - 1) t f)
copies-less count t f some = let is : count ≡ suc (count - 1) = omega arith in ap (λ n. copies n t f) is

owed-less_one : (trees : List Tree) (p : Pending) → 1 ≤ p.run.count
    → owed trees (less_one p) ≡ nodes_of p.depth (copies (p.run.count - 1) (get_or trees p.run.entry no_tree) bare)
owed-less_one trees p some = elim (cases_lt 1 p.run.count) [
  | inl more ↦ ap (λ b. owed trees (if b then record { run = record { entry = p.run.entry; count = p.run.count - 1 }; depth = p.depth } ∷ [] else []))
      (lt-ltb 1 p.run.count more)
      ∙ append-nil (nodes_of p.depth (copies (p.run.count - 1) (get_or trees p.run.entry no_tree) bare))
  | inr one ↦ (let none : 0 ≡ p.run.count - 1 = omega arith in
      ap (λ b. owed trees (if b then record { run = record { entry = p.run.entry; count = p.run.count - 1 }; depth = p.depth } ∷ [] else []))
      (le-ltb 1 p.run.count one)
      ∙ ap (λ n. nodes_of p.depth (copies n (get_or trees p.run.entry no_tree) bare)) none)
]

-- one instance is given, and its children and the rest of its run are owed
pub owed-visited : (entries : List Entry) (p : Pending) (e : Entry) (pending : List Pending) → slice_get entries p.run.entry ≡ Some e
    → NameEarlier entries → 1 ≤ p.run.count
    → owed (trees_of entries) (p ∷ pending) ≡ node_at p.depth (label_of e) ∷ owed (trees_of entries) (visited p e pending)
owed-visited entries p e pending at earlier some =
    let trees : List Tree = trees_of entries in
    let t : Tree = tree_at entries p.run.entry in
    let is : t ≡ tree_of trees e = tree_is entries p.run.entry e at (earlier p.run.entry e at) in
    let rest : List Node = nodes_of p.depth (copies (p.run.count - 1) t bare) in
    let children : List Pending = map (pending_at (p.depth + 1)) e.runs in
    ap (λ f. nodes_of p.depth f ++ owed trees pending) (copies-less p.run.count t bare some)
    ∙ ap (λ (u : Tree). (node_at p.depth u.label ∷ (nodes_of (p.depth + 1) u.inner ++ rest)) ++ owed trees pending) is
    ∙ ap (λ l. node_at p.depth (label_of e) ∷ ((l ++ rest) ++ owed trees pending)) (nodes_of-laid trees e.runs (p.depth + 1))
    ∙ ap (λ l. node_at p.depth (label_of e) ∷ l) (append_assoc (owed trees children) rest (owed trees pending)
    ∙ ap (λ l. owed trees children ++ (l ++ owed trees pending)) (sym (owed-less_one trees p some))
    ∙ ap (λ l. owed trees children ++ l) (sym (owed-append trees (less_one p) pending))
    ∙ sym (owed-append trees children (less_one p ++ pending)))

AreShallow-append : (root : ℕ) (xs ys : List Pending) → AreShallow root xs → AreShallow root ys → AreShallow root (xs ++ ys)
AreShallow-append root [] ys one other = other
AreShallow-append root (x ∷ xs) ys one other = (one.0, one.1, AreShallow-append root xs ys one.2 other)

AreShallow-children : (root depth low high : ℕ) (runs : List Run) → depth + high ≤ root + 1 → AreRuns low high runs → AreShallow root (map (pending_at depth) runs)
AreShallow-children root depth low high [] deep are = tt
AreShallow-children root depth low high (run ∷ runs) deep are =
    let below : run.entry < high = are.1 in (omega arith, are.2, AreShallow-children root depth (run.entry + 1) high runs deep are.3)

AreShallow-less_one : (root : ℕ) (p : Pending) → p.depth + p.run.entry ≤ root → 1 ≤ p.run.count → AreShallow root (less_one p)
AreShallow-less_one root p deep some =
    let P : _ → Type 0 = λ b. AreShallow root (if b then record { run = record { entry = p.run.entry; count = p.run.count - 1 }; depth = p.depth } ∷ [] else []) in
    elim (cases_lt 1 p.run.count) [
      | inl more ↦ subst P (sym (lt-ltb 1 p.run.count more)) (deep, omega arith, tt)
      | inr one ↦ subst P (sym (le-ltb 1 p.run.count one)) tt
    ]

-- what is pending lies no deeper than the root's number allows
pub AreShallow-visited : (root : ℕ) (p : Pending) (e : Entry) (pending : List Pending) → AreShallow root (p ∷ pending) → AreRuns 0 p.run.entry e.runs
    → AreShallow root (visited p e pending)
AreShallow-visited root p e pending shallow are =
    let deep : p.depth + p.run.entry ≤ root = shallow.0 in
    AreShallow-append root (map (pending_at (p.depth + 1)) e.runs) (less_one p ++ pending)
    (AreShallow-children root (p.depth + 1) 0 p.run.entry e.runs (omega arith) are)
    (AreShallow-append root (less_one p) pending (AreShallow-less_one root p deep shallow.1) shallow.2)

-- at least as many instances are owed as runs are pending
pub length-owed : (root : ℕ) (trees : List Tree) (pending : List Pending) → AreShallow root pending → length pending ≤ length (owed trees pending)
length-owed root trees [] shallow = omega arith
length-owed root trees (p ∷ pending) shallow =
    let t : Tree = get_or trees p.run.entry no_tree in
    let first : List Node = nodes_of p.depth (copies p.run.count t bare) in
    let some : 1 ≤ length first =
    (let is : length first ≡ 1 + length (nodes_of (p.depth + 1) t.inner ++ nodes_of p.depth (copies (p.run.count - 1) t bare)) =
    ap (λ f. length (nodes_of p.depth f)) (copies-less p.run.count t bare shallow.1) ∙ omega arith in omega arith) in
    let rest = length-owed root trees pending shallow.2 in
    let both = length-append first (owed trees pending) in omega arith

-- the tree has more instances than were asked for
pub too_large : (entries : List Entry) (root limit : ℕ) (nodes : List Node) (p : Pending) (all pending : List Pending) → all ≡ p ∷ pending
    → nodes ++ owed (trees_of entries) all ≡ expansion entries root → AreShallow root all → length nodes ≤ limit
    → limit - length nodes ≤ length pending → limit < length (expansion entries root)
too_large entries root limit nodes p all pending is given shallow few many =
    let trees : List Tree = trees_of entries in
    let size : length (expansion entries root) ≡ length nodes + length (owed trees all) = sym (ap length given) ∙ length-append nodes (owed trees all) in
    let longer : length all ≡ suc (length pending) = ap length is in
    let some = length-owed root trees all shallow in omega arith

-- before the first instance the whole tree is owed
pub owed-first : (entries : List Entry) (root : ℕ)
    → [] ++ owed (trees_of entries) (record { run = record { entry = root; count = 1 }; depth = 0 } ∷ []) ≡ expansion entries root
owed-first entries root = append-nil (list_of (tree_at entries root))

-- what is given and what is owed, once one instance more is given
pub step_given : (entries : List Entry) (root : ℕ) (nodes nodes' : List Node) (p : Pending) (e : Entry) (all pending pending' : List Pending)
    → all ≡ p ∷ pending → nodes' ≡ nodes ++ node_at p.depth (label_of e) ∷ [] → pending' ≡ visited p e pending
    → nodes ++ owed (trees_of entries) all ≡ expansion entries root → slice_get entries p.run.entry ≡ Some e → NameEarlier entries → AreShallow root all
    → nodes' ++ owed (trees_of entries) pending' ≡ expansion entries root
step_given entries root nodes nodes' p e all pending pending' is pushed is' given at earlier shallow =
    let trees : List Tree = trees_of entries in
    let P : List Pending → Type 0 = AreShallow root in
    let some : 1 ≤ p.run.count = (subst P is shallow).1 in
    (λ i. pushed i ++ owed trees (is' i))
    ∙ append_assoc nodes (node_at p.depth (label_of e) ∷ []) (owed trees (visited p e pending))
    ∙ ap (λ l. nodes ++ l) (sym (owed-visited entries p e pending at earlier some)) ∙ ap (λ l. nodes ++ owed trees l) (sym is) ∙ given

pub step_shallow : (entries : List Entry) (root : ℕ) (p : Pending) (e : Entry) (all pending pending' : List Pending)
    → all ≡ p ∷ pending → pending' ≡ visited p e pending → slice_get entries p.run.entry ≡ Some e → NameEarlier entries → AreShallow root all
    → AreShallow root pending'
step_shallow entries root p e all pending pending' is is' at earlier shallow =
    let P : List Pending → Type 0 = AreShallow root in
    subst P (sym is') (AreShallow-visited root p e pending (subst P is shallow) (earlier p.run.entry e at))
