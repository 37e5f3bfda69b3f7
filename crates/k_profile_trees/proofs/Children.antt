-- An instance's children in a list of nodes are the outermost instances of those within it.
use Rattle.std.proofs.Common.{◌≡◌, ℕ, suc, ◌+◌, ◌-◌, ◌<◌, ◌≤◌, nat_lt, ◌==◌, List, [], ◌∷◌, ◌++◌, refl, sym, ap, ◌∙◌, subst, arith, append_assoc, append-nil}
use Rattle.std.specs.Prelude.{All, filter, take_while}
use Rattle.std.proofs.lemmas.Bool.{cond-true, cond-false, eq-eqb, ne_eqb, lt-ltb, le-ltb}
use Rattle.std.proofs.lemmas.List.Sums.{sum_by-cons, take_while-cons}
use Rattle.k_optab.specs.declared.node.Node.{Node}
use Rattle.k_optab.specs.Meaning.{HasBoundedPath, HaveBoundedPaths, children, paths, works}
use Rattle.k_dict_entries.specs.Trees.{Forest, Label, Tree, alone, bare, grown, list_of, node_at, nodes_of}
use Rattle.k_profile_trees.proofs.Shapes.{TopsUpTo, tops}

-- a list begins with no node of this depth or deeper
abbrev Stops : ℕ → List Node → Type 0
Stops depth [] = Unit {0}
Stops depth (n ∷ nodes) = n.depth < depth

stops_deeper : (depth : ℕ) (f : Forest) (tail : List Node) → Stops depth tail → Stops (depth + 1) (nodes_of depth f ++ tail)
stops_deeper depth bare [] stops = tt
stops_deeper depth bare (n ∷ tail) stops = let here : n.depth < depth = stops in omega arith
stops_deeper depth (grown x i l) tail stops = omega arith

-- the outermost instances of a forest
abbrev outermost : ℕ → Forest → List Node
outermost depth bare = []
outermost depth (grown x i l) = node_at depth x ∷ outermost depth l

all_deeper : (d e : ℕ) → d < e → (f : Forest) (xs : List Node)
    → take_while (λ n. nat_lt d n.depth) (nodes_of e f ++ xs) ≡ nodes_of e f ++ take_while (λ n. nat_lt d n.depth) xs
all_deeper d e lt bare xs = refl
all_deeper d e lt (grown x i l) xs =
    take_while-cons (λ (n : Node). nat_lt d n.depth) (node_at e x) ((nodes_of (e + 1) i ++ nodes_of e l) ++ xs)
    ∙ cond-true (nat_lt d e) (node_at e x ∷ take_while (λ n. nat_lt d n.depth) ((nodes_of (e + 1) i ++ nodes_of e l) ++ xs)) [] (lt-ltb d e lt)
    ∙ ap (λ k. node_at e x ∷ k)
    (ap (λ k. take_while (λ n. nat_lt d n.depth) k) (append_assoc (nodes_of (e + 1) i) (nodes_of e l) xs)
    ∙ all_deeper d (e + 1) (omega arith) i (nodes_of e l ++ xs)
    ∙ ap (λ k. nodes_of (e + 1) i ++ k) (all_deeper d e lt l xs)
    ∙ sym (append_assoc (nodes_of (e + 1) i) (nodes_of e l) (take_while (λ n. nat_lt d n.depth) xs)))

none_taken : (d : ℕ) (tail : List Node) → Stops (d + 1) tail → take_while (λ n. nat_lt d n.depth) tail ≡ []
none_taken d [] stops = refl
none_taken d (n ∷ tail) stops =
    let here : n.depth < d + 1 = stops in
    take_while-cons (λ (m : Node). nat_lt d m.depth) n tail
    ∙ cond-false (nat_lt d n.depth) (n ∷ take_while (λ m. nat_lt d m.depth) tail) [] (le-ltb d n.depth (omega arith))

none_so_deep : (d e : ℕ) → d < e → (f : Forest) (xs : List Node) → filter (λ n. n.depth == d) (nodes_of e f ++ xs) ≡ filter (λ n. n.depth == d) xs
none_so_deep d e lt bare xs = refl
none_so_deep d e lt (grown x i l) xs =
    let rest : List Node = (nodes_of (e + 1) i ++ nodes_of e l) ++ xs in
    cond-false (e == d) (node_at e x ∷ filter (λ n. n.depth == d) rest) (filter (λ n. n.depth == d) rest) (ne_eqb e d (λ same. absurd (omega arith)))
    ∙ ap (λ k. filter (λ n. n.depth == d) k) (append_assoc (nodes_of (e + 1) i) (nodes_of e l) xs)
    ∙ none_so_deep d (e + 1) (omega arith) i (nodes_of e l ++ xs)
    ∙ none_so_deep d e lt l xs

outer_are : (d : ℕ) (f : Forest) (xs : List Node) → filter (λ n. n.depth == d) (nodes_of d f ++ xs) ≡ outermost d f ++ filter (λ n. n.depth == d) xs
outer_are d bare xs = refl
outer_are d (grown x i l) xs =
    let rest : List Node = (nodes_of (d + 1) i ++ nodes_of d l) ++ xs in
    cond-true (d == d) (node_at d x ∷ filter (λ n. n.depth == d) rest) (filter (λ n. n.depth == d) rest) (eq-eqb d d refl)
    ∙ ap (λ k. node_at d x ∷ k)
    (ap (λ k. filter (λ n. n.depth == d) k) (append_assoc (nodes_of (d + 1) i) (nodes_of d l) xs)
    ∙ none_so_deep d (d + 1) (omega arith) i (nodes_of d l ++ xs)
    ∙ outer_are d l xs)

children_are : (depth : ℕ) (x : Label) (i : Forest) (tail : List Node) → Stops (depth + 1) tail
    → children (node_at depth x) (nodes_of (depth + 1) i ++ tail) ≡ outermost (depth + 1) i
children_are depth x i tail stops =
    ap (λ k. filter (λ n. n.depth == depth + 1) k)
    (all_deeper depth (depth + 1) (omega arith) i tail ∙ ap (λ k. nodes_of (depth + 1) i ++ k) (none_taken depth tail stops))
    ∙ outer_are (depth + 1) i []
    ∙ append-nil (outermost (depth + 1) i)

outer_paths : (depth : ℕ) (f : Forest) → paths (outermost depth f) ≡ tops (λ x. x.path) f
outer_paths depth bare = refl
outer_paths depth (grown x i l) = sum_by-cons (λ (n : Node). n.path) (node_at depth x) (outermost depth l) ∙ ap (λ p. x.path + p) (outer_paths depth l)

outer_works : (depth : ℕ) (f : Forest) → works (outermost depth f) ≡ tops (λ x. x.work) f
outer_works depth bare = refl
outer_works depth (grown x i l) = sum_by-cons (λ (n : Node). n.work) (node_at depth x) (outermost depth l) ∙ ap (λ w. x.work + w) (outer_works depth l)

up_to : (path depth : ℕ) (f : Forest) → All (λ n. n.path ≤ path) (outermost depth f) → TopsUpTo path f
up_to path depth bare all = tt
up_to path depth (grown x i l) all =
    (all 0 (node_at depth x) (omega arith), up_to path depth l (λ k d low. all (suc k) d (omega arith)))

-- an instance's children's works are part of its work; its path is at most its work, at least each child's path, and at most the
-- children's paths and its own work together
pub record HasBounds (x : Label) (i : Forest) : Type 0 where
  pub part : tops (λ y. y.work) i ≤ x.work
  pub work : x.path ≤ x.work
  pub child : TopsUpTo x.path i
  pub parts : x.path ≤ tops (λ y. y.path) i + (x.work - tops (λ y. y.work) i)

-- so it is for each instance of a forest
abbrev pub HaveBounds : Forest → Type 0
HaveBounds bare = Unit {0}
HaveBounds (grown x i l) = HasBounds x i × HaveBounds i × HaveBounds l

has_bounds : (depth : ℕ) (x : Label) (i : Forest) → HasBoundedPath (node_at depth x) (outermost (depth + 1) i) → HasBounds x i
has_bounds depth x i has =
    let w : works (outermost (depth + 1) i) ≡ tops (λ y. y.work) i = outer_works (depth + 1) i in
    let p : paths (outermost (depth + 1) i) ≡ tops (λ y. y.path) i = outer_paths (depth + 1) i in
    let part : works (outermost (depth + 1) i) ≤ x.work = has.part in
    let parts : x.path ≤ paths (outermost (depth + 1) i) + (x.work - works (outermost (depth + 1) i)) = has.parts in
    record {
      part = omega arith;
      work = has.work;
      child = up_to x.path (depth + 1) i has.child;
      parts = omega arith;
    }

have_bounds : (depth : ℕ) (f : Forest) (tail : List Node) → Stops depth tail → HaveBoundedPaths (nodes_of depth f ++ tail)
    → HaveBounds f × HaveBoundedPaths tail
have_bounds depth bare tail stops have = (tt, have)
have_bounds depth (grown x i l) tail stops have =
    let split : (nodes_of (depth + 1) i ++ nodes_of depth l) ++ tail ≡ nodes_of (depth + 1) i ++ (nodes_of depth l ++ tail) =
    append_assoc (nodes_of (depth + 1) i) (nodes_of depth l) tail in
    let next : Stops (depth + 1) (nodes_of depth l ++ tail) = stops_deeper depth l tail stops in
    let its : children (node_at depth x) ((nodes_of (depth + 1) i ++ nodes_of depth l) ++ tail) ≡ outermost (depth + 1) i =
    ap (λ k. children (node_at depth x) k) split ∙ children_are depth x i (nodes_of depth l ++ tail) next in
    let inner = have_bounds (depth + 1) i (nodes_of depth l ++ tail) next (subst HaveBoundedPaths split have.1) in
    let later = have_bounds depth l tail stops inner.1 in
    ((has_bounds depth x i (subst (λ k. HasBoundedPath (node_at depth x) k) its have.0), inner.0, later.0), later.1)

-- a tree whose list has bounded paths
pub tree_has_bounds : (t : Tree) → HaveBoundedPaths (list_of t) → HaveBounds (alone t)
tree_has_bounds t have = (have_bounds 0 (alone t) [] tt (subst HaveBoundedPaths (sym (append-nil (list_of t))) have)).0
