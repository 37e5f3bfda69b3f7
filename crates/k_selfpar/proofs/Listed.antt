-- Sums over the list of a forest's instances.
use Rattle.std.proofs.Common.{◌≡◌, ℕ, ◌+◌, ◌-◌, ◌<◌, Bool, true, false, cond, nat_lt, ◌==◌, List, [], ◌∷◌, ◌++◌, length, refl, sym, ap, ◌∙◌, arith, append_assoc, append-nil, if◌then◌else◌}
use Rattle.std.specs.Prelude.{filter, sum_by, take_while}
use Rattle.std.proofs.lemmas.Bool.{cond-true, cond-false, eq-eqb, ne_eqb, lt-ltb, le-ltb}
use Rattle.std.proofs.lemmas.List.Sums.{sum_by-cons, take_while-cons}
use Rattle.k_optab.specs.declared.node.Node.{Node}
use Rattle.k_optab.specs.Meaning.{children, paths, serial, serial_of, works}
use Rattle.k_dict_entries.specs.Trees.{Label, Forest, Tree, alone, bare, grown, list_of, node_at, nodes_of}
use Rattle.k_selfpar.specs.Rows.{of_region}
use Rattle.k_selfpar.specs.Sums.{one, outer_paths, outer_works, path, serial_in, sum_of, within, work}

-- what the instances of a region give together, one after the other
abbrev pub gross : ℕ → (Node → ℕ) → List Node → ℕ
gross region value [] = 0
gross region value (n ∷ nodes) = (if n.region == region then value n else 0) + gross region value nodes

sum_with : (b : Bool) (value : Node → ℕ) (n : Node) (chosen : List Node) (total : ℕ) → sum_by value chosen ≡ total
    → sum_by value (cond b (n ∷ chosen) chosen) ≡ (if b then value n else 0) + total
sum_with true value n chosen total same = sum_by-cons value n chosen ∙ ap (λ t. value n + t) same
sum_with false value n chosen total same = omega arith

pub sum_is_gross : (region : ℕ) (value : Node → ℕ) (nodes : List Node) → sum_by value (of_region region nodes) ≡ gross region value nodes
sum_is_gross region value [] = refl
sum_is_gross region value (n ∷ nodes) =
    sum_with (n.region == region) value n (of_region region nodes) (gross region value nodes) (sum_is_gross region value nodes)

length_with : (b : Bool) (n : Node) (chosen : List Node) (total : ℕ) → length chosen ≡ total → length (cond b (n ∷ chosen) chosen) ≡ (if b then 1 else 0) + total
length_with true n chosen total same = omega arith
length_with false n chosen total same = omega arith

pub length_is_gross : (region : ℕ) (nodes : List Node) → length (of_region region nodes) ≡ gross region (λ n. 1) nodes
length_is_gross region [] = refl
length_is_gross region (n ∷ nodes) =
    length_with (n.region == region) n (of_region region nodes) (gross region (λ m. 1) nodes) (length_is_gross region nodes)

gross-append : (region : ℕ) (value : Node → ℕ) (xs ys : List Node) → gross region value (xs ++ ys) ≡ gross region value xs + gross region value ys
gross-append region value [] ys = omega arith
gross-append region value (n ∷ xs) ys = let e = gross-append region value xs ys in omega arith

pub gross_is_sum : (region : ℕ) (value : Node → ℕ) (v : Label → ℕ) → ((depth : ℕ) (l : Label) → value (node_at depth l) ≡ v l) → (f : Forest) (depth : ℕ)
    → gross region value (nodes_of depth f) ≡ sum_of (within region (λ l i. v l)) f
gross_is_sum region value v same bare depth = refl
gross_is_sum region value v same (grown label inner later) depth =
    ap (λ x. (if label.region == region then x else 0) + gross region value (nodes_of (depth + 1) inner ++ nodes_of depth later)) (same depth label)
    ∙ ap (λ x. (if label.region == region then v label else 0) + x)
    (gross-append region value (nodes_of (depth + 1) inner) (nodes_of depth later)
    ∙ ap (λ x. x + gross region value (nodes_of depth later)) (gross_is_sum region value v same inner (depth + 1))
    ∙ ap (λ x. sum_of (within region (λ l i. v l)) inner + x) (gross_is_sum region value v same later depth))

-- how many instances of a region there are, and their works and paths together
pub instances_are : (region : ℕ) (t : Tree) → length (of_region region (list_of t)) ≡ sum_of (within region one) (alone t)
instances_are region t = length_is_gross region (list_of t) ∙ gross_is_sum region (λ n. 1) (λ l. 1) (λ d l. refl) (alone t) 0

pub works_are : (region : ℕ) (t : Tree) → works (of_region region (list_of t)) ≡ sum_of (within region work) (alone t)
works_are region t =
    sum_is_gross region (λ n. n.work) (list_of t) ∙ gross_is_sum region (λ n. n.work) (λ l. l.work) (λ d l. refl) (alone t) 0

pub paths_are : (region : ℕ) (t : Tree) → paths (of_region region (list_of t)) ≡ sum_of (within region path) (alone t)
paths_are region t =
    sum_is_gross region (λ n. n.path) (list_of t) ∙ gross_is_sum region (λ n. n.path) (λ l. l.path) (λ d l. refl) (alone t) 0

-- a list begins with no node of this depth or deeper
abbrev pub Stops : ℕ → List Node → Type 0
Stops depth [] = Unit {0}
Stops depth (n ∷ nodes) = n.depth < depth

stops_deeper : (depth : ℕ) (f : Forest) (tail : List Node) → Stops depth tail → Stops (depth + 1) (nodes_of depth f ++ tail)
stops_deeper depth bare [] stops = tt
stops_deeper depth bare (n ∷ tail) stops = let here : n.depth < depth = stops in omega arith
stops_deeper depth (grown label inner later) tail stops = omega arith

-- the outermost instances of a forest
abbrev outermost : ℕ → Forest → List Node
outermost depth bare = []
outermost depth (grown label inner later) = node_at depth label ∷ outermost depth later

-- all instances of a forest are deeper than those around it
all_deeper : (d e : ℕ) → d < e → (f : Forest) (xs : List Node)
    → take_while (λ n. nat_lt d n.depth) (nodes_of e f ++ xs) ≡ nodes_of e f ++ take_while (λ n. nat_lt d n.depth) xs
all_deeper d e lt bare xs = refl
all_deeper d e lt (grown label inner later) xs =
    take_while-cons (λ (n : Node). nat_lt d n.depth) (node_at e label) ((nodes_of (e + 1) inner ++ nodes_of e later) ++ xs)
    ∙ cond-true (nat_lt d e) (node_at e label ∷ take_while (λ n. nat_lt d n.depth) ((nodes_of (e + 1) inner ++ nodes_of e later) ++ xs)) [] (lt-ltb d e lt)
    ∙ ap (λ l. node_at e label ∷ l)
    (ap (λ l. take_while (λ n. nat_lt d n.depth) l) (append_assoc (nodes_of (e + 1) inner) (nodes_of e later) xs)
    ∙ all_deeper d (e + 1) (omega arith) inner (nodes_of e later ++ xs)
    ∙ ap (λ l. nodes_of (e + 1) inner ++ l) (all_deeper d e lt later xs)
    ∙ sym (append_assoc (nodes_of (e + 1) inner) (nodes_of e later) (take_while (λ n. nat_lt d n.depth) xs)))

none_taken : (d : ℕ) (tail : List Node) → Stops (d + 1) tail → take_while (λ n. nat_lt d n.depth) tail ≡ []
none_taken d [] stops = refl
none_taken d (n ∷ tail) stops =
    let here : n.depth < d + 1 = stops in
    take_while-cons (λ (m : Node). nat_lt d m.depth) n tail
    ∙ cond-false (nat_lt d n.depth) (n ∷ take_while (λ m. nat_lt d m.depth) tail) [] (le-ltb d n.depth (omega arith))

-- of the instances of a forest that lies deeper none has this depth
none_so_deep : (d e : ℕ) → d < e → (f : Forest) (xs : List Node) → filter (λ n. n.depth == d) (nodes_of e f ++ xs) ≡ filter (λ n. n.depth == d) xs
none_so_deep d e lt bare xs = refl
none_so_deep d e lt (grown label inner later) xs =
    let rest : List Node = (nodes_of (e + 1) inner ++ nodes_of e later) ++ xs in
    cond-false (e == d) (node_at e label ∷ filter (λ n. n.depth == d) rest) (filter (λ n. n.depth == d) rest) (ne_eqb e d (λ same. absurd (omega arith)))
    ∙ ap (λ l. filter (λ n. n.depth == d) l) (append_assoc (nodes_of (e + 1) inner) (nodes_of e later) xs)
    ∙ none_so_deep d (e + 1) (omega arith) inner (nodes_of e later ++ xs)
    ∙ none_so_deep d e lt later xs

-- those that have its depth are the outermost
outer_are : (d : ℕ) (f : Forest) (xs : List Node) → filter (λ n. n.depth == d) (nodes_of d f ++ xs) ≡ outermost d f ++ filter (λ n. n.depth == d) xs
outer_are d bare xs = refl
outer_are d (grown label inner later) xs =
    let rest : List Node = (nodes_of (d + 1) inner ++ nodes_of d later) ++ xs in
    cond-true (d == d) (node_at d label ∷ filter (λ n. n.depth == d) rest) (filter (λ n. n.depth == d) rest) (eq-eqb d d refl)
    ∙ ap (λ l. node_at d label ∷ l)
    (ap (λ l. filter (λ n. n.depth == d) l) (append_assoc (nodes_of (d + 1) inner) (nodes_of d later) xs)
    ∙ none_so_deep d (d + 1) (omega arith) inner (nodes_of d later ++ xs)
    ∙ outer_are d later xs)

-- an instance's children are the outermost of those within it
children_are : (depth : ℕ) (label : Label) (inner : Forest) (tail : List Node) → Stops (depth + 1) tail
    → children (node_at depth label) (nodes_of (depth + 1) inner ++ tail) ≡ outermost (depth + 1) inner
children_are depth label inner tail stops =
    ap (λ l. filter (λ n. n.depth == depth + 1) l)
    (all_deeper depth (depth + 1) (omega arith) inner tail ∙ ap (λ l. nodes_of (depth + 1) inner ++ l) (none_taken depth tail stops))
    ∙ outer_are (depth + 1) inner []
    ∙ append-nil (outermost (depth + 1) inner)

outer_paths_are : (depth : ℕ) (f : Forest) → paths (outermost depth f) ≡ outer_paths f
outer_paths_are depth bare = refl
outer_paths_are depth (grown label inner later) =
    sum_by-cons (λ (n : Node). n.path) (node_at depth label) (outermost depth later) ∙ ap (λ x. label.path + x) (outer_paths_are depth later)

outer_works_are : (depth : ℕ) (f : Forest) → works (outermost depth f) ≡ outer_works f
outer_works_are depth bare = refl
outer_works_are depth (grown label inner later) =
    sum_by-cons (λ (n : Node). n.work) (node_at depth label) (outermost depth later) ∙ ap (λ x. label.work + x) (outer_works_are depth later)

serial_is : (depth : ℕ) (label : Label) (inner : Forest) (tail : List Node) → Stops (depth + 1) tail
    → serial (node_at depth label) (nodes_of (depth + 1) inner ++ tail) ≡ serial_in label inner
serial_is depth label inner tail stops =
    ap (λ l. paths l + (label.work - works l)) (children_are depth label inner tail stops)
    ∙ ap (λ x. x + (label.work - works (outermost (depth + 1) inner))) (outer_paths_are (depth + 1) inner)
    ∙ ap (λ x. outer_paths inner + (label.work - x)) (outer_works_are (depth + 1) inner)

pub serial_of_forest : (region : ℕ) (f : Forest) (depth : ℕ) (tail : List Node) → Stops depth tail
    → serial_of region (nodes_of depth f ++ tail) ≡ sum_of (within region serial_in) f + serial_of region tail
serial_of_forest region bare depth tail stops = omega arith
serial_of_forest region (grown label inner later) depth tail stops =
    let rest : List Node = nodes_of depth later ++ tail in
    let split : (nodes_of (depth + 1) inner ++ nodes_of depth later) ++ tail ≡ nodes_of (depth + 1) inner ++ rest =
    append_assoc (nodes_of (depth + 1) inner) (nodes_of depth later) tail in
    let deeper : Stops (depth + 1) rest = stops_deeper depth later tail stops in
    ap (λ l. (if label.region == region then serial (node_at depth label) l else 0) + serial_of region l) split
    ∙ ap (λ x. (if label.region == region then x else 0) + serial_of region (nodes_of (depth + 1) inner ++ rest)) (serial_is depth label inner rest deeper)
    ∙ ap (λ x. within region serial_in label inner + x) (serial_of_forest region inner (depth + 1) rest deeper)
    ∙ ap (λ x. within region serial_in label inner + (sum_of (within region serial_in) inner + x)) (serial_of_forest region later depth tail stops)
    ∙ grouped (within region serial_in label inner) (sum_of (within region serial_in) inner) (sum_of (within region serial_in) later) (serial_of region tail)
  where
    grouped : (a b c d : ℕ) → a + (b + (c + d)) ≡ (a + (b + c)) + d
    grouped a b c d = omega arith

-- the time that a region's instances would take
pub serials_are : (region : ℕ) (t : Tree) → serial_of region (list_of t) ≡ sum_of (within region serial_in) (alone t)
serials_are region t =
    ap (λ l. serial_of region l) (sym (append-nil (list_of t)))
    ∙ serial_of_forest region (alone t) 0 [] tt
    ∙ nothing_behind (sum_of (within region serial_in) (alone t))
  where
    nothing_behind : (x : ℕ) → x + 0 ≡ x
    nothing_behind x = omega arith
