-- The list of a tree is that of no other tree.
use Rattle.std.proofs.Common.{◌≡◌, ℕ, zero, suc, ◌+◌, ◌<◌, List, [], ◌∷◌, ◌++◌, length, get_or, refl, sym, ap, ◌∙◌, subst, arith, append_assoc}
use Rattle.k_optab.specs.declared.node.Node.{Node}
use Rattle.k_dict_entries.specs.Trees.{Label, Forest, Tree, bare, grown, alone, list_of, node_at, nodes_of}

-- a list begins with no node of this depth or deeper
abbrev pub Stops : ℕ → List Node → Type 0
Stops depth [] = Unit {0}
Stops depth (n ∷ nodes) = n.depth < depth

-- what is told of an instance
abbrev pub label_at : Node → Label
label_at n = record { region = n.region; work = n.work; path = n.path }

first_of : (a b : Node) (xs ys : List Node) → a ∷ xs ≡ b ∷ ys → a ≡ b
first_of a b xs ys is = ap (λ l. get_or l 0 a) is

rest_of : (a b : Node) (xs ys : List Node) → a ∷ xs ≡ b ∷ ys → xs ≡ ys
rest_of a b xs ys is = ap tail is
  where
    tail : List Node → List Node
    tail [] = []
    tail (x ∷ l) = l

not_stopped : (depth : ℕ) (label : Label) (more list : List Node) → Stops depth list → list ≡ node_at depth label ∷ more → ⊥
not_stopped depth label more list stops is =
    let P : List Node → Type 0 = Stops depth in let here : depth < depth = subst P is stops in absurd (omega arith)

stops_deeper : (depth : ℕ) (f : Forest) (list : List Node) → Stops depth list → Stops (depth + 1) (nodes_of depth f ++ list)
stops_deeper depth bare [] stops = tt
stops_deeper depth bare (n ∷ list) stops = let here : n.depth < depth = stops in omega arith
stops_deeper depth (grown x i l) list stops = omega arith

both_are : (depth : ℕ) (f g : Forest) (xs ys : List Node) → Stops depth xs → Stops depth ys → nodes_of depth f ++ xs ≡ nodes_of depth g ++ ys
    → (f ≡ g) × (xs ≡ ys)
both_are depth bare bare xs ys one other is = (refl, is)
both_are depth bare (grown y j m) xs ys one other is =
    absurd (not_stopped depth y ((nodes_of (depth + 1) j ++ nodes_of depth m) ++ ys) xs one is)
both_are depth (grown x i l) bare xs ys one other is =
    absurd (not_stopped depth x ((nodes_of (depth + 1) i ++ nodes_of depth l) ++ xs) ys other (sym is))
both_are depth (grown x i l) (grown y j m) xs ys one other is =
    let head : node_at depth x ≡ node_at depth y =
    first_of (node_at depth x) (node_at depth y) ((nodes_of (depth + 1) i ++ nodes_of depth l) ++ xs) ((nodes_of (depth + 1) j ++ nodes_of depth m) ++ ys) is in
    let label : x ≡ y = ap label_at head in
    let tails : nodes_of (depth + 1) i ++ (nodes_of depth l ++ xs) ≡ nodes_of (depth + 1) j ++ (nodes_of depth m ++ ys) =
    sym (append_assoc (nodes_of (depth + 1) i) (nodes_of depth l) xs)
    ∙ rest_of (node_at depth x) (node_at depth y) ((nodes_of (depth + 1) i ++ nodes_of depth l) ++ xs) ((nodes_of (depth + 1) j ++ nodes_of depth m) ++ ys) is
    ∙ append_assoc (nodes_of (depth + 1) j) (nodes_of depth m) ys in
    let inner = both_are (depth + 1) i j (nodes_of depth l ++ xs) (nodes_of depth m ++ ys) (stops_deeper depth l xs one) (stops_deeper depth m ys other) tails in
    let later = both_are depth l m xs ys one other inner.1 in
    (λ k. grown (label k) (inner.0 k) (later.0 k), later.1)

append_none : (list : List Node) → list ++ [] ≡ list
append_none [] = refl
append_none (n ∷ list) = ap (λ l. n ∷ l) (append_none list)

-- trees with one list are one
pub same_tree : (s t : Tree) → list_of s ≡ list_of t → s ≡ t
same_tree s t is =
    let one = both_are 0 (alone s) (alone t) [] [] tt tt (append_none (list_of s) ∙ is ∙ sym (append_none (list_of t))) in
    ap first one.0
  where
    first : Forest → Tree
    first bare = record { label = s.label; inner = bare }
    first (grown x i l) = record { label = x; inner = i }
