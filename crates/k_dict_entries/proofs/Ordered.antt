-- A list of nodes in order of entry is that of a tree.
use Rattle.std.proofs.Common.{◌≡◌, ℕ, zero, suc, ◌+◌, ◌-◌, ◌≤◌, List, [], ◌∷◌, ◌++◌, length, refl, sym, ap, ◌∙◌, arith, append_assoc}
use Rattle.k_optab.specs.declared.node.Node.{Node}
use Rattle.k_dict_entries.specs.Trees.{GoDeeper, IsInOrder, Label, Forest, Tree, bare, grown, list_of, node_at, nodes_of}

-- the instances of forests, the deepest first, of which the last has depth 1
abbrev pub down : List Forest → List Node
down [] = []
down (f ∷ forests) = nodes_of (length forests + 1) f ++ down forests

-- forests with so many empty ones before them
abbrev pub padded : ℕ → List Forest → List Forest
padded zero forests = forests
padded (suc n) forests = bare ∷ padded n forests

down-padded : (n : ℕ) (forests : List Forest) → down (padded n forests) ≡ down forests
down-padded zero forests = refl
down-padded (suc n) forests = down-padded n forests

length-padded : (n : ℕ) (forests : List Forest) → length (padded n forests) ≡ n + length forests
length-padded zero forests = omega arith
length-padded (suc n) forests = let rest = length-padded n forests in omega arith

-- these nodes are those of forests, the first of which lies one below this depth
abbrev pub AreOfForests : ℕ → List Node → Type 0
AreOfForests before nodes = (forests : List Forest) × (length forests ≡ before + 1) × (nodes ≡ down forests)

-- what is told of an instance
abbrev pub label_at : Node → Label
label_at n = record { region = n.region; work = n.work; path = n.path }

regroup : {A : Type 0} (a : A) (b c d : List A) → a ∷ (b ++ (c ++ d)) ≡ (a ∷ (b ++ c)) ++ d
regroup a b c d = ap (λ l. a ∷ l) (sym (append_assoc b c d))

one_more : (before : ℕ) (n : Node) (nodes : List Node) → 1 ≤ n.depth → n.depth ≤ before + 1 → (forests : List Forest) → length forests ≡ n.depth + 1
    → nodes ≡ down forests → AreOfForests before (n ∷ nodes)
one_more before n nodes low high [] count is = absurd (omega arith)
one_more before n nodes low high (f ∷ []) count is = absurd (omega arith)
one_more before n nodes low high (f ∷ g ∷ forests) count is =
    let depth : n.depth ≡ length forests + 1 = omega arith in
    let inner : suc (length forests) + 1 ≡ (length forests + 1) + 1 = omega arith in
    let x : Label = label_at n in
    let fewer : List Forest = grown x f g ∷ forests in
    let size = length-padded (before + 1 - n.depth) fewer in (
      padded (before + 1 - n.depth) fewer,
      omega arith,
      ap (λ l. n ∷ l) (is ∙ ap (λ d. nodes_of d f ++ (nodes_of (length forests + 1) g ++ down forests)) inner)
          ∙ ap (λ d. node_at d x ∷ (nodes_of ((length forests + 1) + 1) f ++ (nodes_of (length forests + 1) g ++ down forests))) depth
          ∙ regroup (node_at (length forests + 1) x) (nodes_of ((length forests + 1) + 1) f) (nodes_of (length forests + 1) g) (down forests)
          ∙ sym (down-padded (before + 1 - n.depth) fewer),
    )

are_of_forests : (before : ℕ) (nodes : List Node) → GoDeeper before nodes → AreOfForests before nodes
are_of_forests before [] deeper =
    let size = length-padded (before + 1) [] in (padded (before + 1) [], omega arith, sym (down-padded (before + 1) []))
are_of_forests before (n ∷ nodes) deeper =
    let rest = are_of_forests n.depth nodes deeper.2 in one_more before n nodes deeper.0 deeper.1 rest.0 rest.1 rest.2

whole : (n : Node) (nodes : List Node) → n.depth ≡ 0 → (forests : List Forest) → length forests ≡ 0 + 1 → nodes ≡ down forests
    → (t : Tree) × (n ∷ nodes ≡ list_of t)
whole n nodes top [] count is = absurd (omega arith)
whole n nodes top (f ∷ g ∷ forests) count is = absurd (omega arith)
whole n nodes top (f ∷ []) count is =
    (record { label = label_at n; inner = f }, ap (λ d. node_at d (label_at n) ∷ nodes) top ∙ ap (λ l. node_at 0 (label_at n) ∷ l) is)

-- there is a tree of which these nodes are the list
pub is_of_tree : (nodes : List Node) → IsInOrder nodes → (t : Tree) × (nodes ≡ list_of t)
is_of_tree [] order = absurd order
is_of_tree (n ∷ nodes) order = let rest = are_of_forests 0 nodes order.1 in whole n nodes order.0 rest.0 rest.1 rest.2
