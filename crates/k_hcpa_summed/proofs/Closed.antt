-- The closed instances of forests: behind an operation, an entry and an exit.
use Rattle.std.proofs.Common.{◌≡◌, ℕ, ◌+◌, ◌<◌, ◌≤◌, List, [], ◌∷◌, ◌++◌, length, refl, sym, ap, ◌∙◌, subst, arith, append_assoc, append-nil}
use Rattle.std.specs.Prelude.{All}
use Rattle.k_optab.specs.declared.closed.Closed.{Closed}
use Rattle.k_optab.specs.declared.node.Node.{Node}
use Rattle.k_optab.specs.Events.{Operation}
use Rattle.k_optab.specs.Open.{Open}
use Rattle.k_optab.specs.Tree.{EachWith, IsNodeOf}
use Rattle.k_optab.proofs.History.{longer_keeps_heaviest, longer_keeps_work}
use Rattle.k_dict_entries.specs.Trees.{Label, Forest, bare, grown, node_at, nodes_of}
use Rattle.k_dict_entries.proofs.Forests.{beside}
use Rattle.k_hcpa_meaning.specs.Summed.{AreClosedIn}
use Rattle.k_hcpa_summed.proofs.Each.{Each, each_of, all_of, each_front, each_back, each_both, each_map, with_both, with_each}

-- an instance's node stays its node where operations follow
node_stays : (ops more : List Operation) (i : Closed) (n : Node) → i.end ≤ length ops → IsNodeOf ops i n → IsNodeOf (ops ++ more) i n
node_stays ops more i n within is = record {
  region = is.region;
  depth = is.depth;
  work = is.work ∙ sym (longer_keeps_work ops more i.start i.end within);
  path = longer_keeps_heaviest ops more i.start i.end n.path within is.path;
}

nodes_stay : (ops more : List Operation) (closed : List Closed) (nodes : List Node) → Each (λ i. i.end ≤ length ops) closed
    → EachWith (IsNodeOf ops) closed nodes → EachWith (IsNodeOf (ops ++ more)) closed nodes
nodes_stay ops more closed nodes within are =
    with_each (λ i. i.end ≤ length ops) (IsNodeOf ops) (IsNodeOf (ops ++ more)) (node_stays ops more) closed nodes within are

-- behind operations
pub closed_stay : (ops more : List Operation) (opens : List Open) (closed : List Closed) (forests : List Forest) → Each (λ i. i.end ≤ length ops) closed
    → AreClosedIn ops opens closed forests → AreClosedIn (ops ++ more) opens closed forests
closed_stay ops more [] closed [] within are = are
closed_stay ops more (o ∷ opens) closed [] within are = are
closed_stay ops more [] closed (f ∷ []) within are = nodes_stay ops more closed (nodes_of 0 f) within are
closed_stay ops more [] closed (f ∷ g ∷ outer) within are = are
closed_stay ops more (o ∷ opens) closed (f ∷ outer) within are =
    let P : List Closed → Type 0 = Each (λ i. i.end ≤ length ops) in
    let both = subst P are.2 within in (
      are.0,
      are.1,
      are.2,
      are.3,
      record {
        entered = are.4.entered;
        nodes = nodes_stay ops more are.1 (nodes_of (length outer) f) (each_back (λ i. i.end ≤ length ops) are.0 are.1 both) are.4.nodes;
      },
      closed_stay ops more opens are.0 outer (each_front (λ i. i.end ≤ length ops) are.0 are.1 both) are.5,
    )

-- behind the entry of an instance that has a level
pub closed_entered : (ops : List Operation) (o : Open) (opens : List Open) (closed : List Closed) (forests : List Forest)
    → Each (λ i. i.exit < o.enter) closed → AreClosedIn ops opens closed forests → AreClosedIn ops (o ∷ opens) closed (bare ∷ forests)
closed_entered ops o opens closed forests left are = (
  closed,
  [],
  sym (append-nil closed),
  all_of (λ i. i.exit < o.enter) closed left,
  record { entered = all_of (λ i. o.enter < i.enter) [] tt; nodes = tt },
  are,
)

-- a list is split in one way into what was entered before a place and what was entered behind it
pub one_split : (n : ℕ) (before inside front back : List Closed) → before ++ inside ≡ front ++ back → Each (λ i. i.enter < n) before → Each (λ i. n < i.enter) inside
    → Each (λ i. i.enter < n) front → Each (λ i. n < i.enter) back → (before ≡ front) × (inside ≡ back)
one_split n [] inside [] back is e1 e2 e3 e4 = (refl, is)
one_split n [] [] (y ∷ front) back is e1 e2 e3 e4 = cc
one_split n [] (x ∷ inside) (y ∷ front) back is e1 e2 e3 e4 =
    let same : x ≡ y = cc in
    let number : x.enter ≡ y.enter = ap (λ i. i.enter) same in
    let one : n < x.enter = e2.0 in let other : y.enter < n = e3.0 in absurd (omega arith)
one_split n (x ∷ before) inside [] [] is e1 e2 e3 e4 = cc
one_split n (x ∷ before) inside [] (y ∷ back) is e1 e2 e3 e4 =
    let same : x ≡ y = cc in
    let number : x.enter ≡ y.enter = ap (λ i. i.enter) same in
    let one : x.enter < n = e1.0 in let other : n < y.enter = e4.0 in absurd (omega arith)
one_split n (x ∷ before) inside (y ∷ front) back is e1 e2 e3 e4 =
    let same : x ≡ y = cc in
    let rest : before ++ inside ≡ front ++ back = cc in
    let both = one_split n before inside front back rest e1.1 e2 e3.1 e4 in
    ((λ k. same k ∷ both.0 k), both.1)

-- what is left before a place was entered before it
pub left_before : (n : ℕ) (list : List Closed) → Each (λ j. j.enter < j.exit) list → Each (λ j. j.exit < n) list → Each (λ j. j.enter < n) list
left_before n [] later left = tt
left_before n (j ∷ list) later left =
    let first : j.enter < j.exit = later.0 in let second : j.exit < n = left.0 in (omega arith, left_before n list later.1 left.1)

-- the nodes of forests side by side
nodes_beside : (depth : ℕ) (f g : Forest) → nodes_of depth (beside f g) ≡ nodes_of depth f ++ nodes_of depth g
nodes_beside depth bare g = refl
nodes_beside depth (grown x i l) g =
    ap (λ rest. node_at depth x ∷ (nodes_of (depth + 1) i ++ rest)) (nodes_beside depth l g)
    ∙ ap (λ rest. node_at depth x ∷ rest) (sym (append_assoc (nodes_of (depth + 1) i) (nodes_of depth l) (nodes_of depth g)))

-- a tree more is the last of those of the forest around it
abbrev pub with_tree : Label → Forest → List Forest → List Forest
with_tree label f [] = []
with_tree label f (g ∷ outer) = beside g (grown label f bare) ∷ outer

nodes_with_tree : (depth : ℕ) (label : Label) (f g : Forest)
    → nodes_of depth (beside g (grown label f bare)) ≡ nodes_of depth g ++ node_at depth label ∷ nodes_of (depth + 1) f
nodes_with_tree depth label f g =
    nodes_beside depth g (grown label f bare) ∙ ap (λ rest. nodes_of depth g ++ node_at depth label ∷ rest) (append-nil (nodes_of (depth + 1) f))

-- an instance with those within it stands behind those of a forest
put_behind : (ops : List Operation) (depth : ℕ) (label : Label) (f g : Forest) (around inside : List Closed) (i : Closed)
    → EachWith (IsNodeOf ops) around (nodes_of depth g) → IsNodeOf ops i (node_at depth label) → EachWith (IsNodeOf ops) inside (nodes_of (depth + 1) f)
    → EachWith (IsNodeOf ops) (around ++ i ∷ inside) (nodes_of depth (beside g (grown label f bare)))
put_behind ops depth label f g around inside i one this other =
    let P : List Node → Type 0 = λ nodes. EachWith (IsNodeOf ops) (around ++ i ∷ inside) nodes in
    subst P (sym (nodes_with_tree depth label f g))
    (with_both (IsNodeOf ops) around (nodes_of depth g) (i ∷ inside) (node_at depth label ∷ nodes_of (depth + 1) f) one (this, other))

-- what is so where the innermost open instance that has a level is left
pub record Leaves (ops : List Operation) (o : Open) (closed now : List Closed) (i : Closed) : Type 0 where
  pub before : List Closed
  pub inside : List Closed
  pub so_far : closed ≡ before ++ inside
  pub after : now ≡ before ++ i ∷ inside
  pub earlier : Each (λ j. j.enter < o.enter) before
  pub within : Each (λ j. o.enter < j.enter) inside
  pub enter : i.enter ≡ o.enter

module _ (ops : List Operation) (o : Open) (closed now : List Closed) (i : Closed) (leaves : Leaves ops o closed now i) (label : Label) (f : Forest) where
  -- the closed ones before it and those within it are told by its place alone
  parts : (before inside : List Closed) → closed ≡ before ++ inside → Each (λ j. j.enter < o.enter) before → All (λ j. o.enter < j.enter) inside
      → (leaves.before ≡ before) × (leaves.inside ≡ inside)
  parts before inside is left entered =
      one_split o.enter leaves.before leaves.inside before inside (sym leaves.so_far ∙ is) leaves.earlier leaves.within left (each_of (λ j. o.enter < j.enter) inside entered)

  -- behind its exit
  pub closed_left : (opens : List Open) (outer : List Forest) → Each (λ j. j.enter < j.exit) closed → Each (λ (x : Open). x.enter < o.enter) opens
      → ((depth : ℕ) → length outer ≡ depth + 1 → IsNodeOf ops i (node_at depth label)) → AreClosedIn ops (o ∷ opens) closed (f ∷ outer)
      → AreClosedIn ops opens now (with_tree label f outer)
  closed_left [] [] later around this are = are.5
  closed_left (x ∷ opens) [] later around this are = are.5
  closed_left [] (g ∷ h ∷ outer) later around this are = are.5
  closed_left [] (g ∷ []) later around this are =
      let L : List Closed → Type 0 = Each (λ j. j.enter < j.exit) in
      let kept = each_front (λ j. j.enter < j.exit) are.0 are.1 (subst L are.2 later) in
      let exits = each_of (λ j. j.exit < o.enter) are.0 are.3 in
      let split = parts are.0 are.1 are.2 (left_before o.enter are.0 kept exits) are.4.entered in
      let place : now ≡ are.0 ++ i ∷ are.1 = leaves.after ∙ ap (λ b. b ++ i ∷ leaves.inside) split.0 ∙ ap (λ n. are.0 ++ i ∷ n) split.1 in
      let P : List Closed → Type 0 = λ list. EachWith (IsNodeOf ops) list (nodes_of 0 (beside g (grown label f bare))) in
      subst P (sym place) (put_behind ops 0 label f g are.0 are.1 i are.5 (this 0 refl) are.4.nodes)
  closed_left (x ∷ opens) (g ∷ outer) later around this are =
      let L : List Closed → Type 0 = Each (λ j. j.enter < j.exit) in
      let kept = each_front (λ j. j.enter < j.exit) are.0 are.1 (subst L are.2 later) in
      let exits = each_of (λ j. j.exit < o.enter) are.0 are.3 in
      let split = parts are.0 are.1 are.2 (left_before o.enter are.0 kept exits) are.4.entered in
      let deep : length (g ∷ outer) ≡ length outer + 1 = omega arith in
      let D : ℕ → Type 0 = λ d. EachWith (IsNodeOf ops) are.1 (nodes_of d f) in
      let place : now ≡ are.5.0 ++ (are.5.1 ++ i ∷ are.1) =
      leaves.after ∙ ap (λ b. b ++ i ∷ leaves.inside) (split.0 ∙ are.5.2) ∙ ap (λ n. (are.5.0 ++ are.5.1) ++ i ∷ n) split.1
      ∙ append_assoc are.5.0 are.5.1 (i ∷ are.1) in
      let first : x.enter < o.enter = around.0 in
      let start : i.enter ≡ o.enter = leaves.enter in (
        are.5.0,
        are.5.1 ++ i ∷ are.1,
        place,
        are.5.3,
        record {
          entered = all_of (λ j. x.enter < j.enter) (are.5.1 ++ i ∷ are.1)
              (each_both (λ j. x.enter < j.enter) are.5.1 (i ∷ are.1) (each_of (λ j. x.enter < j.enter) are.5.1 are.5.4.entered)
              (omega arith, each_map (λ j. o.enter < j.enter) (λ j. x.enter < j.enter) (λ j more. omega arith) are.1 (each_of (λ j. o.enter < j.enter) are.1 are.4.entered)));
          nodes = put_behind ops (length outer) label f g are.5.1 are.1 i are.5.4.nodes (this (length outer) deep) (subst D deep are.4.nodes);
        },
        are.5.5,
      )
