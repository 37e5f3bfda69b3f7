-- The tree of a run: the nodes of a run whose events are one instance with all others within it are those of a tree.
use Rattle.std.proofs.Common.{◌≡◌, ℕ, suc, ◌+◌, ◌-◌, ◌<◌, ◌≤◌, inl, inr, List, [], ◌∷◌, ◌++◌, length, Some, refl, sym, ap, ◌∙◌, subst, arith, append_assoc, append-nil, length-append, lt-ltb, le-ltb}
use Rattle.std.specs.Prelude.{filter, nat_lt}
use Rattle.std.proofs.lemmas.Bool.{cases_lt, cond-true, cond-false}
use Rattle.std.proofs.lemmas.List.Elements.{filter-append}
use Rattle.k_optab.specs.declared.closed.Closed.{Closed}
use Rattle.k_optab.specs.declared.event.Event.{Event}
use Rattle.k_optab.specs.declared.event.Event.TheVariants.{Op, Enter, Exit}
use Rattle.k_optab.specs.declared.node.Node.{Node}
use Rattle.k_optab.specs.Entered.{EnterBelow}
use Rattle.k_optab.specs.Events.{Operation, operations, total_latency}
use Rattle.k_optab.specs.Graph.{work}
use Rattle.k_optab.specs.Instances.{Balanced, nothing, operation, instance, closed_from, instance_of, tracked, until_exit}
use Rattle.k_optab.specs.Tree.{EachWith, IsNodeOf}
use Rattle.k_optab.proofs.Intervals.{work_at_most_total}
use Rattle.k_optab.proofs.Matching.{balanced_to_exit}
use Rattle.k_optab.proofs.Trees.{operations-append}
use Rattle.k_dict_entries.specs.Trees.{Forest, Tree, alone, bare, grown, height, list_of, node_at, nodes_of}
use Rattle.k_dict_entries.proofs.Lists.{label_at}

-- each instance of a forest is of one of so many regions, and has at most so much work
abbrev pub AreWithin : ℕ → ℕ → Forest → Type 0
AreWithin count most bare = Unit {0}
AreWithin count most (grown x i l) = (x.region < count) × (x.work ≤ most) × AreWithin count most i × AreWithin count most l

-- these nodes are those of a forest whose outermost instances have this depth, and none as great a depth as the limit
record AreGrown (count most limit depth : ℕ) (nodes : List Node) : Type 0 where
  forest : Forest
  is : nodes ≡ nodes_of depth forest
  levels : height forest ≤ limit - depth
  within : AreWithin count most forest

-- these nodes are those of a tree whose root is of this region
pub record IsGrown (count most limit main : ℕ) (nodes : List Node) : Type 0 where
  pub tree : Tree
  pub is : nodes ≡ list_of tree
  pub region : tree.label.region ≡ main
  pub levels : height (alone tree) ≤ limit
  pub within : AreWithin count most (alone tree)

-- what goes with a list that two lists make
each_split : {A B : Type 0} (R : A → B → Type 0) (xs ys : List A) (zs : List B) → EachWith R (xs ++ ys) zs
    → (us : List B) × (vs : List B) × (zs ≡ us ++ vs) × EachWith R xs us × EachWith R ys vs
each_split R [] ys zs each = ([], zs, refl, tt, each)
each_split R (x ∷ xs) ys [] each = absurd each
each_split {A} {B} R (x ∷ xs) ys (z ∷ zs) each =
    let rest : (us : List B) × (vs : List B) × (zs ≡ us ++ vs) × EachWith R xs us × EachWith R ys vs = each_split R xs ys zs each.1 in
    (z ∷ rest.0, rest.1, ap (λ l. z ∷ l) rest.2, (each.0, rest.3), rest.4)

pub enter_split : (count : ℕ) (xs ys : List Event) → EnterBelow count (xs ++ ys) → EnterBelow count xs × EnterBelow count ys
enter_split count [] ys below = (tt, below)
enter_split count (Op class latency sources place ∷ xs) ys below = enter_split count xs ys below
enter_split count (Enter region ∷ xs) ys below = let rest = enter_split count xs ys below.1 in ((below.0, rest.0), rest.1)
enter_split count (Exit ∷ xs) ys below = enter_split count xs ys below

module _ (ops : List Operation) (count limit : ℕ) where
  -- those that are tracked
  abbrev tracks : List Closed → List Closed
  tracks list = filter (λ i. nat_lt i.depth limit) list

  -- whatever nodes the tracked ones of these instances have, they are those of a forest
  record Grows (depth : ℕ) (list : List Closed) : Type 0 where
    none : limit ≤ depth → tracks list ≡ []
    some : (nodes : List Node) → EachWith (IsNodeOf ops) (tracks list) nodes → AreGrown count (total_latency ops) limit depth nodes

  no_nodes : (depth : ℕ) (nodes : List Node) → EachWith (IsNodeOf ops) [] nodes → AreGrown count (total_latency ops) limit depth nodes
  no_nodes depth [] each = record { forest = bare; is = refl; levels = omega arith; within = tt }
  no_nodes depth (n ∷ nodes) each = absurd each

  one_node : (depth : ℕ) (i : Closed) → depth < limit → i.depth ≡ depth → i.region < count → (inner later : List Closed) → Grows (depth + 1) inner → Grows depth later
      → (nodes : List Node) → EachWith (IsNodeOf ops) (i ∷ (tracks inner ++ tracks later)) nodes → AreGrown count (total_latency ops) limit depth nodes
  one_node depth i low at named inner later one two [] each = absurd each
  one_node depth i low at named inner later one two (n ∷ nodes) each =
      let parts = each_split (IsNodeOf ops) (tracks inner) (tracks later) nodes each.1 in
      let a : AreGrown count (total_latency ops) limit (depth + 1) parts.0 = one.some parts.0 parts.3 in
      let b : AreGrown count (total_latency ops) limit depth parts.1 = two.some parts.1 parts.4 in
      let deep : n.depth ≡ depth = each.0.depth ∙ at in
      let region : n.region ≡ i.region = each.0.region in
      let heavy : n.work ≡ work ops i.start i.end = each.0.work in
      let most : work ops i.start i.end ≤ total_latency ops = work_at_most_total ops i.start i.end in
      let levels : height a.forest ≤ limit - (depth + 1) = a.levels in
      let levels' : height b.forest ≤ limit - depth = b.levels in
      record {
        forest = grown (label_at n) a.forest b.forest;
        is = ap (λ d. node_at d (label_at n) ∷ nodes) deep ∙ ap (λ l. node_at depth (label_at n) ∷ l) (parts.2 ∙ (λ k. a.is k ++ b.is k));
        levels = omega arith;
        within = (omega arith, omega arith, a.within, b.within);
      }

  -- an instance, those within it, and those behind it
  grows_more : (depth : ℕ) (i : Closed) → i.depth ≡ depth → i.region < count → (inner later : List Closed) → Grows (depth + 1) inner → Grows depth later
      → Grows depth (i ∷ (inner ++ later))
  grows_more depth i at named inner later one two = record {
    none = none;
    some = λ nodes each. elim (cases_lt depth limit) [
      | inl low ↦ one_node depth i low at named inner later one two nodes (subst (λ l. EachWith (IsNodeOf ops) l nodes) (kept low) each)
      | inr deep ↦ no_nodes depth nodes (subst (λ l. EachWith (IsNodeOf ops) l nodes) (none deep) each)
    ];
  }
    where
      kept : depth < limit → tracks (i ∷ (inner ++ later)) ≡ i ∷ (tracks inner ++ tracks later)
      kept low =
          cond-true (nat_lt i.depth limit) (i ∷ tracks (inner ++ later)) (tracks (inner ++ later)) (lt-ltb i.depth limit (omega arith))
          ∙ ap (λ l. i ∷ l) (filter-append (λ (j : Closed). nat_lt j.depth limit) inner later)

      none : limit ≤ depth → tracks (i ∷ (inner ++ later)) ≡ []
      none deep =
          cond-false (nat_lt i.depth limit) (i ∷ tracks (inner ++ later)) (tracks (inner ++ later)) (le-ltb i.depth limit (omega arith))
          ∙ filter-append (λ (j : Closed). nat_lt j.depth limit) inner later
          ∙ (λ k. one.none (omega arith) k ++ two.none deep k)

  -- the closed instances of balanced events, and those of what follows behind them
  record Found (first rest : List Event) (before made depth after total : ℕ) : Type 0 where
    list : List Closed
    grows : Grows depth list
    is : closed_from (first ++ rest) before made depth ≡ list ++ closed_from rest after total depth

  found : (first : List Event) → Balanced first → EnterBelow count first → (rest : List Event) (before made depth after total : ℕ)
      → after ≡ before + length first → total ≡ made + length (operations first) → Found first rest before made depth after total
  found _ nothing named rest before made depth after total at number =
      let place : before ≡ after = omega arith in
      let operation : made ≡ total = omega arith in
      record {
        list = [];
        grows = record { none = λ deep. refl; some = no_nodes depth };
        is = ap (λ b. closed_from rest b made depth) place ∙ ap (λ m. closed_from rest after m depth) operation;
      }
  found _ (operation class latency sources place events balanced) named rest before made depth after total at number =
      let more : Found events rest (before + 1) (made + 1) depth after total =
      found events balanced named rest (before + 1) (made + 1) depth after total (omega arith) (omega arith) in
      record { list = more.list; grows = more.grows; is = more.is }
  found _ (instance region inside events within behind) named rest before made depth after total at number =
      let size : length (inside ++ Exit ∷ events) ≡ length inside + suc (length events) = length-append inside (Exit ∷ events) in
      let operation : length (operations (inside ++ Exit ∷ events)) ≡ length (operations inside) + length (operations events) =
      ap length (operations-append inside (Exit ∷ events)) ∙ length-append (operations inside) (operations events) in
      let below = enter_split count inside (Exit ∷ events) named.1 in
      let one : Found inside (Exit ∷ (events ++ rest)) (before + 1) made (depth + 1) (before + 1 + length inside) (made + length (operations inside)) =
      found inside within below.0 (Exit ∷ (events ++ rest)) (before + 1) made (depth + 1) (before + 1 + length inside) (made + length (operations inside)) refl refl in
      let two : Found events rest (before + 1 + length inside + 1) (made + length (operations inside)) depth after total =
      found events behind below.1 rest (before + 1 + length inside + 1) (made + length (operations inside)) depth after total (omega arith) (omega arith) in
      let outer : Closed = record {
        region = region;
        depth = depth;
        enter = before;
        exit = before + 1 + length inside;
        start = made;
        end = made + length (operations inside);
      } in
      let shape : (inside ++ Exit ∷ events) ++ rest ≡ inside ++ Exit ∷ (events ++ rest) = append_assoc inside (Exit ∷ events) rest in
      let left : until_exit (inside ++ Exit ∷ (events ++ rest)) 0 ≡ Some inside = balanced_to_exit (inside ++ Exit ∷ (events ++ rest)) inside (within, (events ++ rest, refl)) in
      let up : (depth + 1) - 1 ≡ depth = omega arith in
      record {
        list = outer ∷ (one.list ++ two.list);
        grows = grows_more depth outer refl named.0 one.list two.list one.grows two.grows;
        is =
            ap (λ l. instance_of region depth before made (until_exit l 0) ++ closed_from l (before + 1) made (depth + 1)) shape
            ∙ (ap (λ o. instance_of region depth before made o ++ closed_from (inside ++ Exit ∷ (events ++ rest)) (before + 1) made (depth + 1)) left
            ∙ ap (λ l. outer ∷ l)
            (one.is
            ∙ (ap (λ d. one.list ++ closed_from (events ++ rest) (before + 1 + length inside + 1) (made + length (operations inside)) d) up
            ∙ (ap (λ l. one.list ++ l) two.is ∙ sym (append_assoc one.list two.list (closed_from rest after total depth))))));
      }

  -- the nodes of one instance and those within it
  one_tree : (main : ℕ) (i : Closed) → 0 < limit → i.depth ≡ 0 → i.region ≡ main → main < count → (inner : List Closed) → Grows 1 inner
      → (nodes : List Node) → EachWith (IsNodeOf ops) (i ∷ tracks inner) nodes → IsGrown count (total_latency ops) limit main nodes
  one_tree main i some at named below inner grows [] each = absurd each
  one_tree main i some at named below inner grows (n ∷ nodes) each =
      let a : AreGrown count (total_latency ops) limit 1 nodes = grows.some nodes each.1 in
      let top : n.depth ≡ 0 = each.0.depth ∙ at in
      let region : n.region ≡ i.region = each.0.region in
      let heavy : n.work ≡ work ops i.start i.end = each.0.work in
      let most : work ops i.start i.end ≤ total_latency ops = work_at_most_total ops i.start i.end in
      let levels : height a.forest ≤ limit - 1 = a.levels in
      record {
        tree = record { label = label_at n; inner = a.forest };
        is = ap (λ d. node_at d (label_at n) ∷ nodes) top ∙ ap (λ l. node_at 0 (label_at n) ∷ l) (a.is ∙ sym (append-nil (nodes_of 1 a.forest)));
        region = region ∙ named;
        levels = omega arith;
        within = (omega arith, omega arith, a.within, tt);
      }

  pub grown_of : (main : ℕ) (inside : List Event) → 0 < limit → Balanced inside → main < count → EnterBelow count inside → (nodes : List Node)
      → EachWith (IsNodeOf ops) (tracked limit (Enter main ∷ (inside ++ Exit ∷ []))) nodes → IsGrown count (total_latency ops) limit main nodes
  grown_of main inside some balanced below named nodes each =
      let left : until_exit (inside ++ Exit ∷ []) 0 ≡ Some inside = balanced_to_exit (inside ++ Exit ∷ []) inside (balanced, ([], refl)) in
      let all : Found inside (Exit ∷ []) 1 0 1 (1 + length inside) (0 + length (operations inside)) =
      found inside balanced named (Exit ∷ []) 1 0 1 (1 + length inside) (0 + length (operations inside)) refl refl in
      let outer : Closed = record {
        region = main;
        depth = 0;
        enter = 0;
        exit = 0 + 1 + length inside;
        start = 0;
        end = 0 + length (operations inside);
      } in
      let closed : closed_from (Enter main ∷ (inside ++ Exit ∷ [])) 0 0 0 ≡ outer ∷ all.list =
      ap (λ o. instance_of main 0 0 0 o ++ closed_from (inside ++ Exit ∷ []) 1 0 1) left ∙ ap (λ l. outer ∷ l) (all.is ∙ append-nil all.list) in
      let kept : tracks (outer ∷ all.list) ≡ outer ∷ tracks all.list =
      cond-true (nat_lt 0 limit) (outer ∷ tracks all.list) (tracks all.list) (lt-ltb 0 limit some) in
      one_tree main outer some refl refl below all.list all.grows nodes (subst (λ l. EachWith (IsNodeOf ops) l nodes) (ap tracks closed ∙ kept) each)
