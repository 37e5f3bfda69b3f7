-- The tree of one balanced instance has bounded paths, and its dictionary meets the rules of a profile.
use Rattle.std.proofs.Common.{◌≡◌, ◌≢◌, ℕ, suc, ◌+◌, ◌-◌, ◌<◌, ◌≤◌, Bool, true, false, List, [], ◌∷◌, ◌++◌, length, length-append, Option, Some, None, refl, sym, ap, ◌∙◌, subst, arith}
use Rattle.std.specs.Prelude.{filter, nat_lt, if◌then◌else◌}
use Rattle.std.proofs.lemmas.Bool.{ltb-true}
use Rattle.k_optab.specs.declared.closed.Closed.{Closed}
use Rattle.k_optab.specs.declared.event.Event.{Event}
use Rattle.k_optab.specs.declared.event.Event.TheVariants.{Op, Enter, Exit}
use Rattle.k_optab.specs.declared.node.Node.{Node}
use Rattle.k_optab.specs.Entered.{EnterBelow}
use Rattle.k_optab.specs.Events.{Operation, operations, total_latency}
use Rattle.k_optab.specs.Graph.{work}
use Rattle.k_optab.specs.Instances.{Balanced, closed_from, instance, instance_of, nothing, tracked, until_exit}
use Rattle.k_optab.specs.Meaning.{HaveBoundedPaths}
use Rattle.k_optab.specs.Open.{open_after}
use Rattle.k_optab.specs.Tree.{EachWith, IsNodeOf, IsTree}
use Rattle.k_optab.proofs.Intervals.{work_at_most_total}
use Rattle.k_optab.proofs.Opening.{balanced_leave_nothing_open}
use Rattle.k_optab.proofs.Trees.{trees_have_bounded_paths}
use Rattle.k_code.specs.declared.code.Code.{Code}
use Rattle.k_dict_entries.specs.Dictionary.{IsDictionary, refusal}
use Rattle.k_dict_entries.specs.Entries.{AreInterned}
use Rattle.k_dict_entries.specs.Trees.{Forest, alone, bare, grown, height, nodes_of, size}
use Rattle.k_dict_entries.specs.declared.entry.Entry.{Entry}
use Rattle.k_profile_trees.proofs.Children.{HaveBounds, tree_has_bounds}
use Rattle.k_profile_trees.proofs.Grown.{AreWithin}
use Rattle.k_profile_trees.proofs.Rules.{are_profile, name_regions}
use Rattle.k_profile_trees.proofs.Within.{interned_of}
use Rattle.k_hcpa_balanced.specs.Laws.{IsOneInstance, MeetRules, ReturnedRunsHaveProfiles}

-- the regions of closed instances are of so many
abbrev AreNamed : ℕ → List Closed → Type 0
AreNamed count [] = Unit {0}
AreNamed count (i ∷ list) = (i.region < count) × AreNamed count list

named_behind : (count region depth enter start : ℕ) (found : Option (List Event)) (list : List Closed) → region < count → AreNamed count list
    → AreNamed count (instance_of region depth enter start found ++ list)
named_behind count region depth enter start None list low named = named
named_behind count region depth enter start (Some inside) list low named = (low, named)

closed_named : (count : ℕ) (events : List Event) (before made depth : ℕ) → EnterBelow count events → AreNamed count (closed_from events before made depth)
closed_named count [] before made depth below = tt
closed_named count (Op class latency sources place ∷ events) before made depth below = closed_named count events (before + 1) (made + 1) depth below
closed_named count (Enter region ∷ events) before made depth below =
    named_behind count region depth before made (until_exit events 0) (closed_from events (before + 1) made (depth + 1)) below.0
    (closed_named count events (before + 1) made (depth + 1) below.1)
closed_named count (Exit ∷ events) before made depth below = closed_named count events (before + 1) made (depth - 1) below

-- so are those of nodes, which have at most so much work, and a depth below a limit
abbrev AreLow : ℕ → ℕ → ℕ → List Node → Type 0
AreLow count most limit [] = Unit {0}
AreLow count most limit (n ∷ nodes) = (n.region < count) × (n.work ≤ most) × (n.depth < limit) × AreLow count most limit nodes

low_nodes : (ops : List Operation) (count most limit : ℕ) → total_latency ops ≤ most → (list : List Closed) (nodes : List Node) → AreNamed count list
    → EachWith (IsNodeOf ops) (filter (λ i. nat_lt i.depth limit) list) nodes → AreLow count most limit nodes
low_nodes ops count most limit heavy [] [] named each = tt
low_nodes ops count most limit heavy [] (n ∷ nodes) named each = absurd each
low_nodes ops count most limit heavy (i ∷ list) nodes named each =
    by (nat_lt i.depth limit) refl nodes each (λ ns here. low_nodes ops count most limit heavy list ns named.1 here)
  where
    by : (b : Bool) → nat_lt i.depth limit ≡ b → (ns : List Node)
        → EachWith (IsNodeOf ops) (if b then i ∷ filter (λ j. nat_lt j.depth limit) list else filter (λ j. nat_lt j.depth limit) list) ns
        → ((ms : List Node) → EachWith (IsNodeOf ops) (filter (λ j. nat_lt j.depth limit) list) ms → AreLow count most limit ms) → AreLow count most limit ns
    by false is ns here rest = rest ns here
    by true is [] here rest = absurd here
    by true is (n ∷ ns) here rest =
        let region : n.region ≡ i.region = here.0.region in
        let depth : n.depth ≡ i.depth = here.0.depth in
        let done : n.work ≡ work ops i.start i.end = here.0.work in
        let within : work ops i.start i.end ≤ total_latency ops = work_at_most_total ops i.start i.end in
        let low : i.depth < limit = ltb-true i.depth limit is in
        let its : i.region < count = named.0 in
        (omega (arith, region, its), omega (arith, done, within, heavy), omega (arith, depth, low), rest ns here.1)

low_split : (count most limit : ℕ) (xs ys : List Node) → AreLow count most limit (xs ++ ys) → AreLow count most limit xs × AreLow count most limit ys
low_split count most limit [] ys low = (tt, low)
low_split count most limit (n ∷ xs) ys low = (let rest = low_split count most limit xs ys low.3 in ((low.0, low.1, low.2, rest.0), rest.1))

-- a forest of such nodes
low_forest : (count most limit depth : ℕ) (f : Forest) → AreLow count most limit (nodes_of depth f) → AreWithin count most f × (height f ≤ limit - depth)
low_forest count most limit depth bare low = (tt, omega arith)
low_forest count most limit depth (grown x i l) low =
    let parts = low_split count most limit (nodes_of (depth + 1) i) (nodes_of depth l) low.3 in
    let inner = low_forest count most limit (depth + 1) i parts.0 in
    let later = low_forest count most limit depth l parts.1 in
    let here : depth < limit = low.2 in
    let deep : height i ≤ limit - (depth + 1) = inner.1 in
    let wide : height l ≤ limit - depth = later.1 in
    ((low.0, low.1, inner.0, later.0), omega (arith, here, deep, wide))

nodes_length : (depth : ℕ) (f : Forest) → length (nodes_of depth f) ≡ size f
nodes_length depth bare = refl
nodes_length depth (grown x i l) =
    let all : length (nodes_of (depth + 1) i ++ nodes_of depth l) ≡ length (nodes_of (depth + 1) i) + length (nodes_of depth l) =
    length-append (nodes_of (depth + 1) i) (nodes_of depth l) in
    let inner : length (nodes_of (depth + 1) i) ≡ size i = nodes_length (depth + 1) i in
    let later : length (nodes_of depth l) ≡ size l = nodes_length depth l in
    omega arith

each_length : {A B : Type 0} (R : A → B → Type 0) (xs : List A) (ys : List B) → EachWith R xs ys → length ys ≡ length xs
each_length R [] [] each = refl
each_length R [] (y ∷ ys) each = absurd each
each_length R (x ∷ xs) [] each = absurd each
each_length R (x ∷ xs) (y ∷ ys) each = ap suc (each_length R xs ys each.1)

not_none : (e : Event) (events : List Event) → e ∷ events ≡ [] → ⊥
not_none e events none = cc

module _ (code : Code) (events : List Event) (one : IsOneInstance code events) where
  pub one_balanced : Balanced events
  one_balanced = subst Balanced (sym one.whole) (instance one.main.region one.inside [] one.balanced nothing)

  -- something has happened, and nothing is open
  pub one_some : events ≢ []
  one_some none = not_none (Enter one.main.region) (one.inside ++ Exit ∷ []) (sym one.whole ∙ none)

  pub one_closed : open_after events ≡ []
  one_closed = balanced_leave_nothing_open events one_balanced

module _ (code : Code) (events : List Event) (depth : ℕ) (nodes : List Node) (one : IsOneInstance code events) (shallow : depth ≤ 32) (tree : IsTree depth events nodes) where
  bounded : HaveBoundedPaths nodes
  bounded = trees_have_bounded_paths depth events nodes (one_balanced code events one) one.sources tree

  ruled : (entries : List Entry) → IsDictionary nodes entries → refusal 0 0 entries ≡ None → MeetRules code entries
  ruled entries (t, is, dict) within =
      let count : ℕ = length code.regions in
      let low : AreLow count 17592186044416 depth nodes =
      low_nodes (operations events) count 17592186044416 depth one.work (closed_from events 0 0 0) nodes (closed_named count events 0 0 0 one.entered) tree in
      let its = low_forest count 17592186044416 depth 0 (alone t) (subst (AreLow count 17592186044416 depth) is low) in
      let levels : height (alone t) ≤ depth - 0 = its.1 in
      let bounds : HaveBounds (alone t) = tree_has_bounds t (subst HaveBoundedPaths is bounded) in
      let interned : AreInterned entries = interned_of t entries dict within in
      let long : length nodes ≡ size (alone t) = ap (λ (l : List Node). length l) is ∙ nodes_length 0 (alone t) in
      let as_long : length nodes ≡ length (tracked depth events) = each_length (IsNodeOf (operations events)) (tracked depth events) nodes tree in
      let few : length (tracked depth events) ≤ 576460752303423488 = one.few depth in (
        are_profile t entries dict count its.0 bounds interned (omega (arith, levels, shallow)) (omega (arith, long, as_long, few)),
        name_regions t entries dict count its.0 bounds,
      )

pub returned_runs_have_profiles : ReturnedRunsHaveProfiles
returned_runs_have_profiles code events depth nodes one shallow tree = (bounded code events depth nodes one shallow tree, ruled code events depth nodes one shallow tree)
