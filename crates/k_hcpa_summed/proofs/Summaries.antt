-- Summaries behind an operation, and behind the entry of an instance.
use Rattle.std.proofs.Common.{◌≡◌, ℕ, zero, suc, ◌+◌, ◌-◌, ◌<◌, ◌≤◌, ◌⊎◌, inl, inr, ◌≢◌, Bool, true, false, cond, nat_lt, List, [], ◌∷◌, ◌++◌, length, take, drop, reverse, Option, Some, None, refl, sym, ap, ◌∙◌, subst, arith, append-nil, length-append}
use Rattle.std.proofs.lemmas.Bool.{ltb-true, ltb-false}
use Rattle.std.proofs.lemmas.List.{take_all, take-append-drop}
use Rattle.k_optab.specs.declared.closed.Closed.{Closed}
use Rattle.k_optab.specs.declared.event.Event.{Event}
use Rattle.k_optab.specs.declared.event.Event.TheVariants.{Op, Enter}
use Rattle.k_optab.specs.Events.{Operation, made_before, operations, total_latency}
use Rattle.k_optab.specs.Graph.{work}
use Rattle.k_optab.specs.Instances.{tracked}
use Rattle.k_optab.specs.InstanceLaws.{IsCounted}
use Rattle.k_optab.specs.Open.{Open, open_after}
use Rattle.k_optab.specs.OpenLaws.{next_open}
use Rattle.k_optab.specs.Tree.{EachWith}
use Rattle.k_optab.proofs.Counting.{intervals_count_operations}
use Rattle.k_optab.proofs.History.{longer_keeps_work}
use Rattle.k_optab.proofs.Intervals.{total_latency-append}
use Rattle.k_optab.proofs.Opening.{enters_open, operations_keep}
use Rattle.k_optab.proofs.Trees.{operations-append}
use Rattle.k_dict_entries.specs.Dictionary.{Firsts}
use Rattle.k_dict_entries.specs.Trees.{Forest, bare, alone, Tree, neither, SameShape}
use Rattle.k_dict_entries.specs.declared.entry.Entry.{Entry}
use Rattle.k_dict_entries.specs.declared.entry.Run.{Run}
use Rattle.k_dict_entries.proofs.Walking.{none_seen}
use Rattle.k_hcpa_meaning.specs.Summed.{AreClosedIn, AreEntriesOf, AreKept, AreRunsOf, HasNoRoot, HasRoot, IsLevelOf, IsSummed, open_below, trees_in}
use Rattle.k_hcpa_meaning.specs.Summing.{Opened, Summing, region_entered}
use Rattle.k_hcpa_summed.specs.Laws.{EntriesAreSummed, NothingIsSummed, OperationsAreSummed}
use Rattle.k_hcpa_summed.proofs.Closed.{closed_entered, closed_stay}
use Rattle.k_hcpa_summed.proofs.Each.{Each, each_of, each_map, with_each}
use Rattle.k_hcpa_summed.proofs.Kept.{told_of}
use Rattle.k_hcpa_summed.proofs.Levels.{below_one_more, below_the_same, each_began}

-- before the first event nothing has a level
none_below : (depth : ℕ) → open_below depth [] ≡ []
none_below depth = ap reverse (take_all depth [] (omega arith))

none_kept : AreEntriesOf (bare ∷ []) []
none_kept = told_of (bare ∷ []) [] [] refl none_seen

pub nothing_summed : NothingIsSummed
nothing_summed depth =
    let L : List Open → Type 0 = λ list. EachWith (IsLevelOf []) list [] in
    let I : List Open → Type 0 = λ list. AreClosedIn [] list (tracked depth []) (bare ∷ []) in
    record {
      opened = refl;
      work = refl;
      levels = subst L (sym (none_below depth)) tt;
      forests = bare ∷ [];
      instances = subst I (sym (none_below depth)) tt;
      kept = (none_kept, refl, tt);
      root = inl (refl, refl);
    }

-- the closed instances lie among the events
pub closed_within : (depth : ℕ) (events : List Event) → Each (λ i. (i.exit < length events) × (i.end ≤ length (operations events))) (tracked depth events)
closed_within depth events =
    each_map (IsCounted events) (λ i. (i.exit < length events) × (i.end ≤ length (operations events))) one (tracked depth events)
    (each_of (IsCounted events) (tracked depth events) (intervals_count_operations depth events))
  where
    few : (k : ℕ) → made_before k events ≤ length (operations events)
    few k =
        let whole : length (operations events) ≡ length (operations (take k events)) + length (operations (drop k events)) =
        ap (λ es. length (operations es)) (sym (take-append-drop k events)) ∙ ap length (operations-append (take k events) (drop k events))
        ∙ length-append (operations (take k events)) (operations (drop k events)) in
        omega arith

    one : (i : Closed) → IsCounted events i → (i.exit < length events) × (i.end ≤ length (operations events))
    one i is = let less = few i.exit in let end : made_before i.exit events ≡ i.end = is.end in (is.among, omega arith)

-- once something has happened, what is so of the root stays so
root_on : (events more : List Event) (opened : ℕ) (forests : List Forest) → events ≢ [] → HasRoot events opened forests → HasRoot more opened forests
root_on events more zero forests some root = elim root [ inl none ↦ absurd (some none.0) | inr one ↦ inr one ]
root_on events more (suc opened) forests some root = root

-- the levels, behind operations
levels_stay : (depth : ℕ) (events : List Event) (more : List Operation) (levels : List Opened) → EachWith (IsLevelOf (operations events)) (open_below depth events) levels
    → EachWith (IsLevelOf (operations events ++ more)) (open_below depth events) levels
levels_stay depth events more levels are =
    with_each (λ (o : Open). (o.enter < length events) × (o.start ≤ length (operations events))) (IsLevelOf (operations events))
    (IsLevelOf (operations events ++ more))
    (λ o l began is. record { region = is.region; before = is.before ∙ sym (longer_keeps_work (operations events) more 0 o.start began.1) })
    (open_below depth events) levels (each_began depth events) are

-- the same of equal operations and instances
pub levels_as : {ops others : List Operation} {opens these : List Open} → ops ≡ others → opens ≡ these → (levels : List Opened)
    → EachWith (IsLevelOf ops) opens levels → EachWith (IsLevelOf others) these levels
levels_as {ops} {others} {opens} {these} one two levels are =
    let L : List Operation → Type 0 = λ o. EachWith (IsLevelOf o) opens levels in
    let M : List Open → Type 0 = λ b. EachWith (IsLevelOf others) b levels in
    subst M two (subst L one are)

pub closed_as : {ops others : List Operation} {opens these : List Open} {closed now : List Closed} → ops ≡ others → opens ≡ these → closed ≡ now → (forests : List Forest)
    → AreClosedIn ops opens closed forests → AreClosedIn others these now forests
closed_as {ops} {others} {opens} {these} {closed} {now} one two three forests are =
    let L : List Operation → Type 0 = λ o. AreClosedIn o opens closed forests in
    let M : List Open → Type 0 = λ b. AreClosedIn others b closed forests in
    let N : List Closed → Type 0 = λ c. AreClosedIn others these c forests in
    subst N three (subst M two (subst L one are))

pub operations_summed : OperationsAreSummed
operations_summed depth events s class latency sources place some is =
    let event : Event = Op class latency sources place in
    let op : Operation = record { class = class; latency = latency; sources = sources; place = place } in
    let now : List Event = events ++ event ∷ [] in
    let ops : List Operation = operations events in
    let keep = operations_keep events class latency sources place in
    let whole : operations now ≡ ops ++ op ∷ [] = operations-append events (event ∷ []) in
    let sum : total_latency (operations now) ≡ total_latency ops + (latency + 0) = ap total_latency whole ∙ total_latency-append ops (op ∷ []) in
    let before = is.work in
    let below : open_below depth now ≡ open_below depth events = ap (λ opens. reverse (take depth opens)) keep.0 in
    let within = each_map (λ (i : Closed). (i.exit < length events) × (i.end ≤ length ops)) (λ i. i.end ≤ length ops) (λ i both. both.1) (tracked depth events) (closed_within depth events) in
    record {
      opened = is.opened ∙ ap length (sym keep.0);
      work = omega arith;
      levels = levels_as (sym whole) (sym below) s.levels (levels_stay depth events (op ∷ []) s.levels is.levels);
      forests = is.forests;
      instances = closed_as (sym whole) (sym below) (sym (keep.1 depth)) is.forests
          (closed_stay ops (op ∷ []) (open_below depth events) (tracked depth events) is.forests within is.instances);
      kept = is.kept;
      root = root_on events now s.opened is.forests some is.root;
    }

-- no instance of a list without items is that of a tree
no_tree_there : (depth : ℕ) (forests : List Forest) (t : Tree) → forests ≡ alone t ∷ [] → AreClosedIn [] (open_below depth []) (tracked depth []) forests → ⊥
no_tree_there depth forests t is are =
    let F : List Forest → Type 0 = AreClosedIn [] (open_below depth []) (tracked depth []) in
    let B : List Open → Type 0 = λ b. AreClosedIn [] b (tracked depth []) (alone t ∷ []) in
    subst B (none_below depth) (subst F is are)

-- what may be entered lies in an open instance or is the first, so no outermost instance is closed
no_root : (depth : ℕ) (events : List Event) (s : Summing) → (events ≡ []) ⊎ (0 < s.opened) → (is : IsSummed depth events s) → HasNoRoot is.forests
no_root depth events s (inr some) is = by s.opened some is.root
  where
    by : (n : ℕ) → 0 < n → HasRoot events n is.forests → HasNoRoot is.forests
    by zero some root = absurd (omega arith)
    by (suc n) some root = root
no_root depth events s (inl none) is = by s.opened is.root
  where
    E : List Event → Type 0
    E es = AreClosedIn (operations es) (open_below depth es) (tracked depth es) is.forests

    by : (n : ℕ) → HasRoot events n is.forests → HasNoRoot is.forests
    by zero root = elim root [
      | inl bare_one ↦ (let P : List Forest → Type 0 = HasNoRoot in subst P (sym bare_one.1) refl)
      | inr one ↦ absurd (no_tree_there depth is.forests one.0 one.1 (subst E none is.instances))
    ]
    by (suc n) root = root

-- an instance more is open
pub root_behind : (events : List Event) (opened : ℕ) (forests : List Forest) → HasNoRoot forests → HasRoot events (opened + 1) forests
root_behind events opened forests none =
    let more : suc opened ≡ opened + 1 = omega arith in
    let P : ℕ → Type 0 = λ n. HasRoot events n forests in
    subst P more none

-- it has no closed children
kept_entered : (forests : List Forest) (levels : List Opened) (l : Opened) (dict : Option (List Entry)) → l.runs ≡ [] → AreKept forests levels dict
    → AreKept (bare ∷ forests) (l ∷ levels) dict
kept_entered forests levels l dict empty kept = by dict kept
  where
    as_before : (entries : List Entry) → AreEntriesOf forests entries → AreEntriesOf (bare ∷ forests) entries
    as_before entries are =
        let P : List Tree → Type 0 = λ trees. Firsts SameShape [] trees are.shapes in
        record { shapes = are.shapes; firsts = subst P (sym (append-nil (trees_in forests))) are.firsts; stands = are.stands; earlier = are.earlier; apart = are.apart }

    by : (dict : Option (List Entry)) → AreKept forests levels dict → AreKept (bare ∷ forests) (l ∷ levels) dict
    by None kept = (kept.0, as_before kept.0 kept.1, kept.2)
    by (Some entries) kept =
        let R : List Run → Type 0 = AreRunsOf entries bare in
        (as_before entries kept.0, kept.1, (subst R (sym empty) (record { rising = tt; alike = neither }), kept.2))

-- the work of all operations
pub work_whole : (ops : List Operation) → total_latency ops ≡ work ops 0 (length ops)
work_whole ops = let all : length ops - 0 ≡ length ops = omega arith in sym (ap total_latency (take_all (length ops - 0) ops (omega arith)))

-- an entry makes no operation
pub same_operations : (events : List Event) (event : Event) → operations (event ∷ []) ≡ [] → operations (events ++ event ∷ []) ≡ operations events
same_operations events event none =
    operations-append events (event ∷ []) ∙ ap (λ list. operations events ++ list) none ∙ append-nil (operations events)

module _ (depth : ℕ) (events : List Event) (s : Summing) (region : ℕ) (where_to : (events ≡ []) ⊎ (0 < s.opened)) (is : IsSummed depth events s) where
  abbrev now : List Event
  now = events ++ Enter region ∷ []

  same : operations now ≡ operations events
  same = same_operations events (Enter region) refl

  opened_now : s.opened + 1 ≡ length (open_after now)
  opened_now =
      let enters = enters_open events region in
      let count : length (open_after now) ≡ length (open_after events) + 1 = ap length enters.0 ∙ length-append (open_after events) (next_open region events ∷ []) in
      let before = is.opened in omega arith

  work_now : s.work ≡ total_latency (operations now)
  work_now = is.work ∙ ap total_latency (sym same)

  -- one that has a level
  with_a_level : s.opened < depth
      → IsSummed depth now (record s { levels = record { region = region; before = s.work; runs = [] } ∷ s.levels; opened = s.opened + 1; entered = s.entered + 1 })
  with_a_level room =
      let enters = enters_open events region in
      let o : Open = next_open region events in
      let l : Opened = record { region = region; before = s.work; runs = [] } in
      let before = is.opened in
      let below : open_below depth now ≡ o ∷ open_below depth events =
      ap (λ opens. reverse (take depth opens)) enters.0 ∙ below_one_more depth (open_after events) o (omega arith) in
      let left = each_map (λ (i : Closed). (i.exit < length events) × (i.end ≤ length (operations events))) (λ i. i.exit < length events) (λ i both. both.0) (tracked depth events)
      (closed_within depth events) in
      let first : IsLevelOf (operations events) o l = record { region = refl; before = is.work ∙ work_whole (operations events) } in
      record {
        opened = opened_now;
        work = work_now;
        levels = levels_as (sym same) (sym below) (l ∷ s.levels) (first, is.levels);
        forests = bare ∷ is.forests;
        instances = closed_as (sym same) (sym below) (sym (enters.1 depth)) (bare ∷ is.forests)
            (closed_entered (operations events) o (open_below depth events) (tracked depth events) is.forests left is.instances);
        kept = kept_entered is.forests s.levels l s.dict refl is.kept;
        root = root_behind now s.opened (bare ∷ is.forests) (one_more is.forests (no_root depth events s where_to is));
      }
    where
      one_more : (forests : List Forest) → HasNoRoot forests → HasNoRoot (bare ∷ forests)
      one_more [] none = refl
      one_more (f ∷ outer) none = none

  -- one that has none
  without_level : depth ≤ s.opened → IsSummed depth now (record s { opened = s.opened + 1; entered = s.entered + 1 })
  without_level deep =
      let enters = enters_open events region in
      let before = is.opened in
      let below : open_below depth now ≡ open_below depth events =
      ap (λ opens. reverse (take depth opens)) enters.0 ∙ below_the_same depth (open_after events) (next_open region events) (omega arith) in
      record {
        opened = opened_now;
        work = work_now;
        levels = levels_as (sym same) (sym below) s.levels is.levels;
        forests = is.forests;
        instances = closed_as (sym same) (sym below) (sym (enters.1 depth)) is.forests is.instances;
        kept = is.kept;
        root = root_behind now s.opened is.forests (no_root depth events s where_to is);
      }

  pub entered_summed : IsSummed depth now (region_entered depth region s)
  unfolding region_entered
  entered_summed = by (nat_lt s.opened depth) refl
    where
      by : (less : Bool) → nat_lt s.opened depth ≡ less
          → IsSummed depth now (record s {
            levels = cond less (record { region = region; before = s.work; runs = [] } ∷ s.levels) s.levels;
            opened = s.opened + 1;
            entered = s.entered + 1;
          })
      by true less = with_a_level (ltb-true s.opened depth less)
      by false less = without_level (ltb-false s.opened depth less)

pub entries_summed : EntriesAreSummed
entries_summed depth events s region where_to is = entered_summed depth events s region where_to is
