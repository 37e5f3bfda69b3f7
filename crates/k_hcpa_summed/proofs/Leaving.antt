-- Summaries behind the ends of instances, and behind a whole run.
use Rattle.std.proofs.Common.{◌≡◌, ℕ, zero, suc, ◌+◌, ◌-◌, ◌<◌, ◌≤◌, inl, inr, Bool, true, false, cond, nat_lt, if◌then◌else◌, List, [], ◌∷◌, ◌++◌, length, take, reverse, replicate, Option, Some, None, slice_get, refl, sym, ap, ◌∙◌, subst, arith, append_assoc, append-nil, length-append}
use Rattle.std.proofs.lemmas.Bool.{ltb-true, ltb-false}
use Rattle.std.proofs.Math.Seq.{get_or-append_seam}
use Rattle.std.specs.Prelude.{All, AllPairs}
use Rattle.std.proofs.lemmas.List.{length-reverse, take_all}
use Rattle.k_optab.specs.declared.closed.Closed.{Closed}
use Rattle.k_optab.specs.declared.event.Event.{Event}
use Rattle.k_optab.specs.declared.event.Event.TheVariants.{Exit}
use Rattle.k_optab.specs.Events.{Operation, operations, total_latency}
use Rattle.k_optab.specs.Graph.{Heaviest, work}
use Rattle.k_optab.specs.Instances.{tracked}
use Rattle.k_optab.specs.Open.{Open, left_at, open_after}
use Rattle.k_optab.specs.OpenLaws.{Closes, IsAround}
use Rattle.k_optab.specs.Tree.{EachWith, IsNodeOf, IsTree}
use Rattle.k_optab.specs.declared.node.Node.{Node}
use Rattle.k_optab.proofs.Crossing.{instances_are_left_later}
use Rattle.k_optab.proofs.Intervals.{work_split}
use Rattle.k_optab.proofs.Leaving.{exits_close_the_last, open_instances_began, open_instances_nest}
use Rattle.k_optab.proofs.Opening.{open_depths}
use Rattle.k_dict_entries.specs.Dictionary.{IsDictionary}
use Rattle.k_dict_entries.specs.Entries.{label_of}
use Rattle.k_dict_entries.specs.Gathering.{number_of, with_entry}
use Rattle.k_dict_entries.specs.Trees.{Forest, bare, alone, grown, Label, Tree, node_at, list_of}
use Rattle.k_dict_entries.specs.declared.entry.Entry.{Entry}
use Rattle.k_dict_entries.proofs.Forests.{beside}
use Rattle.k_dict_entries.proofs.Places.{place_behind}
use Rattle.k_hcpa_meaning.specs.Summed.{AreClosedIn, AreEntriesOf, AreKept, HasNoRoot, HasRoot, IsLevelOf, IsSummed, open_below}
use Rattle.k_hcpa_meaning.specs.Summing.{Opened, Summing, counted_if_kept, innermost_closed, level_closed, last_path, paths_outside, region_left, regions_left, summary_of, within_limits}
use Rattle.k_hcpa_meaning.specs.Timed.{ArePaths}
use Rattle.k_hcpa_summed.specs.Laws.{ExitsAreSummed, IsWhole, RunsHaveDictionaries}
use Rattle.k_hcpa_summed.proofs.Closed.{Leaves, closed_left, left_before, with_tree}
use Rattle.k_hcpa_summed.proofs.Each.{Each, each_of, each_front}
use Rattle.k_hcpa_summed.proofs.Kept.{left_kept, left_over}
use Rattle.k_hcpa_summed.proofs.Levels.{below_one_more, below_the_same, each_before, path_of_last, paths_go, paths_stay}
use Rattle.k_hcpa_summed.proofs.Summaries.{closed_as, levels_as, root_behind, same_operations, work_whole}

-- there is one forest more than levels
closed_count : (ops : List Operation) (opens : List Open) (closed : List Closed) (forests : List Forest) → AreClosedIn ops opens closed forests
    → length forests ≡ length opens + 1
closed_count ops [] closed [] are = absurd are
closed_count ops (o ∷ opens) closed [] are = absurd are
closed_count ops [] closed (f ∷ []) are = refl
closed_count ops [] closed (f ∷ g ∷ outer) are = absurd are
closed_count ops (o ∷ opens) closed (f ∷ outer) are = let rest = closed_count ops opens are.0 outer are.5 in let all : suc (length outer) ≡ suc (length opens) + 1 = omega arith in all

-- a level is that of its instance however many children are counted
levels_counted : (ops : List Operation) (opens : List Open) (dict : Option (List Entry)) (number : ℕ) (levels : List Opened) → EachWith (IsLevelOf ops) opens levels
    → EachWith (IsLevelOf ops) opens (counted_if_kept dict number levels)
levels_counted ops opens None number levels are = are
levels_counted ops [] (Some entries) number [] are = are
levels_counted ops (o ∷ opens) (Some entries) number [] are = are
levels_counted ops [] (Some entries) number (l ∷ levels) are = are
levels_counted ops (o ∷ opens) (Some entries) number (l ∷ levels) are = (record { region = are.0.region; before = are.0.before }, are.1)

-- where the last open instance is left, the run was one outermost instance
root_left : (events : List Event) (n : ℕ) (label : Label) (f g : Forest) (outer : List Forest) → length outer ≡ n → HasNoRoot (f ∷ g ∷ outer)
    → HasRoot events n (with_tree label f (g ∷ outer))
root_left events zero label f g [] count none =
    inr (record { label = label; inner = f }, ap (λ h. beside h (grown label f bare) ∷ []) none)
root_left events zero label f g (h ∷ outer) count none = absurd (omega arith)
root_left events (suc n) label f g [] count none = absurd (omega arith)
root_left events (suc n) label f g (h ∷ outer) count none = none

-- while something is open no outermost instance is closed
root_open : (events : List Event) (opened n : ℕ) (forests : List Forest) → opened ≡ n + 1 → HasRoot events opened forests → HasNoRoot forests
root_open events zero n forests more root = absurd (omega arith)
root_open events (suc opened) n forests more root = root

module _ (depth : ℕ) (events : List Event) (s : Summing) (outer : List Open) (last : Open) (opens : open_after events ≡ outer ++ last ∷ []) (tracks : 1 ≤ depth) (is : IsSummed depth events s) where
  abbrev now : List Event
  now = events ++ Exit ∷ []

  abbrev ops : List Operation
  ops = operations events

  abbrev i : Closed
  i = left_at (length events) (length ops) last

  same : operations now ≡ ops
  same = same_operations events Exit refl

  work_now : s.work ≡ total_latency (operations now)
  work_now = is.work ∙ ap total_latency (sym same)

  count : length (open_after events) ≡ length outer + 1
  count = ap length opens ∙ length-append outer (last ∷ [])

  rest : open_after now ≡ outer
  rest = (exits_close_the_last events outer last opens).0

  closes : Closes depth events i
  closes = (exits_close_the_last events outer last opens).1 depth

  depth_of : last.depth ≡ length outer
  depth_of =
      let P : List Open → Type 0 = λ list. slice_get list (length outer) ≡ Some last in
      open_depths events (length outer) last (subst P (sym opens) (place_behind outer last []))

  -- there are open instances around it
  root_kept : depth ≤ length outer → HasRoot now (s.opened - 1) is.forests
  root_kept deep =
      let before = is.opened in let all = count in
      let one : s.opened ≡ length outer + 1 = omega arith in
      let less : (length outer - 1) + 1 ≡ s.opened - 1 = omega arith in
      let P : ℕ → Type 0 = λ n. HasRoot now n is.forests in
      subst P less (root_behind now (length outer - 1) is.forests (root_open events s.opened (length outer) is.forests one is.root))

  -- it has no level
  without_level : depth ≤ length outer → IsSummed depth now (record s { opened = s.opened - 1 })
  without_level deep =
      let before = is.opened in let all = count in let d = depth_of in
      let fewer = ap length rest in
      let below : open_below depth now ≡ open_below depth events =
      ap (λ list. reverse (take depth list)) rest ∙ sym (below_the_same depth outer last deep) ∙ ap (λ list. reverse (take depth list)) (sym opens) in
      record {
        opened = omega arith;
        work = work_now;
        levels = levels_as (sym same) (sym below) s.levels is.levels;
        forests = is.forests;
        instances = closed_as (sym same) (sym below) (sym (closes.deep (omega arith))) is.forests is.instances;
        kept = is.kept;
        root = root_kept deep;
      }

  -- the instances around it that have levels
  abbrev below : List Open
  below = reverse (take depth outer)

  below_now : open_below depth now ≡ below
  below_now = ap (λ list. reverse (take depth list)) rest

  below_before : length outer < depth → open_below depth events ≡ last ∷ below
  below_before room = ap (λ list. reverse (take depth list)) opens ∙ below_one_more depth outer last room

  -- the closed instance stands before those within it
  leaves : length outer < depth → Leaves ops last (tracked depth events) (tracked depth now) i
  leaves room =
      let d = depth_of in
      let L : List Closed → Type 0 = Each (λ j. j.enter < j.exit) in
      let later = each_of (λ j. j.enter < j.exit) (tracked depth events) (instances_are_left_later depth events) in
      let kept = each_front (λ j. j.enter < j.exit) closes.before closes.inside (subst L closes.so_far later) in
      record {
        before = closes.before;
        inside = closes.inside;
        so_far = closes.so_far;
        after = closes.shallow (omega arith);
        earlier = left_before last.enter closes.before kept (each_of (λ j. j.exit < last.enter) closes.before closes.put_in.earlier);
        within = each_of (λ j. last.enter < j.enter) closes.inside closes.put_in.within;
        enter = refl;
      }

  -- its node
  node_is : (l : Opened) (p d : ℕ) → IsLevelOf ops last l → Heaviest ops last.start (length ops) p → d ≡ length outer
      → IsNodeOf ops i (node_at d (label_of (summary_of l s.work p)))
  node_is l p d level heavy deep =
      let D = depth_of in
      let began : last.start ≤ length ops =
      (let P : List Open → Type 0 = λ list. All (λ o. (o.enter < length events) × (o.start ≤ length ops)) list in
      let all = subst P opens (open_instances_began events) in
      let size = length-append outer (last ∷ []) in
      let there = all (length outer) last (omega arith) in
      let Q : Open → Type 0 = λ o. o.start ≤ length ops in
      subst Q (get_or-append_seam outer last [] last) there.1) in
      let whole : s.work ≡ work ops 0 (length ops) = is.work ∙ work_whole ops in
      let parts : work ops 0 (length ops) ≡ work ops 0 last.start + work ops last.start (length ops) = work_split ops 0 last.start (length ops) (omega arith) began in
      let before : l.before ≡ work ops 0 last.start = level.before in
      record { region = level.region; depth = deep ∙ sym D; work = omega arith; path = heavy }

  -- one level fewer, with what is kept behind it
  one_left : (p : ℕ) → length outer < depth → Heaviest ops last.start (length ops) p → (l : Opened) (f g : Forest) (forests : List Forest) → IsLevelOf ops last l
      → AreClosedIn ops (last ∷ below) (tracked depth events) (f ∷ g ∷ forests) → HasNoRoot (f ∷ g ∷ forests) → (levels : List Opened) (dict : Option (List Entry))
      → EachWith (IsLevelOf ops) below levels → AreKept (with_tree (label_of (summary_of l s.work p)) f (g ∷ forests)) levels dict
      → IsSummed depth now (record s { levels = levels; opened = s.opened - 1; dict = dict })
  one_left p room heavy l f g forests level closed none levels dict are kept =
      let label : Label = label_of (summary_of l s.work p) in
      let before = is.opened in let all = count in let fewer = ap length rest in
      let D = depth_of in
      let many : length (f ∷ g ∷ forests) ≡ length (last ∷ below) + 1 = closed_count ops (last ∷ below) (tracked depth events) (f ∷ g ∷ forests) closed in
      let short : length below ≡ length outer = length-reverse (take depth outer) ∙ ap length (take_all depth outer (omega arith)) in
      let size : length forests ≡ s.opened - 1 = (let m : suc (suc (length forests)) ≡ suc (length below) + 1 = many in omega arith) in
      let place : (d : ℕ) → length (g ∷ forests) ≡ d + 1 → d ≡ length outer = λ d is_d. (let m : suc (suc (length forests)) ≡ suc (length below) + 1 = many in
      let n : suc (length forests) ≡ d + 1 = is_d in omega arith) in
      record {
        opened = omega arith;
        work = work_now;
        levels = levels_as (sym same) (sym below_now) levels are;
        forests = with_tree label f (g ∷ forests);
        instances = closed_as (sym same) (sym below_now) refl (with_tree label f (g ∷ forests))
            (closed_left ops last (tracked depth events) (tracked depth now) i (leaves room) label f below (g ∷ forests)
            (each_of (λ j. j.enter < j.exit) (tracked depth events) (instances_are_left_later depth events))
            (each_before depth outer last (let P : List Open → Type 0 = λ list. AllPairs IsAround list in subst P opens (open_instances_nest events)))
            (λ d is_d. node_is l p d level heavy (place d is_d)) closed);
        kept = kept;
        root = root_left now (s.opened - 1) label f g forests size none;
      }

  -- it has a level, which is left
  with_a_level : (p : ℕ) → length outer < depth → Heaviest ops last.start (length ops) p → (levels : List Opened) (forests : List Forest) (dict : Option (List Entry))
      → s.dict ≡ dict → EachWith (IsLevelOf ops) (last ∷ below) levels → AreClosedIn ops (last ∷ below) (tracked depth events) forests → AreKept forests levels dict
      → HasNoRoot forests → IsSummed depth now (innermost_closed p levels s)
  with_a_level p room heavy [] forests dict same_dict are closed kept none = absurd are
  with_a_level p room heavy (l ∷ levels) [] dict same_dict are closed kept none = absurd closed
  with_a_level p room heavy (l ∷ levels) (f ∷ []) dict same_dict are closed kept none = absurd (lacking closed)
    where
      lacking : AreClosedIn ops (last ∷ below) (tracked depth events) (f ∷ []) → ⊥
      lacking c = by below c.5
        where
          by : (list : List Open) → AreClosedIn ops list c.0 [] → ⊥
          by [] h = h
          by (o ∷ list) h = h
  with_a_level p room heavy (l ∷ levels) (f ∷ g ∷ forests) None same_dict are closed kept none =
      let label : Label = label_of (summary_of l s.work p) in
      let K : Option (List Entry) → Type 0 = AreKept (with_tree label f (g ∷ forests)) levels in
      let D : Option (List Entry) → Type 0 = λ d. IsSummed depth now (level_closed p l levels d s) in
      subst D (sym same_dict)
      (one_left p room heavy l f g forests are.0 closed none levels s.dict are.1
      (subst K (sym same_dict) (left_over label f g forests levels (l ∷ levels) kept)))
  with_a_level p room heavy (l ∷ levels) (f ∷ g ∷ forests) (Some entries) same_dict are closed kept none =
      let e : Entry = summary_of l s.work p in
      let dict : Option (List Entry) = within_limits (with_entry entries e) in
      let number : ℕ = number_of entries e in
      let D : Option (List Entry) → Type 0 = λ d. IsSummed depth now (level_closed p l levels d s) in
      subst D (sym same_dict)
      (one_left p room heavy l f g forests are.0 closed none (counted_if_kept dict number levels) dict (levels_counted ops below dict number levels are.1)
      (left_kept f g forests l levels entries s.work p kept))

  -- whether it has a level or not
  pub left_summed : (p : ℕ) → (length outer < depth → Heaviest ops last.start (length ops) p) → IsSummed depth now (region_left depth p s)
  unfolding region_left
  left_summed p heavy = by (nat_lt depth s.opened) refl
    where
      by : (deep : Bool) → nat_lt depth s.opened ≡ deep → IsSummed depth now (cond deep (record s { opened = s.opened - 1 }) (innermost_closed p s.levels s))
      by true deep = let all = count in let before = is.opened in let less = ltb-true depth s.opened deep in without_level (omega arith)
      by false deep =
          let all = count in let before = is.opened in let least = ltb-false depth s.opened deep in
          let room : length outer < depth = omega arith in
          let L : List Open → Type 0 = λ list. EachWith (IsLevelOf ops) list s.levels in
          let I : List Open → Type 0 = λ list. AreClosedIn ops list (tracked depth events) is.forests in
          with_a_level p room (heavy room) s.levels is.forests s.dict refl (subst L (below_before room) is.levels) (subst I (below_before room) is.instances) is.kept
          (root_open events s.opened (length outer) is.forests (omega arith) is.root)

-- some open instance is the last
last_open : (opens : List Open) (n : ℕ) → length opens ≡ suc n → (outer : List Open) × (last : Open) × (opens ≡ outer ++ last ∷ [])
last_open [] n size = absurd (omega arith)
last_open (o ∷ []) n size = ([], o, refl)
last_open (o ∷ x ∷ opens) zero size = absurd (omega arith)
last_open (o ∷ x ∷ opens) (suc n) size = let rest = last_open (x ∷ opens) n (omega arith) in (o ∷ rest.0, rest.1, ap (λ list. o ∷ list) rest.2)

pub exits_summed : ExitsAreSummed
exits_summed depth events s paths zero tracks few are is =
    let P : List Event → Type 0 = λ es. IsSummed depth es s in subst P (sym (append-nil events)) is
exits_summed depth events s paths (suc n) tracks few are is =
    let found = last_open (open_after events) (length (open_after events) - 1) (omega arith) in
    let outer : List Open = found.0 in
    let last : Open = found.1 in
    let opens : open_after events ≡ outer ++ last ∷ [] = found.2 in
    let now : List Event = events ++ Exit ∷ [] in
    let rest : open_after now ≡ outer = (exits_close_the_last events outer last opens).0 in
    let size : length (open_after events) ≡ length outer + 1 = ap length opens ∙ length-append outer (last ∷ []) in
    let fewer : length (open_after now) ≡ length outer = ap length rest in
    let same : operations now ≡ operations events = same_operations events Exit refl in
    let before = is.opened in
    let next : IsSummed depth now (region_left depth (last_path paths) s) =
    left_summed depth events s outer last opens tracks is (last_path paths) (path_of_last depth events outer last opens rest same paths are) in
    let P : List Event → Type 0 = λ es. IsSummed depth es (regions_left depth paths (suc n) s) in
    subst P (append_assoc events (Exit ∷ []) (replicate n Exit))
    (exits_summed depth now (region_left depth (last_path paths) s) (if nat_lt depth s.opened then paths else paths_outside paths) n tracks (omega arith)
    (by (nat_lt depth s.opened) refl outer last opens rest same size before) next)
  where
    by : (deep : Bool) → nat_lt depth s.opened ≡ deep → (outer : List Open) (last : Open) (opens : open_after events ≡ outer ++ last ∷ [])
        (rest : open_after (events ++ Exit ∷ []) ≡ outer) (same : operations (events ++ Exit ∷ []) ≡ operations events)
        → length (open_after events) ≡ length outer + 1 → s.opened ≡ length (open_after events)
        → ArePaths depth (events ++ Exit ∷ []) (cond deep paths (paths_outside paths))
    by true deep outer last opens left_over_now ops_now size before =
        let less = ltb-true depth s.opened deep in paths_stay depth events outer last opens left_over_now ops_now paths are (omega arith)
    by false deep outer last opens left_over_now ops_now size before =
        let least = ltb-false depth s.opened deep in paths_go depth events outer last opens left_over_now ops_now paths are (omega arith)

-- nothing is open
none_open : (opens : List Open) → length opens ≡ 0 → opens ≡ []
none_open [] none = refl
none_open (o ∷ opens) none = absurd (omega arith)

-- the entries of one outermost instance are its dictionary
dictionary_of : (t : Tree) (entries : List Entry) → AreEntriesOf (alone t ∷ []) entries → IsDictionary (list_of t) entries
dictionary_of t entries are = (t, refl, record { shapes = are.shapes; firsts = are.firsts; stands = are.stands; earlier = are.earlier })

whole_kept : (t : Tree) (levels : List Opened) (dict : Option (List Entry)) → AreKept (alone t ∷ []) levels dict → IsWhole (list_of t) dict
whole_kept t levels None kept = (kept.0, dictionary_of t kept.0 kept.1, kept.2)
whole_kept t levels (Some entries) kept = dictionary_of t entries kept.0

pub runs_have_dictionaries : RunsHaveDictionaries
runs_have_dictionaries depth events s some none is = by s.opened none is.root
  where
    by : (n : ℕ) → n ≡ 0 → HasRoot events n is.forests → (nodes : List Node) × IsTree depth events nodes × IsWhole nodes s.dict
    by (suc n) none root = absurd (omega arith)
    by zero none_open_now root = elim root [
      | inl nothing ↦ absurd (some nothing.0)
      | inr one ↦ (let t : Tree = one.0 in
          let before = is.opened in
          let below : open_below depth events ≡ [] =
          ap (λ opens. reverse (take depth opens)) (none_open (open_after events) (omega arith)) ∙ ap reverse (take_all depth [] (omega arith)) in
          let C : List Open → List Forest → Type 0 = λ opens forests. AreClosedIn (operations events) opens (tracked depth events) forests in
          let D : List Open → Type 0 = λ opens. C opens is.forests in
          let E : List Forest → Type 0 = λ forests. C [] forests in
          let K : List Forest → Type 0 = λ forests. AreKept forests s.levels s.dict in
          (list_of t, subst E one.1 (subst D below is.instances), whole_kept t s.levels s.dict (subst K one.1 is.kept)))
    ]
