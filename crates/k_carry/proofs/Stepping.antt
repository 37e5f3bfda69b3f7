-- Where a run stands behind one instruction more.
use Rattle.std.proofs.Common.{◌≡◌, ℕ, zero, suc, ◌+◌, ◌-◌, ◌*◌, ◌^◌, ◌<◌, ◌≤◌, List, [], ◌∷◌, ◌++◌, length, slice_get, Option, Some, None, arith, refl, sym, subst, ap, inl, inr, ◌∙◌}
use Rattle.std.specs.Prelude.{replicate}
use Rattle.std.proofs.lemmas.Bool.{cases_lt}
use Rattle.std.proofs.lemmas.List.{append_assoc, append-nil, length-append, length-reverse}
use Rattle.std.proofs.lemmas.Option.{slice_get_within}
use Rattle.k_num.specs.declared.place.Place.{Place}
use Rattle.k_optab.specs.declared.class.Class.{Class}
use Rattle.k_optab.specs.declared.event.Event.{Event}
use Rattle.k_optab.specs.declared.event.Event.TheVariants.{Op, Enter, Exit}
use Rattle.k_optab.specs.declared.event.Src.{Src}
use Rattle.k_optab.specs.Events.{Operation, operations}
use Rattle.k_optab.specs.Open.{Open, open_after}
use Rattle.k_optab.proofs.Trees.{operations-append}
use Rattle.k_ending.specs.declared.ending.End.{End}
use Rattle.k_world.specs.Worlds.{World}
use Rattle.k_code.specs.declared.code.Code.{Code}
use Rattle.k_code.specs.declared.instruction.Do.{Do}
use Rattle.k_code.specs.declared.instruction.Do.TheVariants.{Address, Fill}
use Rattle.k_code.specs.declared.instruction.Home.TheVariants.{File, Local}
use Rattle.k_code.specs.declared.instruction.Instr.{Instr}
use Rattle.k_code.specs.Budgets.{Begins}
use Rattle.k_code.specs.Endings.{EndsWithin, ahead}
use Rattle.k_code.specs.Finds.{Finds, FindsObject}
use Rattle.k_code.specs.Runs.{run_of, world_of}
use Rattle.k_code.specs.Steps.{Configuration, Run, Going, Over, step}
use Rattle.k_code.proofs.Ending.{cycles_make_operations, valid_code_ends}
use Rattle.k_code.proofs.Finding.{instructions_find}
use Rattle.k_code.proofs.Growing.{Grows, grows_not, grows_on, step_grows}
use Rattle.k_code.proofs.Stepping.{ends_once}
use Rattle.k_hcpa_meaning.specs.Behind.{behind_all, world_behind}
use Rattle.k_hcpa_meaning.specs.Timed.{IsTraced}
use Rattle.k_hcpa_traced.specs.Laws.{IsBounded}
use Rattle.k_hcpa_traced.proofs.Running.{configurations_are_traced, worlds_are_bounded}
use Rattle.k_hcpa_store.specs.Kept.{Kept, configuration_of}
use Rattle.k_hcpa_store.specs.Leads.{GoesOn}
use Rattle.k_carry_pairs.specs.Gathered.{inner}
use Rattle.k_carry_pairs.proofs.Events.{behind_first, inner_entered, inner_left, inner_operation}
use Rattle.k_carry_pairs.proofs.Lists.{get_front}
use Rattle.k_carry.specs.declared.advance.Happened.{Happened}
use Rattle.k_carry.specs.declared.advance.Made.{Made}
use Rattle.k_carry.specs.Running.{HasEnded, IsSetting, StandsBehind, left_to_go}
use Rattle.k_carry.specs.Sources.{IsPlaceOf, Setting}
use Rattle.k_carry.specs.Steps.{EndsAfter, entered_events, happened, operation_events}

-- an object is found whatever lies behind
finds_object : (what : Do) (events : List Event) (taken : List ℕ) (c : Configuration) → FindsObject what (behind_all events taken c) → FindsObject what c
finds_object (Address (File n) offset to) events taken c is = is
finds_object (Address (Local n) offset to) events taken c is = is
finds_object (Fill local values) events taken c is = is
finds_object what events taken c is = is

finds_here : (code : Code) (events : List Event) (taken : List ℕ) (c : Configuration) → Finds code (behind_all events taken c) → Finds code c
finds_here code events taken c f = record {
  instr = f.instr;
  is = f.is;
  func = f.func;
  of = f.of;
  registers = f.registers;
  targets = f.targets;
  names = f.names;
  object = finds_object f.instr.act events taken c f.object;
  balance = f.balance;
}

-- how many instances are open, behind each kind of event
open_count : (events : List Event) → length (open_after events) ≡ length (inner events)
open_count events = sym (length-reverse (open_after events))

fewer : (opened : List Open) → length (behind_first opened) ≤ length opened
fewer [] = omega arith
fewer (o ∷ outer) = omega arith

open_operation : (events : List Event) (class : Class) (latency : ℕ) (sources : List Src) (place : Place)
    → length (open_after (events ++ Op class latency sources place ∷ [])) ≤ length (open_after events)
open_operation events class latency sources place =
    omega (
      arith,
      open_count events,
      open_count (events ++ Op class latency sources place ∷ []),
      ap (λ (opened : List Open). length opened) (inner_operation events class latency sources place),
    )

open_entered : (events : List Event) (region : ℕ) → length (open_after (events ++ Enter region ∷ [])) ≤ length (open_after events) + 1
open_entered events region =
    omega (arith, open_count events, open_count (events ++ Enter region ∷ []), ap (λ (opened : List Open). length opened) (inner_entered events region))

open_left : (events : List Event) (n : ℕ) → length (open_after (events ++ replicate n Exit)) ≤ length (open_after events)
open_left events zero = subst (λ (es : List Event). length (open_after es) ≤ length (open_after events)) (sym (append-nil events)) (omega arith)
open_left events (suc n) =
    let one : length (open_after (events ++ Exit ∷ [])) ≤ length (open_after events) =
    omega (arith, open_count events, open_count (events ++ Exit ∷ []), ap (λ (opened : List Open). length opened) (inner_left events), fewer (inner events)) in
    let rest : length (open_after ((events ++ Exit ∷ []) ++ replicate n Exit)) ≤ length (open_after (events ++ Exit ∷ [])) = open_left (events ++ Exit ∷ []) n in
    subst (λ (es : List Event). length (open_after es) ≤ length (open_after events)) (append_assoc events (Exit ∷ []) (replicate n Exit)) (omega (arith, one, rest))

-- at most one more is open behind an instruction
pub open_happened : (events : List Event) (class : Class) (i : Instr) (c : Configuration) (h : Happened)
    → length (open_after (events ++ happened class i c h)) ≤ length (open_after events) + 1
open_happened events class i c h =
    let made : length (open_after (events ++ operation_events class i c h.operation)) ≤ length (open_after events) = by_operation h.operation in
    let entered : length (open_after ((events ++ operation_events class i c h.operation) ++ entered_events h.entered)) ≤ length (open_after (events ++ operation_events class i c h.operation)) + 1 =
    by_entered (events ++ operation_events class i c h.operation) h.entered in
    let left = open_left ((events ++ operation_events class i c h.operation) ++ entered_events h.entered) h.left in
    subst (λ (es : List Event). length (open_after es) ≤ length (open_after events) + 1)
    (append_assoc (events ++ operation_events class i c h.operation) (entered_events h.entered) (replicate h.left Exit)
    ∙ append_assoc events (operation_events class i c h.operation) (entered_events h.entered ++ replicate h.left Exit))
    (omega (arith, made, entered, left))
  where
    by_operation : (m : Option Made) → length (open_after (events ++ operation_events class i c m)) ≤ length (open_after events)
    by_operation None = subst (λ (es : List Event). length (open_after es) ≤ length (open_after events)) (sym (append-nil events)) (omega arith)
    by_operation (Some m) = open_operation events class i.latency _ i.place

    by_entered : (es : List Event) (region : Option ℕ) → length (open_after (es ++ entered_events region)) ≤ length (open_after es) + 1
    by_entered es None = subst (λ (all : List Event). length (open_after all) ≤ length (open_after es) + 1) (sym (append-nil es)) (omega arith)
    by_entered es (Some region) = open_entered es region

-- runs only grow
run_grows : (s : Setting) (n more : ℕ) → Grows (world_of (run_of s.code s.input s.budget n)) (world_of (run_of s.code s.input s.budget (n + more)))
run_grows s n zero =
    let same : n ≡ n + 0 = omega arith in
    subst (λ (m : ℕ). Grows (world_of (run_of s.code s.input s.budget n)) (world_of (run_of s.code s.input s.budget m))) same (grows_not (world_of (run_of s.code s.input s.budget n)))
run_grows s n (suc more) =
    let next : suc (n + more) ≡ n + suc more = omega arith in
    subst (λ (m : ℕ). Grows (world_of (run_of s.code s.input s.budget n)) (world_of (run_of s.code s.input s.budget m))) next
    (grows_on (world_of (run_of s.code s.input s.budget n)) (world_of (run_of s.code s.input s.budget (n + more))) (world_of (run_of s.code s.input s.budget (suc (n + more))))
    (run_grows s n more) (step_grows s.code (run_of s.code s.input s.budget (n + more))))

-- an operation stays where it is
begins_same : (xs ys : List Event) (k : ℕ) (a b : Operation) → Begins xs ys → slice_get (operations xs) k ≡ Some a → slice_get (operations ys) k ≡ Some b → a ≡ b
begins_same xs ys k a b begins one two =
    let low : k < length (operations xs) = slice_get_within (operations xs) k a one in
    let all : operations ys ≡ operations xs ++ operations begins.0 = ap (λ (es : List Event). operations es) begins.1 ∙ operations-append xs begins.0 in
    let both : Some a ≡ Some b =
    sym one ∙ (sym (get_front k (operations xs) (operations begins.0) low) ∙ (ap (λ (ops : List Operation). slice_get ops k) (sym all) ∙ two)) in
    cc both

later_begins : (s : Setting) (n m : ℕ) → n ≤ m → Begins (world_of (run_of s.code s.input s.budget n)).events (world_of (run_of s.code s.input s.budget m)).events
later_begins s n m low =
    let same : n + (m - n) ≡ m = omega arith in
    subst (λ (j : ℕ). Begins (world_of (run_of s.code s.input s.budget n)).events (world_of (run_of s.code s.input s.budget j)).events) same
    (let grows = run_grows s n (m - n) in grows.events)

-- what a run has once of an operation it has always
pub told_at : (s : Setting) (n k : ℕ) (op : Operation) (place : Place) → slice_get (operations (world_of (run_of s.code s.input s.budget n)).events) k ≡ Some op → op.place ≡ place
    → IsPlaceOf s k place
told_at s n k op place there is m other found = elim (cases_lt m n) [
  | inl before ↦
      ap (λ (x : Operation). x.place)
      (begins_same (world_of (run_of s.code s.input s.budget m)).events (world_of (run_of s.code s.input s.budget n)).events k other op
      (later_begins s m n (omega (arith, before))) found there) ∙ is
  | inr behind ↦
      ap (λ (x : Operation). x.place)
      (sym (begins_same (world_of (run_of s.code s.input s.budget n)).events (world_of (run_of s.code s.input s.budget m)).events k op other
      (later_begins s n m behind) there found)) ∙ is
]

-- what a run that has ended does not have it never has
pub none_told : (s : Setting) (n k : ℕ) (end : End) (w : World) (place : Place) → run_of s.code s.input s.budget n ≡ Over end w → length (operations w.events) ≤ k → IsPlaceOf s k place
none_told s n k end w place over few m op found = absurd (elim (cases_lt m n) [
  | inl before ↦
      (let begins = later_begins s m n (omega (arith, before)) in
      let all : operations (world_of (run_of s.code s.input s.budget n)).events ≡ operations (world_of (run_of s.code s.input s.budget m)).events ++ operations begins.0 =
      ap (λ (es : List Event). operations es) begins.1 ∙ operations-append (world_of (run_of s.code s.input s.budget m)).events begins.0 in
      let here : length (operations (world_of (run_of s.code s.input s.budget n)).events) ≡ length (operations w.events) =
      ap (λ (r : Run). length (operations (world_of r).events)) over in
      omega (
        arith,
        ap (λ (ops : List Operation). length ops) all,
        length-append (operations (world_of (run_of s.code s.input s.budget m)).events) (operations begins.0),
        here,
        few,
        slice_get_within (operations (world_of (run_of s.code s.input s.budget m)).events) k op found,
      ))
  | inr behind ↦
      (let same : n + (m - n) ≡ m = omega arith in
      let still : run_of s.code s.input s.budget m ≡ Over end w =
      subst (λ (j : ℕ). run_of s.code s.input s.budget j ≡ Over end w) same (ends_once s.code s.input s.budget n (m - n) end w over) in
      let here : length (operations (world_of (run_of s.code s.input s.budget m)).events) ≡ length (operations w.events) =
      ap (λ (r : Run). length (operations (world_of r).events)) still in
      omega (arith, here, few, slice_get_within (operations (world_of (run_of s.code s.input s.budget m)).events) k op found))
])

module _ (s : Setting) (events : List Event) (k : Kept) (set : IsSetting s) (here : StandsBehind s events k) where
  abbrev now : Configuration
  now = behind_all events here.taken (configuration_of k)

  pub finds : Finds k.code (configuration_of k)
  finds =
      subst (λ (code : Code). Finds code (configuration_of k)) (sym here.code)
      (finds_here s.code events here.taken (configuration_of k) (instructions_find s.code set.valid s.input s.budget here.count now here.run))

  bounded : IsBounded s.budget now.world
  bounded = subst (λ (r : Run). IsBounded s.budget (world_of r)) here.run (worlds_are_bounded s.code set.valid s.input s.budget here.count)

  -- as many operations were made as are among the events
  pub made_is : (configuration_of k).world.made ≡ length (operations events)
  made_is = (let b = bounded in sym b.made)

  pub made_few : (configuration_of k).world.made ≤ 1000000000
  made_few = (let b = bounded in omega (arith, b.few, set.few))

  -- the run is not that long
  count_few : here.count < 2 ^ 59
  count_few = elim (cases_lt here.count (2 ^ 59)) [
    | inl low ↦ low
    | inr high ↦ absurd (over_going (valid_code_ends s.code set.valid s.input s.budget set.few) high)
  ]
    where
      over_going : EndsWithin s.code s.input s.budget (2 ^ 59) → 2 ^ 59 ≤ here.count → ⊥
      over_going e high =
          let same : e.count + (here.count - e.count) ≡ here.count = omega (arith, e.few, high) in
          let over : run_of s.code s.input s.budget here.count ≡ Over e.end e.world =
          subst (λ (j : ℕ). run_of s.code s.input s.budget j ≡ Over e.end e.world) same (ends_once s.code s.input s.budget e.count (here.count - e.count) e.end e.world e.is) in
          let both : Going now ≡ Over e.end e.world = sym here.run ∙ over in
          cc both

  pub regions_few : (configuration_of k).frame.regions + 1 < 2 ^ 62
  regions_few =
      let traced : IsTraced s.code now = configurations_are_traced s.code set.valid s.input s.budget here.count now here.run in
      omega (arith, traced.opened, here.opened, count_few)

  pub next_run : (more : List Event) (k' : Kept) → GoesOn k more k' → run_of s.code s.input s.budget (suc here.count) ≡ Going (behind_all (events ++ more) here.taken (configuration_of k'))
  next_run more k' on =
      ap (step s.code) here.run
      ∙ (ap (λ (code : Code). step code (Going now)) (sym here.code) ∙ on.1 events here.taken)

  -- the run goes on
  pub goes_on : (class : Class) (i : Instr) (h : Happened) (k' : Kept) → GoesOn k (happened class i (configuration_of k) h) k'
      → StandsBehind s (events ++ happened class i (configuration_of k) h) k'
  goes_on class i h k' on = record {
    count = suc here.count;
    taken = here.taken;
    code = on.0 ∙ here.code;
    run = next_run (happened class i (configuration_of k) h) k' on;
    opened = omega (arith, here.opened, open_happened events class i (configuration_of k) h);
  }

  -- it comes nearer to its end
  pub nearer : (more : List Event) (k' : Kept) → GoesOn k more k' → left_to_go k' < left_to_go k
  nearer more k' on =
      let after : Configuration = behind_all (events ++ more) here.taken (configuration_of k') in
      let same : suc here.count ≡ here.count + 1 = omega arith in
      let run : run_of s.code s.input s.budget (suc here.count) ≡ Going after = next_run more k' on in
      let law = cycles_make_operations s.code set.valid s.input s.budget here.count now after here.run in
      let next = cycles_make_operations s.code set.valid s.input s.budget (suc here.count) after after run in
      let old_ahead : ahead k.code (configuration_of k) ≡ ahead s.code (configuration_of k) = ap (λ (code : Code). ahead code (configuration_of k)) here.code in
      let new_ahead : ahead k'.code (configuration_of k') ≡ ahead s.code (configuration_of k') = ap (λ (code : Code). ahead code (configuration_of k')) (on.0 ∙ here.code) in
      elim (law.1 (subst (λ (j : ℕ). run_of s.code s.input s.budget j ≡ Going after) same run)) [
        | inl made ↦
            (let left : (configuration_of k').world.left + 1 ≡ (configuration_of k).world.left = made in
            let low : ahead s.code (configuration_of k') ≤ 2 ^ 29 = next.0 in
            less_left (configuration_of k').world.left (configuration_of k).world.left (ahead k'.code (configuration_of k')) (ahead k.code (configuration_of k)) left (omega (arith, new_ahead, low)))
        | inr on_ahead ↦
            (let left : (configuration_of k').world.left ≡ (configuration_of k).world.left = on_ahead.0 in
            let less : ahead s.code (configuration_of k') < ahead s.code (configuration_of k) = on_ahead.1 in
            omega (arith, ap (λ (n : ℕ). n * (2 ^ 29 + 1)) left, old_ahead, new_ahead, less))
      ]
    where
      less_left : (a b x y : ℕ) → a + 1 ≡ b → x ≤ 2 ^ 29 → a * (2 ^ 29 + 1) + x < b * (2 ^ 29 + 1) + y
      less_left a b x y same low = omega (arith, same, low)

  -- the run has ended
  pub ends : (more : List Event) (end : End) → EndsAfter k more end → HasEnded s (events ++ more) end
  ends more end over = record {
    count = suc here.count;
    world = world_behind (events ++ more) here.taken over.0;
    run = ap (step s.code) here.run ∙ (ap (λ (code : Code). step code (Going now)) (sym here.code) ∙ over.1 events here.taken);
    events_are = refl;
  }

  -- the output is taken
  pub dropped : (k' : Kept) → k'.code ≡ k.code → configuration_of k' ≡ record (configuration_of k) { world = record (configuration_of k).world { output = [] } } → StandsBehind s events k'
  dropped k' code is = record {
    count = here.count;
    taken = here.taken ++ (configuration_of k).world.output;
    code = code ∙ here.code;
    run = here.run ∙ ap (λ (c : Configuration). Going c)
        ((λ j. record now { world = record now.world { output = sym (append-nil (here.taken ++ (configuration_of k).world.output)) j } })
        ∙ ap (λ (c : Configuration). behind_all events (here.taken ++ (configuration_of k).world.output) c) (sym is));
    opened = here.opened;
  }

-- the output is no matter to how far the end can be
pub dropped_left : (k k' : Kept) → k'.code ≡ k.code → configuration_of k' ≡ record (configuration_of k) { world = record (configuration_of k).world { output = [] } }
    → left_to_go k' ≡ left_to_go k
dropped_left k k' code is =
    (λ j. (let c : Configuration = is j in c.world.left * (2 ^ 29 + 1) + ahead (code j) c))
