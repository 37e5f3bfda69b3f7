-- A run of valid code from which main returned is one instance: while it goes on nothing but the first instance stays open from the start, and its return
-- leaves that last.
use Rattle.std.proofs.Common.{◌≡◌, ℕ, zero, suc, ◌+◌, ◌-◌, ◌*◌, ◌<◌, ◌≤◌, ℤ, List, [], ◌∷◌, ◌++◌, length, Option, Some, None, refl, sym, ◌∙◌, ap, subst, arith}
use Rattle.std.specs.Prelude.{replicate, slice_get}
use Rattle.std.proofs.lemmas.List.{append_assoc}
use Rattle.std.proofs.lemmas.Option.{none-some}
use Rattle.k_num.specs.declared.initial.Initial.{Initial}
use Rattle.k_num.specs.declared.place.Place.{Place}
use Rattle.k_optab.specs.declared.event.Event.{Event}
use Rattle.k_optab.specs.declared.event.Event.TheVariants.{Op, Enter, Exit}
use Rattle.k_optab.specs.Entered.{EnterBelow}
use Rattle.k_optab.specs.Events.{operations, total_latency}
use Rattle.k_optab.specs.Instances.{Balanced}
use Rattle.k_optab.specs.Open.{open_after}
use Rattle.k_optab.proofs.Opening.{count_after}
use Rattle.k_ending.specs.declared.ending.End.{End}
use Rattle.k_ending.specs.declared.ending.End.TheVariants.{OutOfSteps, Returned, Trapped}
use Rattle.k_mem.specs.declared.start.Start.TheVariants.{Zero}
use Rattle.k_mem.specs.Calls.{push_of}
use Rattle.k_mem.specs.Memory.{Memory}
use Rattle.k_world.specs.Changes.{with_elements, with_string}
use Rattle.k_world.specs.Worlds.{World, fresh}
use Rattle.k_code.specs.declared.code.Code.{Code}
use Rattle.k_code.specs.declared.code.CodeFunc.{CodeFunc}
use Rattle.k_code.specs.declared.code.CodeObject.{CodeObject}
use Rattle.k_code.specs.declared.code.CodeObject.TheVariants as object
use Rattle.k_code.specs.Endings.{EndsWithin}
use Rattle.k_code.specs.Reads.{open_regions, open_waiting}
use Rattle.k_code.specs.Runs.{EndsAfter, begun_with, main_called, or_limit, place_of, run_of, start, with_object, with_objects, world_of}
use Rattle.k_code.specs.Steps.{Configuration, Run, Going, Over, step}
use Rattle.k_code.specs.Valid.{IsValid}
use Rattle.k_code.proofs.Ending.{levels_are_regions, valid_code_ends}
use Rattle.k_code.proofs.Finding.{instructions_find}
use Rattle.k_code.proofs.Kept.{get_within}
use Rattle.k_code.proofs.Stepping.{ends_once, over_stays}
use Rattle.k_hcpa_traced.specs.Laws.{IsBounded}
use Rattle.k_hcpa_traced.proofs.Running.{worlds_are_bounded}
use Rattle.k_hcpa_balanced.specs.Laws.{IsOneInstance, ReturnedRunsAreOneInstance}
use Rattle.k_hcpa_balanced.proofs.Counting.{Stays, below_append, below_exits, count_append, count_exits, count_more, count_open, entries, entries_append, entries_exits, stays_append, stays_balanced, stays_exits, tracked_few}
use Rattle.k_hcpa_balanced.proofs.Moving.{Behind, LeavesAll, Moves, Tail, same, more, none, enters, exits, step_moves}

-- nothing has happened in a world, if there is one
abbrev IsSilent : Option World → Type 0
IsSilent None = Unit {0}
IsSilent (Some w) = w.events ≡ []

-- objects that are made are no events
elements_silent : (count : ℕ) (w : World) (m : Option Memory) → w.events ≡ [] → IsSilent (with_elements count w m)
elements_silent count w None silent = tt
elements_silent count w (Some m) silent = silent

begun_silent : (first : List Initial) (number : ℕ) (o : Option World) → IsSilent o → IsSilent (begun_with first number o)
begun_silent first number None silent = tt
begun_silent first number (Some w) silent = silent

object_silent : (o : CodeObject) (w : World) → w.events ≡ [] → IsSilent (with_object o w)
unfolding with_object
object_silent (object.Plain elements first place) w silent =
    begun_silent first w.memory.made (with_elements elements w (push_of w.memory Zero elements)) (elements_silent elements w (push_of w.memory Zero elements) silent)
object_silent (object.Literal bytes place) w silent = elements_silent (length bytes) w (with_string w.memory bytes) silent

replicate_last : {X : Type 0} (k : ℕ) (x : X) → replicate (suc k) x ≡ replicate k x ++ x ∷ []
replicate_last zero x = refl
replicate_last (suc k) x = ap (λ l. x ∷ l) (replicate_last k x)

module _ (code : Code) (valid : IsValid code) where
  abbrev regions : ℕ
  regions = length code.regions

  -- these events began with the entry of main's region, which was not left, and entered at most so many instances, all of the program's regions
  record IsWithin (most : ℕ) (main : CodeFunc) (events : List Event) : Type 0 where
    rest : List Event
    is : events ≡ Enter main.region ∷ rest
    stays : Stays 0 rest
    named : EnterBelow regions events
    few : entries events ≤ most

  -- the first instance is open, and those behind it
  count_within : (most : ℕ) (main : CodeFunc) (events : List Event) (w : IsWithin most main events) → count_after events 0 ≡ count_after w.rest 0 + 1
  count_within most main events w = ap (λ (l : List Event). count_after l 0) w.is ∙ count_more w.rest 0 w.stays

  within_more : (most more_entries : ℕ) (main : CodeFunc) (events added : List Event) (w : IsWithin most main events) → Stays (count_after w.rest 0) added
      → EnterBelow regions added → entries added ≤ more_entries → IsWithin (most + more_entries) main (events ++ added)
  within_more most more_entries main events added w stays named few =
      let so_far : entries events ≤ most = w.few in
      let all : entries (events ++ added) ≡ entries events + entries added = entries_append events added in
      record {
        rest = w.rest ++ added;
        is = ap (λ (l : List Event). l ++ added) w.is;
        stays = stays_append w.rest added 0 w.stays stays;
        named = below_append regions events added w.named named;
        few = omega (arith, so_far, all, few);
      }

  within_up : (most high : ℕ) (main : CodeFunc) (events : List Event) → most ≤ high → IsWithin most main events → IsWithin high main events
  within_up most high main events low w =
      let few : entries events ≤ most = w.few in
      record { rest = w.rest; is = w.is; stays = w.stays; named = w.named; few = omega (arith, few, low) }

  within_behind : (most : ℕ) (main : CodeFunc) (events before : List Event) → IsWithin most main events → Behind events before → IsWithin most main before
  within_behind most main events _ w same = w
  within_behind most main events _ w (more class latency sources place) =
      within_up (most + 0) most main (events ++ Op class latency sources place ∷ []) (omega arith)
      (within_more most 0 main events (Op class latency sources place ∷ []) w tt tt (omega arith))

  -- an operation opens and closes nothing
  count_behind : (events before : List Event) → Behind events before → count_after before 0 ≡ count_after events 0
  count_behind events _ same = refl
  count_behind events _ (more class latency sources place) = count_append events (Op class latency sources place ∷ []) 0

  within_tail : (most limit : ℕ) (main : CodeFunc) (events tail : List Event) → IsWithin most main events → Tail regions limit tail → 1 ≤ count_after (events ++ tail) 0
      → IsWithin (most + 1) main (events ++ tail)
  within_tail most limit main events _ w none some = within_more most 1 main events [] w tt tt (omega arith)
  within_tail most limit main events _ w (enters region low) some = within_more most 1 main events (Enter region ∷ []) w tt (low, tt) (omega arith)
  within_tail most limit main events _ w (exits n low) some =
      let here : count_after events 0 ≡ count_after w.rest 0 + 1 = count_within most main events w in
      let all : count_after (events ++ replicate n Exit) 0 ≡ count_after (replicate n Exit) (count_after events 0) = count_append events (replicate n Exit) 0 in
      let left : count_after (replicate n Exit) (count_after events 0) ≡ count_after events 0 - n = count_exits n (count_after events 0) in
      let none_entered : entries (replicate n Exit) ≡ 0 = entries_exits n in
      within_more most 1 main events (replicate n Exit) w (stays_exits n (count_after w.rest 0) (omega (arith, here, all, left, some))) (below_exits regions n)
      (omega (arith, none_entered))

  -- one instance of main, with all others within it
  record IsOne (most : ℕ) (events : List Event) : Type 0 where
    main : CodeFunc
    there : slice_get code.funcs code.main ≡ Some main
    inside : List Event
    whole : events ≡ Enter main.region ∷ (inside ++ Exit ∷ [])
    balanced : Balanced inside
    named : EnterBelow regions events
    few : entries events ≤ most

  -- where a run is after so many steps
  record IsInside (n : ℕ) (c : Configuration) : Type 0 where
    main : CodeFunc
    there : slice_get code.funcs code.main ≡ Some main
    within : IsWithin (n + 1) main c.world.events

  abbrev IsAt : ℕ → Run → Type 0
  IsAt n (Going c) = IsInside n c
  IsAt n (Over (Returned exit) w) = IsOne (n + 1) w.events
  IsAt n (Over end w) = Unit {0}

  -- a run that is over stays so
  over_at : (n : ℕ) (end : End) (w : World) → IsAt n (Over end w) → IsAt (suc n) (Over end w)
  over_at n (Returned exit) w one =
      let few : entries w.events ≤ n + 1 = one.few in
      record { main = one.main; there = one.there; inside = one.inside; whole = one.whole; balanced = one.balanced; named = one.named; few = omega (arith, few) }
  over_at n (Trapped trap place) w one = tt
  over_at n OutOfSteps w one = tt

  -- the return that leaves all
  left_one : (n : ℕ) (c : Configuration) (w : World) → IsInside n c → length (open_after c.world.events) ≡ open_regions c → LeavesAll c w.events → IsOne (suc n + 1) w.events
  left_one n c w here levels left =
      let main : CodeFunc = here.main in
      let k : ℕ = c.frame.regions in
      let before : IsWithin (n + 1) main left.before = within_behind (n + 1) main c.world.events left.before here.within left.first in
      let rest : List Event = before.rest in
      let open_then : count_after left.before 0 ≡ length (open_after c.world.events) =
      count_behind c.world.events left.before left.first ∙ count_open c.world.events in
      let alone_then : open_waiting c.waiting ≡ 0 = ap open_waiting left.oldest in
      let own : count_after left.before 0 ≡ count_after rest 0 + 1 = count_within (n + 1) main left.before before in
      let deep : count_after rest 0 ≡ k = omega (arith, open_then, levels, alone_then, own) in
      let next : k + 1 ≡ suc k = omega arith in
      let last : replicate (k + 1) Exit ≡ replicate k Exit ++ Exit ∷ [] = ap (λ m. replicate m Exit) next ∙ replicate_last k Exit in
      let inside_count : count_after (rest ++ replicate k Exit) 0 ≡ count_after rest 0 - k =
      count_append rest (replicate k Exit) 0 ∙ count_exits k (count_after rest 0) in
      let all_entered : entries (left.before ++ replicate (k + 1) Exit) ≡ entries left.before + entries (replicate (k + 1) Exit) =
      entries_append left.before (replicate (k + 1) Exit) in
      let none_entered : entries (replicate (k + 1) Exit) ≡ 0 = entries_exits (k + 1) in
      let few_before : entries left.before ≤ n + 1 = before.few in
      let same_entered : entries w.events ≡ entries (left.before ++ replicate (k + 1) Exit) = ap entries left.is in
      record {
        main = main;
        there = here.there;
        inside = rest ++ replicate k Exit;
        whole =
            left.is
            ∙ (ap (λ (l : List Event). l ++ replicate (k + 1) Exit) before.is
            ∙ ap (λ (l : List Event). Enter main.region ∷ l) (ap (λ (l : List Event). rest ++ l) last ∙ sym (append_assoc rest (replicate k Exit) (Exit ∷ []))));
        balanced =
            stays_balanced (rest ++ replicate k Exit)
            (stays_append rest (replicate k Exit) 0 before.stays (stays_exits k (count_after rest 0) (omega (arith, deep))))
            (omega (arith, inside_count, deep));
        named = subst (EnterBelow regions) (sym left.is) (below_append regions left.before (replicate (k + 1) Exit) before.named (below_exits regions (k + 1)));
        few = omega (arith, all_entered, none_entered, few_before, same_entered);
      }

  module _ (input : List ℕ) (budget : ℕ) where
    -- some instance is open where a run goes on
    some_open : (n : ℕ) (c : Configuration) → run_of code input budget n ≡ Going c → 1 ≤ count_after c.world.events 0
    some_open n c is =
        let levels : length (open_after c.world.events) ≡ open_regions c = levels_are_regions code valid input budget n c is in
        let count : count_after c.world.events 0 ≡ length (open_after c.world.events) = count_open c.world.events in
        omega (arith, levels, count)

    moved_at : (n : ℕ) (c : Configuration) → run_of code input budget n ≡ Going c → IsInside n c → (r : Run) → run_of code input budget (suc n) ≡ r
        → Moves code valid c r → IsAt (suc n) r
    moved_at n c is here (Going d) next adds =
        let main : CodeFunc = here.main in
        let before : IsWithin (n + 1) main adds.before = within_behind (n + 1) main c.world.events adds.before here.within adds.first in
        let some : 1 ≤ count_after (adds.before ++ adds.tail) 0 = subst (λ (l : List Event). 1 ≤ count_after l 0) adds.is (some_open (suc n) d next) in
        let all : IsWithin (n + 1 + 1) main (adds.before ++ adds.tail) = within_tail (n + 1) (open_regions c) main adds.before adds.tail before adds.last some in
        let same_most : n + 1 + 1 ≡ suc n + 1 = omega arith in
        record {
          main = main;
          there = here.there;
          within = subst (λ (l : List Event). IsWithin (suc n + 1) main l) (sym adds.is) (subst (λ m. IsWithin m main (adds.before ++ adds.tail)) same_most all);
        }
    moved_at n c is here (Over (Returned exit) w) next left = left_one n c w here (levels_are_regions code valid input budget n c is) left
    moved_at n c is here (Over (Trapped trap place) w) next left = tt
    moved_at n c is here (Over OutOfSteps w) next left = tt

    step_at : (n : ℕ) (r : Run) → run_of code input budget n ≡ r → IsAt n r → IsAt (suc n) (step code r)
    step_at n (Going c) is here =
        let found = instructions_find code valid input budget n c is in
        moved_at n c is here (step code (Going c)) (ap (step code) is) (step_moves code valid c found.instr found.is found.names)
    step_at n (Over end w) is one = subst (IsAt (suc n)) (sym (over_stays code end w)) (over_at n end w one)

    limit_at : (place : Place) (w : World) (on : World → Run) (o : Option World) → IsSilent o → ((v : World) → v.events ≡ [] → IsAt 0 (on v)) → IsAt 0 (or_limit place w on o)
    limit_at place w on None silent each = tt
    limit_at place w on (Some v) silent each = each v silent

    objects_at : (on : World → Run) (objects : List CodeObject) (w : World) → w.events ≡ [] → ((v : World) → v.events ≡ [] → IsAt 0 (on v)) → IsAt 0 (with_objects objects on w)
    objects_at on [] w silent each = each w silent
    objects_at on (o ∷ objects) w silent each =
        limit_at (place_of o) w (with_objects objects on) (with_object o w) (object_silent o w silent) (λ v quiet. objects_at on objects v quiet each)

    main_at : (o : Option CodeFunc) → slice_get code.funcs code.main ≡ o → (w : World) → w.events ≡ [] → IsAt 0 (main_called code o w)
    main_at None is w silent = (let found = get_within code.funcs code.main valid.main in absurd (none-some found.0 (sym is ∙ found.1)))
    main_at (Some f) is w silent =
        let events : w.events ++ Enter f.region ∷ [] ≡ Enter f.region ∷ [] = ap (λ (l : List Event). l ++ Enter f.region ∷ []) silent in
        record {
          main = f;
          there = is;
          within = record {
            rest = [];
            is = events;
            stays = tt;
            named = subst (EnterBelow regions) (sym events) ((valid.funcs code.main f is).region, tt);
            few = subst (λ (l : List Event). entries l ≤ 0 + 1) (sym events) (omega arith);
          };
        }

    start_at : IsAt 0 (start code input budget)
    unfolding start
    start_at =
        objects_at (main_called code (slice_get code.funcs code.main)) code.objects (fresh budget input) refl
        (λ v silent. main_at (slice_get code.funcs code.main) refl v silent)

    run_at : (n : ℕ) → IsAt n (run_of code input budget n)
    run_at zero = start_at
    run_at (suc n) = step_at n (run_of code input budget n) refl (run_at n)

    -- it ends so within few steps
    early_end : (count : ℕ) (end : End) (w : World) → EndsAfter code input budget count end w → budget ≤ 1000000000
        → (few : ℕ) × (few < 576460752303423488) × EndsAfter code input budget few end w
    early_end count end w is low =
        let e : EndsWithin code input budget 576460752303423488 = valid_code_ends code valid input budget low in
        let one : run_of code input budget (e.count + count) ≡ Over e.end e.world = ends_once code input budget e.count count e.end e.world e.is in
        let other : run_of code input budget (count + e.count) ≡ Over end w = ends_once code input budget count e.count end w is in
        let sum : e.count + count ≡ count + e.count = omega arith in
        (e.count, e.few, e.is ∙ (sym one ∙ (ap (run_of code input budget) sum ∙ other)))

    one_instance : (count : ℕ) (exit : ℤ) (w : World) → budget ≤ 1000000000 → EndsAfter code input budget count (Returned exit) w → IsOneInstance code w.events
    one_instance count exit w low is =
        let e = early_end count (Returned exit) w is low in
        let one : IsOne (e.0 + 1) w.events = subst (IsAt e.0) e.2 (run_at e.0) in
        let bounded : IsBounded budget w = subst (λ (r : Run). IsBounded budget (world_of r)) e.2 (worlds_are_bounded code valid input budget e.0) in
        let made : w.made ≤ budget = bounded.few in
        let short : total_latency (operations w.events) ≤ w.made * 10000 = bounded.short in
        let entered : entries w.events ≤ e.0 + 1 = one.few in
        let early : e.0 < 576460752303423488 = e.1 in
        record {
          main = one.main;
          there = one.there;
          inside = one.inside;
          whole = one.whole;
          balanced = one.balanced;
          entered = one.named;
          sources = bounded.earlier;
          work = omega (arith, made, short, low);
          few = λ depth. (let few = tracked_few depth w.events in omega (arith, few, entered, early));
        }

pub returned_runs_are_one_instance : ReturnedRunsAreOneInstance
returned_runs_are_one_instance code valid input budget count exit w low is = one_instance code valid input budget count exit w low is
