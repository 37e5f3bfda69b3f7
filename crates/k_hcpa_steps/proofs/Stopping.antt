-- Where an instruction ends the run, the times that are left are those of the moment before.
use Rattle.std.proofs.Common.{ℕ, zero, suc, ◌≡◌, ◌+◌, ◌-◌, ◌<◌, ◌≤◌, Bool, true, false, List, [], ◌∷◌, ◌++◌, length, replicate, take, nat_lt, Option, Some, None, arith, refl, subst, sym, ap, ◌∙◌}
use Rattle.std.specs.Prelude.{if◌then◌else◌, slice_index_or}
use Rattle.std.proofs.lemmas.List.{append_assoc, length-map, length-take}
use Rattle.k_optab.specs.declared.class.Class.TheVariants as class
use Rattle.k_optab.specs.declared.event.Event.{Event}
use Rattle.k_optab.specs.declared.event.Event.TheVariants as event
use Rattle.k_optab.specs.declared.event.Src.{Src}
use Rattle.k_optab.specs.Open.{open_after}
use Rattle.k_ending.specs.declared.ending.End.{End}
use Rattle.k_world.specs.Worlds.{World}
use Rattle.k_code.specs.declared.instruction.Arg.{Arg}
use Rattle.k_code.specs.declared.instruction.Instr.{Instr}
use Rattle.k_code.specs.Reads.{open_waiting}
use Rattle.k_code.specs.Runs.{run_of}
use Rattle.k_code.specs.Steps.{Configuration, Over, step}
use Rattle.k_code.proofs.Ending.{levels_are_regions}
use Rattle.k_code.proofs.Levels.{exits_levels, operation_levels}
use Rattle.k_hcpa_meaning.specs.Behind.{behind_all, world_behind}
use Rattle.k_hcpa_meaning.specs.Calls.{cleared_back, given_back, moved_back, returned_below}
use Rattle.k_hcpa_meaning.specs.Locations.{operand_locations}
use Rattle.k_hcpa_meaning.specs.Summing.{Summing}
use Rattle.k_hcpa_meaning.specs.Timed.{live_levels}
use Rattle.k_hcpa_meaning.specs.Timings.{Location, Timing, all_left_below, given_to, innermost_gone, left_below, operated, saved_kept, time_of, without_last}
use Rattle.k_hcpa_calls.proofs.Outcomes.{same_over}
use Rattle.k_hcpa_laws.proofs.Timings.{operated_is, times_with_row}
use Rattle.k_hcpa_standing.specs.Laws.{return_events}
use Rattle.k_hcpa_standing.specs.Standing.{EndsWith, HasStopped, IsSetting, Setting}
use Rattle.k_hcpa_standing.proofs.Behind.{next}
use Rattle.k_hcpa_store.specs.Kept.{configuration_of}
use Rattle.k_hcpa_times.specs.Seen.{Seen, levels, made}
use Rattle.k_hcpa_steps.specs.Keeping.{AreTimesBefore, Keeping, StandsAt}

-- an operation changes no location's time
time_operated : (locations : List Location) (latency : ℕ) (t : Timing) (at : Location) (level : ℕ) → time_of (operated locations latency t) at level ≡ time_of t at level
time_operated locations latency t at level =
    ap (λ (u : Timing). time_of u at level) (operated_is locations latency t) ∙ ap (λ (times : List ℕ). slice_index_or times level 0) (times_with_row _ _ t at)

-- how many control sources are saved
abbrev saved_count : Timing → ℕ
saved_count t = length t.saved

saved_operated : (locations : List Location) (latency : ℕ) (t : Timing) → saved_count (operated locations latency t) ≡ saved_count t
saved_operated locations latency t = ap saved_count (operated_is locations latency t)

saved_given : (back : Option ℕ) (t : Timing) → saved_count (given_back back t) ≡ saved_count t
unfolding given_to
saved_given None t = refl
saved_given (Some r) t = refl

saved_cleared : (back : Option ℕ) (t : Timing) → saved_count (cleared_back back t) ≡ saved_count t
saved_cleared None t = refl
saved_cleared (Some r) t = refl

saved_moved : (first : ℕ) (value : Option Arg) (latency : ℕ) (back : Option ℕ) (t : Timing) → saved_count (moved_back first value latency back t) ≡ saved_count t
saved_moved first None latency back t = saved_cleared back t
saved_moved first (Some a) latency back t = saved_given back (operated (operand_locations first (a ∷ [])) latency t) ∙ saved_operated (operand_locations first (a ∷ [])) latency t

saved_left : (b : Bool) (t : Timing) → saved_count (if b then t else innermost_gone t) ≡ saved_count t
saved_left true t = refl
saved_left false t = length-map t.saved (λ (times : List ℕ). without_last times)

saved_all_left : (depth count n : ℕ) (t : Timing) → saved_count (all_left_below depth count n t) ≡ saved_count t
saved_all_left depth count zero t = refl
saved_all_left depth count (suc n) t = saved_all_left depth (count - 1) n (left_below depth count t) ∙ saved_left (nat_lt depth count) t

-- a return saves none
saved_returned : (depth count first : ℕ) (value : Option Arg) (latency : ℕ) (back : Option ℕ) (saved regions : ℕ) (t : Timing)
    → saved_count (returned_below depth count first value latency back saved regions t) ≤ saved_count t
saved_returned depth count first value latency back saved regions t =
    let u : Timing = moved_back first value latency back t in
    let all : saved_count (returned_below depth count first value latency back saved regions t) ≡ length (take saved u.saved) =
    saved_all_left depth count regions (saved_kept saved u) in
    let part = length-take saved u.saved in
    let same : saved_count u ≡ saved_count t = saved_moved first value latency back t in
    omega (arith, all, part, same)

-- so many instances are left, and no other is open
none_open : (events : List Event) (i : Instr) (value : Option Arg) (sources : List Src) (regions : ℕ) → length (open_after events) ≡ regions
    → length (open_after (events ++ return_events i value sources regions)) ≡ 0
none_open events i None sources regions all =
    let left = exits_levels regions events (omega (arith, all)) in
    omega (arith, left, all)
none_open events i (Some a) sources regions all =
    let made : List Event = events ++ event.Op class.Move i.latency sources i.place ∷ [] in
    let as_many : length (open_after made) ≡ length (open_after events) = operation_levels events class.Move i.latency sources i.place in
    let left = exits_levels regions made (omega (arith, all, as_many)) in
    let parts : length (open_after (made ++ replicate regions event.Exit)) ≡ length (open_after (events ++ return_events i (Some a) sources regions)) =
    ap (λ (es : List Event). length (open_after es)) (append_assoc events (event.Op class.Move i.latency sources i.place ∷ []) (replicate regions event.Exit)) in
    omega (arith, left, all, as_many, parts)

module _ (s : Setting) (count taken : ℕ) (old : Keeping) (at : StandsAt s count taken old) where
  abbrev c : Configuration
  c = configuration_of old.kept

  -- where the run went on last
  abbrev whole : Configuration
  whole = let here = at.stands in behind_all here.events here.before c

  -- of times that are left, told by what became of those before
  left_of : (change : Timing → Timing) → ((place : Location) (level : ℕ) → level < levels (made change old.seen) → time_of (change old.seen.timing) place level ≡ time_of old.seen.timing place level)
      → saved_count (change old.seen.timing) ≤ saved_count old.seen.timing → AreTimesBefore s (count + 1) (made change old.seen)
  left_of change same saved = record {
    before = count;
    next = refl;
    last = whole;
    run = (let here = at.stands in here.run);
    old = old.seen.timing;
    timed = (let here = at.stands in here.timed);
    same = same;
    saved = saved;
    registers = at.registers;
    elements = at.elements;
  }

  -- nothing was made of them
  pub times_stay : (new : Seen) → new ≡ old.seen → AreTimesBefore s (count + 1) new
  times_stay new seen = subst (λ (x : Seen). AreTimesBefore s (count + 1) x) (sym seen) (left_of (λ t. t) (λ place level low. refl) (omega arith))

  -- an operation was made, which no location holds
  pub times_operated : (new : Seen) (locations : List Location) (latency : ℕ) → new ≡ made (operated locations latency) old.seen → AreTimesBefore s (count + 1) new
  times_operated new locations latency seen =
      let same : saved_count (operated locations latency old.seen.timing) ≡ saved_count old.seen.timing = saved_operated locations latency old.seen.timing in
      subst (λ (x : Seen). AreTimesBefore s (count + 1) x) (sym seen)
      (left_of (operated locations latency) (λ place level low. time_operated locations latency old.seen.timing place level) (omega (arith, same)))

  -- main returned, and no level is live
  module _ (set : IsSetting s) (i : Instr) (value : Option Arg) (sources : List Src) (none : c.waiting ≡ []) where
    -- the instances that are open are those of main's call
    opened : length (open_after (let here = at.stands in here.events)) ≡ c.frame.regions + 1
    opened =
        let here = at.stands in
        let all : length (open_after here.events) ≡ c.frame.regions + 1 + open_waiting c.waiting = levels_are_regions s.code set.valid s.input s.budget count whole here.run in
        let no_more : open_waiting c.waiting ≡ 0 = ap open_waiting none in
        omega (arith, all, no_more)

    -- the events of the run that is over
    events_are : (end : End) (w : World) (paths : List ℕ) (sum : Summing) → EndsWith s.code c (return_events i value sources (c.frame.regions + 1)) end w
        → (st : HasStopped s (count + 1) taken end w paths sum) → st.events ≡ (let here = at.stands in here.events ++ return_events i value sources (c.frame.regions + 1))
    events_are end w paths sum ends st =
        let here = at.stands in
        let more : List Event = return_events i value sources (c.frame.regions + 1) in
        let run : run_of s.code s.input s.budget (count + 1) ≡ Over end (world_behind (here.events ++ more) here.before w) =
        ap (λ n. run_of s.code s.input s.budget n) (next count) ∙ ap (step s.code) here.run ∙ ends here.events here.before in
        let same : world_behind st.events st.before w ≡ world_behind (here.events ++ more) here.before w = same_over end end _ _ (sym st.run ∙ run) in
        ap (λ (v : World). v.events) same

    pub times_returned : (new : Seen) (end : End) (w : World) (sum : Summing) → EndsWith s.code c (return_events i value sources (c.frame.regions + 1)) end w
        → HasStopped s (count + 1) taken end w new.timing.paths sum → (depth opened first : ℕ) (back : Option ℕ) (saved regions : ℕ)
        → new ≡ made (returned_below depth opened first value i.latency back saved regions) old.seen → AreTimesBefore s (count + 1) new
    times_returned new end w sum ends st depth count_opened first back saved regions seen =
        let here = at.stands in
        let many : length new.timing.paths ≡ live_levels s.depth st.events = st.heaviest.count in
        let events : length (open_after st.events) ≡ length (open_after (here.events ++ return_events i value sources (c.frame.regions + 1))) =
        ap (λ (es : List Event). length (open_after es)) (events_are end w new.timing.paths sum ends st) in
        let gone = none_open here.events i value sources (c.frame.regions + 1) opened in
        let dead : levels new ≡ 0 = omega (arith, many, events, gone) in
        let change : Timing → Timing = returned_below depth count_opened first value i.latency back saved regions in
        let none_live : levels (made change old.seen) ≡ 0 = ap levels (sym seen) ∙ dead in
        subst (λ (x : Seen). AreTimesBefore s (count + 1) x) (sym seen)
        (left_of change (λ place level low. absurd (omega (arith, none_live, low)))
        (saved_returned depth count_opened first value i.latency back saved regions old.seen.timing))
