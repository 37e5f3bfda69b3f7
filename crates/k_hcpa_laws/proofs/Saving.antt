-- The times behind an instruction that saves the control source, drops a saved one or takes it back, and behind one that enters or leaves an instance.
use Rattle.std.proofs.Common.{ℕ, ◌≡◌, ◌+◌, ◌-◌, ◌<◌, ◌⊎◌, nat_lt, true, List, [], ◌∷◌, ◌++◌, length, take, reverse, get_or, slice_get, Option, Some, None, arith, refl, sym, subst, ap, inl, inr, ◌∙◌}
use Rattle.std.proofs.lemmas.List.{append_assoc, get_or_append_left, get_or_push, get_or-take, length-take-le, length_push, reverse-append}
use Rattle.std.proofs.lemmas.Option.{slice_get-get_or, slice_get_within}
use Rattle.k_optab.specs.declared.event.Event.TheVariants as event
use Rattle.k_optab.specs.Events.{operations}
use Rattle.k_optab.specs.Open.{Open, open_after}
use Rattle.k_code.specs.declared.code.Code.{Code}
use Rattle.k_code.specs.declared.instruction.Do.{Do}
use Rattle.k_code.specs.declared.instruction.Do.TheVariants as act
use Rattle.k_code.specs.declared.instruction.Instr.{Instr}
use Rattle.k_code.specs.Balances.{is_met}
use Rattle.k_code.specs.Stands.{opened_by}
use Rattle.k_code.specs.Steps.{Configuration, Frame, alone, newest, older, operation_of}
use Rattle.k_code.proofs.Kept.{get_last}
use Rattle.k_hcpa_meaning.specs.Locations.{saved_in, source_at, waiting_frames}
use Rattle.k_hcpa_meaning.specs.Timed.{CameEarlier, IsTimed, IsTraced, live_levels}
use Rattle.k_hcpa_meaning.specs.Timings.{Location, Register, Element, InCell, OutCell, Control, Saved, Timing, HasLevels, control_back, control_kept, control_restored, control_saved, entered_below, left_below, newest_saved, time_of, times_at}
use Rattle.k_hcpa_laws.specs.Laws.{BacksTakeTimes, EntersAddLevels, ExitsTakeLevels, Goes, KeepsDropTimes, RestoresTakeTimes, SavesKeepTimes}
use Rattle.k_hcpa_laws.proofs.Alone.{alone_is, same_events}
use Rattle.k_hcpa_laws.proofs.Giving.{shape_control}
use Rattle.k_hcpa_laws.proofs.Levels.{at_events, timed_entered, timed_left}
use Rattle.k_hcpa_laws.proofs.Lists.{get_before, get_pushed, get_taken}
use Rattle.k_hcpa_laws.proofs.Making.{HasSame, retimed}
use Rattle.k_hcpa_laws.proofs.Operations.{landed, landed_times}

-- one saved more
saved_more : (base saved : List (Option ℕ)) (x : Option ℕ) → base ++ reverse (x ∷ saved) ≡ (base ++ reverse saved) ++ x ∷ []
saved_more base saved x =
    ap (λ (xs : List (Option ℕ)). base ++ xs) (reverse-append (x ∷ []) saved) ∙ sym (append_assoc base (reverse saved) (x ∷ []))

-- the newest of those that are saved, behind the others
saved_split : (base saved : List (Option ℕ)) → 0 < length saved → base ++ reverse saved ≡ (base ++ reverse (older saved)) ++ newest saved ∷ []
saved_split base [] some = absurd (omega arith)
saved_split base (x ∷ saved) some = saved_more base saved x

-- the saved control sources of the calls that wait
abbrev base_of : Configuration → List (Option ℕ)
base_of c = saved_in (waiting_frames c.waiting)

-- a control source is saved in the newest call, where an instruction drops it or takes it back
has_saved : (code : Code) (c c' : Configuration) (i : Instr) (what : Do) → Goes code c i c' → i.act ≡ what
    → is_met what (opened_by c.frame (length c.world.memory.live)) ≡ true
has_saved code c c' i what goes same =
    let instr : Some goes.finds.instr ≡ Some i = sym goes.finds.is ∙ goes.there in
    let is : goes.finds.instr ≡ i = cc instr in
    ap (λ (x : Do). is_met x (opened_by c.frame (length c.world.memory.live))) (sym same)
    ∙ ap (λ (x : Instr). is_met x.act (opened_by c.frame (length c.world.memory.live))) (sym is)
    ∙ goes.finds.balance

tested : (n : ℕ) → nat_lt 0 n ≡ true → 0 < n
tested n test = grind arith

-- times with other control sources
abbrev with_control : Frame → Option ℕ → Configuration → Configuration
with_control frame control c = record c { frame = frame; world = record c.world { control = control } }

-- the control source is saved
pub saves_keep_times : SavesKeepTimes
unfolding alone operation_of source_at times_at
saves_keep_times code depth c c' t i goes same is =
    landed_times code depth (with_control frame c.world.control c) c' (control_saved t)
    (same_events code depth c frame c.world.control c.world.memory c.world.origins t (control_saved t) goes.traced is shape saved refl each)
    (landed (record c { pc = c.pc + 1; frame = frame }) c' (alone_is code c c' i act.Save refl goes same))
  where
    frame : Frame
    frame = record c.frame { saved = c.world.control ∷ c.frame.saved }

    more : base_of c ++ reverse (c.world.control ∷ c.frame.saved) ≡ (base_of c ++ reverse c.frame.saved) ++ c.world.control ∷ []
    more = saved_more (base_of c) c.frame.saved c.world.control

    shape : HasLevels (live_levels depth c.world.events) (control_saved t)
    shape = shape_control (live_levels depth c.world.events) t.control (t.saved ++ t.control ∷ []) t is.shape is.shape.control
        (λ n times found. elim (get_pushed t.saved t.control n times found) [
          | inl before ↦ is.shape.saved n times before
          | inr last ↦ (let long : length t.control ≡ length times = ap (λ (xs : List ℕ). length xs) last.1 in omega (arith, long, is.shape.control))
        ])

    saved : length (t.saved ++ t.control ∷ []) ≡ length (base_of c ++ reverse (c.world.control ∷ c.frame.saved))
    saved = length_push t.saved t.control ∙ ap (λ (n : ℕ). n + 1) is.saved ∙ sym (length_push (base_of c ++ reverse c.frame.saved) c.world.control)
        ∙ sym (ap (λ (xs : List (Option ℕ)). length xs) more)

    each : (level : ℕ) (o : Open) (at : Location) (source : Option ℕ) → level < live_levels depth c.world.events
        → slice_get (open_after c.world.events) level ≡ Some o → source_at code (with_control frame c.world.control c) at ≡ Some source
        → ((source ≡ None) × (time_of (control_saved t) at level ≡ 0))
        ⊎ ((x : Location) × (source_at code c x ≡ Some source) × (time_of t x level ≡ time_of (control_saved t) at level))
    each level o (Register r) source live there held = inr (Register r, held, refl)
    each level o (Element e) source live there held = inr (Element e, held, refl)
    each level o InCell source live there held = inr (InCell, held, refl)
    each level o OutCell source live there held = inr (OutCell, held, refl)
    each level o Control source live there held = inr (Control, held, refl)
    each level o (Saved n) source live there held =
        elim (get_pushed (base_of c ++ reverse c.frame.saved) c.world.control n source
        (ap (λ (xs : List (Option ℕ)). slice_get xs n) (sym more) ∙ held)) [
          | inl before ↦
              (let within : n < length (base_of c ++ reverse c.frame.saved) = slice_get_within (base_of c ++ reverse c.frame.saved) n source before in
              inr (
                Saved n,
                before,
                sym (ap (λ (times : List ℕ). get_or times level 0) (get_or_append_left t.saved (t.control ∷ []) [] n (omega (arith, is.saved, within)))),
              ))
          | inr last ↦
              inr (
                Control,
                ap (λ (x : Option ℕ). Some x) last.1,
                sym (ap (λ (times : List ℕ). get_or times level 0) (get_or_push t.saved t.control [] n (omega (arith, is.saved, last.0)))),
              )
        ]

-- the call without its newest saved control source
abbrev without_newest : Frame → Frame
without_newest f = record f { saved = older f.saved }

-- times with those of the control source, and without those of the newest saved one
abbrev control_taken : List ℕ → Timing → Timing
control_taken times t = record t { control = times; saved = take (length t.saved - 1) t.saved }

module _ (code : Code) (depth : ℕ) (c : Configuration) (t : Timing) (is : IsTimed code depth c t) (some : 0 < length c.frame.saved) where
  -- those that are saved, the newest last
  split : base_of c ++ reverse c.frame.saved ≡ (base_of c ++ reverse (older c.frame.saved)) ++ newest c.frame.saved ∷ []
  split = saved_split (base_of c) c.frame.saved some

  saved_length : length t.saved ≡ length (base_of c ++ reverse (older c.frame.saved)) + 1
  saved_length = is.saved ∙ ap (λ (xs : List (Option ℕ)). length xs) split ∙ length_push (base_of c ++ reverse (older c.frame.saved)) (newest c.frame.saved)

  -- the newest saved one is a saved one
  pub newest_holds : source_at code c (Saved (length t.saved - 1)) ≡ Some (newest c.frame.saved)
  unfolding source_at
  newest_holds =
      ap (λ (xs : List (Option ℕ)). slice_get xs (length t.saved - 1)) split
      ∙ get_last (base_of c ++ reverse (older c.frame.saved)) (newest c.frame.saved) (length t.saved - 1) (omega (arith, saved_length))

  newest_length : length (newest_saved t) ≡ live_levels depth c.world.events
  newest_length = is.shape.saved (length t.saved - 1) (newest_saved t) (slice_get-get_or t.saved (length t.saved - 1) [] (omega (arith, saved_length)))

  newest_time : (level : ℕ) → time_of t (Saved (length t.saved - 1)) level ≡ get_or (newest_saved t) level 0
  unfolding times_at
  newest_time level = refl

  -- the newest saved one is no longer saved
  kept_times : (control : Option ℕ) (times : List ℕ) → IsTraced code c → length times ≡ live_levels depth c.world.events
      → ((level : ℕ) → (x : Location) × (source_at code c x ≡ Some control) × (time_of t x level ≡ get_or times level 0))
      → IsTimed code depth (with_control (without_newest c.frame) control c) (control_taken times t)
  unfolding source_at times_at
  kept_times control times traced long from =
      same_events code depth c (without_newest c.frame) control c.world.memory c.world.origins t (control_taken times t) traced is
      (shape_control (live_levels depth c.world.events) times (take (length t.saved - 1) t.saved) t is.shape long
      (λ n found at. is.shape.saved n found (get_taken (length t.saved - 1) t.saved n found at)))
      (omega (arith, length-take-le (length t.saved - 1) t.saved (omega arith), saved_length)) refl each
    where
      each : (level : ℕ) (o : Open) (at : Location) (source : Option ℕ) → level < live_levels depth c.world.events
          → slice_get (open_after c.world.events) level ≡ Some o → source_at code (with_control (without_newest c.frame) control c) at ≡ Some source
          → ((source ≡ None) × (time_of (control_taken times t) at level ≡ 0))
          ⊎ ((x : Location) × (source_at code c x ≡ Some source) × (time_of t x level ≡ time_of (control_taken times t) at level))
      each level o (Register r) source live there held = inr (Register r, held, refl)
      each level o (Element e) source live there held = inr (Element e, held, refl)
      each level o InCell source live there held = inr (InCell, held, refl)
      each level o OutCell source live there held = inr (OutCell, held, refl)
      each level o Control source live there held = (let x = from level in inr (x.0, x.1 ∙ held, x.2))
      each level o (Saved n) source live there held =
          (let within : n < length (base_of c ++ reverse (older c.frame.saved)) =
          slice_get_within (base_of c ++ reverse (older c.frame.saved)) n source held in
          inr (
            Saved n,
            ap (λ (xs : List (Option ℕ)). slice_get xs n) split
                ∙ get_before (base_of c ++ reverse (older c.frame.saved)) (newest c.frame.saved ∷ []) n source held,
            sym (ap (λ (xs : List ℕ). get_or xs level 0) (get_or-take (length t.saved - 1) t.saved n [] (omega (arith, saved_length, within)))),
          ))

  -- the newest saved one is the current one, and stays saved
  restored_times : IsTraced code c → IsTimed code depth (with_control c.frame (newest c.frame.saved) c) (control_restored t)
  unfolding source_at times_at
  restored_times traced =
      same_events code depth c c.frame (newest c.frame.saved) c.world.memory c.world.origins t (control_restored t) traced is
      (shape_control (live_levels depth c.world.events) (newest_saved t) t.saved t is.shape newest_length is.shape.saved) is.saved refl each
    where
      each : (level : ℕ) (o : Open) (at : Location) (source : Option ℕ) → level < live_levels depth c.world.events
          → slice_get (open_after c.world.events) level ≡ Some o → source_at code (with_control c.frame (newest c.frame.saved) c) at ≡ Some source
          → ((source ≡ None) × (time_of (control_restored t) at level ≡ 0))
          ⊎ ((x : Location) × (source_at code c x ≡ Some source) × (time_of t x level ≡ time_of (control_restored t) at level))
      each level o (Register r) source live there held = inr (Register r, held, refl)
      each level o (Element e) source live there held = inr (Element e, held, refl)
      each level o InCell source live there held = inr (InCell, held, refl)
      each level o OutCell source live there held = inr (OutCell, held, refl)
      each level o Control source live there held = inr (Saved (length t.saved - 1), newest_holds ∙ held, newest_time level)
      each level o (Saved n) source live there held = inr (Saved n, held, refl)

-- the time of the current control source
control_time : (t : Timing) (level : ℕ) → time_of t Control level ≡ get_or t.control level 0
unfolding times_at
control_time t level = refl

control_holds : (code : Code) (c : Configuration) → source_at code c Control ≡ Some c.world.control
unfolding source_at
control_holds code c = refl

-- a saved control source is dropped
pub keeps_drop_times : KeepsDropTimes
unfolding alone operation_of is_met
keeps_drop_times code depth c c' t i goes same is =
    let some : 0 < length c.frame.saved = tested (length c.frame.saved) (has_saved code c c' i act.Keep goes same) in
    landed_times code depth (with_control (without_newest c.frame) c.world.control c) c' (control_kept t)
    (kept_times code depth c t is some c.world.control t.control goes.traced is.shape.control (λ level. (Control, control_holds code c, control_time t level)))
    (landed (record c { pc = c.pc + 1; frame = without_newest c.frame }) c' (alone_is code c c' i act.Keep refl goes same))

-- a saved control source is taken back
pub backs_take_times : BacksTakeTimes
unfolding alone operation_of is_met
backs_take_times code depth c c' t i goes same is =
    let some : 0 < length c.frame.saved = tested (length c.frame.saved) (has_saved code c c' i act.Back goes same) in
    landed_times code depth (with_control (without_newest c.frame) (newest c.frame.saved) c) c' (control_back t)
    (kept_times code depth c t is some (newest c.frame.saved) (newest_saved t) goes.traced (newest_length code depth c t is some)
    (λ level. (Saved (length t.saved - 1), newest_holds code depth c t is some, newest_time code depth c t is some level)))
    (landed (record c { pc = c.pc + 1; frame = without_newest c.frame; world = record c.world { control = newest c.frame.saved } }) c'
    (alone_is code c c' i act.Back refl goes same))

-- and stays saved
pub restores_take_times : RestoresTakeTimes
unfolding alone operation_of is_met
restores_take_times code depth c c' t i goes same is =
    let some : 0 < length c.frame.saved = tested (length c.frame.saved) (has_saved code c c' i act.Restore goes same) in
    landed_times code depth (with_control c.frame (newest c.frame.saved) c) c' (control_restored t)
    (restored_times code depth c t is some goes.traced)
    (landed (record c { pc = c.pc + 1; world = record c.world { control = newest c.frame.saved } }) c' (alone_is code c c' i act.Restore refl goes same))

-- how many regions a call has open beside its function's is no matter to what locations hold
regions_same : (code : Code) (c : Configuration) (regions : ℕ) → HasSame code c (record c { frame = record c.frame { regions = regions } })
unfolding source_at
regions_same code c regions = record { sources = same; saved = refl }
  where
    same : (at : Location) → source_at code (record c { frame = record c.frame { regions = regions } }) at ≡ source_at code c at
    same (Register r) = refl
    same (Element e) = refl
    same InCell = refl
    same OutCell = refl
    same Control = refl
    same (Saved n) = refl

-- an instance is entered
pub enters_add_levels : EntersAddLevels
unfolding alone operation_of
enters_add_levels region code depth c c' t i goes same is =
    let count : ℕ = length (open_after c.world.events) in
    let inside : Configuration = at_events (c.world.events ++ event.Enter region ∷ []) c in
    let came : (at : Location) → CameEarlier (length (operations c.world.events)) (source_at code c at) =
    (λ at. subst (λ (n : ℕ). CameEarlier n (source_at code c at)) (sym goes.traced.made) (goes.traced.came at)) in
    landed_times code depth (record inside { frame = record c.frame { regions = c.frame.regions + 1 } }) c' (entered_below depth count t)
    (retimed code depth inside (record inside { frame = record c.frame { regions = c.frame.regions + 1 } }) (entered_below depth count t)
    (timed_entered code depth c t is region came) (regions_same code inside (c.frame.regions + 1)) refl)
    (landed (record inside { pc = c.pc + 1; frame = record c.frame { regions = c.frame.regions + 1 } }) c' (alone_is code c c' i (act.Enter region) refl goes same))

-- the innermost instance is left
pub exits_take_levels : ExitsTakeLevels
unfolding alone operation_of
exits_take_levels code depth c c' t i goes same is =
    let count : ℕ = length (open_after c.world.events) in
    let outside : Configuration = at_events (c.world.events ++ event.Exit ∷ []) c in
    let some : 0 < count = omega (arith, goes.traced.opened) in
    landed_times code depth (record outside { frame = record c.frame { regions = c.frame.regions - 1 } }) c' (left_below depth count t)
    (retimed code depth outside (record outside { frame = record c.frame { regions = c.frame.regions - 1 } }) (left_below depth count t)
    (timed_left code depth c t is some) (regions_same code outside (c.frame.regions - 1)) refl)
    (landed (record outside { pc = c.pc + 1; frame = record c.frame { regions = c.frame.regions - 1 } }) c' (alone_is code c c' i act.Exit refl goes same))
