-- A call returns: the register of its caller has the time of the return's operation, if it made one, and its regions are left.
use Rattle.std.proofs.Common.{◌≡◌, ◌≢◌, ℕ, ◌+◌, ◌<◌, ◌≤◌, ◌⊎◌, ◌^◌, ℤ, List, [], ◌∷◌, ◌++◌, length, take, replicate, reverse, get_or, slice_get, Option, Some, None, Bool, true, false, refl, sym, ◌∙◌, ap, arith, subst, inl, inr}
use Rattle.std.specs.Prelude.{option_map}
use Rattle.std.proofs.lemmas.Bool.{cases_lt}
use Rattle.std.proofs.lemmas.List.{append-nil, get_or-take, length-append, length-take-le}
use Rattle.std.proofs.lemmas.Option.{none-some, same_Some, slice_get_within}
use Rattle.k_num.specs.declared.place.Place.{Place}
use Rattle.k_optab.specs.declared.class.Class.TheVariants as class
use Rattle.k_optab.specs.declared.event.Event.{Event}
use Rattle.k_optab.specs.declared.event.Event.TheVariants.{Exit}
use Rattle.k_optab.specs.Events.{Operation, operations, total_latency}
use Rattle.k_optab.specs.Graph.{IsTime}
use Rattle.k_optab.specs.Open.{Open, open_after}
use Rattle.k_optab.proofs.Trees.{operations-append}
use Rattle.k_ending.specs.declared.ending.End.TheVariants.{Returned}
use Rattle.k_mem.specs.Calls.{popped}
use Rattle.k_mem.specs.Memory.{live_elements}
use Rattle.k_world.specs.declared.act.Act.TheVariants as does
use Rattle.k_world.specs.declared.value.Held.{Held}
use Rattle.k_world.specs.Operations.{Made, Gives, Ends, operation}
use Rattle.k_world.specs.Values.{exit_of}
use Rattle.k_world.specs.WorldLaws.{IsEarly}
use Rattle.k_world.specs.Worlds.{World}
use Rattle.k_world.proofs.Sound.{operation_cases}
use Rattle.k_code.specs.declared.code.Code.{Code}
use Rattle.k_code.specs.declared.instruction.Arg.{Arg}
use Rattle.k_code.specs.declared.instruction.Do.TheVariants.{Return}
use Rattle.k_code.specs.declared.instruction.Instr.{Instr}
use Rattle.k_code.specs.Finds.{Finds}
use Rattle.k_code.specs.Reads.{open_waiting}
use Rattle.k_code.specs.Steps.{Frame, Waiting, Configuration, Going, Over, alone, at_instruction, behind, by_operation, handed_back, is_in_main, left_by, no_value, operation_of, reads_of, step, with_register}
use Rattle.k_hcpa_meaning.specs.Calls.{cleared_back, given_back, returned_below}
use Rattle.k_hcpa_meaning.specs.Locations.{elements_in, first_register, frames_of, operand_locations, origin_if_set, register_at, saved_in, source_at, waiting_frames, widths}
use Rattle.k_hcpa_meaning.specs.Timed.{ArePaths, IsTimed, IsTraced, live_levels}
use Rattle.k_hcpa_meaning.specs.Timings.{Location, Register, Element, InCell, OutCell, Control, Saved, Timing, HasLevels, all_left_below, operated, saved_kept, time_of, times_at}
use Rattle.k_hcpa_laws.specs.Carried.{IsCarried, timed, kept}
use Rattle.k_hcpa_laws.proofs.Elements.{popped_elements}
use Rattle.k_hcpa_laws.proofs.Giving.{IsNoRegisterOf, paths_given, saved_given, shape_control, shape_given, shape_registers_cleared, time_given, time_given_other, time_register_cleared, time_registers_cleared}
use Rattle.k_hcpa_laws.proofs.Levels.{at_events, timed_all_left}
use Rattle.k_hcpa_laws.proofs.Lists.{get_before, get_taken}
use Rattle.k_hcpa_laws.proofs.Making.{IsMaking}
use Rattle.k_hcpa_laws.proofs.Registers.{register_set_at}
use Rattle.k_hcpa_traced.proofs.Worlds.{exits_none}
use Rattle.k_hcpa_calls.specs.Laws.{LastReturnsHavePaths, ReturnsKeepTimes, back_register}
use Rattle.k_hcpa_calls.proofs.Made.{gives_new, move_quiet, operation_timed, same_open}
use Rattle.k_hcpa_calls.proofs.Outcomes.{apart, same_end, same_going, same_over}
use Rattle.k_hcpa_calls.proofs.Carrying.{leaving_paths, still}
use Rattle.k_hcpa_calls.proofs.Registers.{Place as Where, waits, own, none, place_of, register_below}

-- the location is not the register of this number, if there is one
abbrev Differs : Option ℕ → Location → Type 0
Differs None at = Unit {0}
Differs (Some b) at = at ≢ Register b

-- The register of this number, if there is one, has these times, one at each level, and nothing else has changed.
record IsPut (count : ℕ) (back : Option ℕ) (wanted : ℕ → ℕ) (s new : Timing) : Type 0 where
  shape : HasLevels count new
  saved : new.saved ≡ s.saved
  paths : new.paths ≡ s.paths
  others : (at : Location) (level : ℕ) → level < count → Differs back at → time_of new at level ≡ time_of s at level
  here : (b level : ℕ) → level < count → back ≡ Some b → time_of new (Register b) level ≡ wanted level

-- it has the times of the operation
given_put : (count : ℕ) (back : Option ℕ) (s : Timing) → HasLevels count s → IsPut count back (λ level. get_or s.row level 0) s (given_back back s)
given_put count None s shape = record {
  shape = shape;
  saved = refl;
  paths = refl;
  others = λ at level below differs. refl;
  here = λ b level below is. absurd (none-some b is);
}
given_put count (Some r) s shape = record {
  shape = shape_given count (Register r) s shape;
  saved = saved_given (Register r) s;
  paths = paths_given (Register r) s;
  others = λ at level below differs. time_given_other count s (Register r) at level shape below differs;
  here = λ b level below is. subst (λ n. time_of (given_back (Some r) s) (Register n) level ≡ get_or s.row level 0) (same_Some r b is)
      (time_given count s (Register r) level shape below tt);
}

apart_from : (r : ℕ) (at : Location) → at ≢ Register r → IsNoRegisterOf r 1 at
apart_from r (Register k) differs = elim (cases_lt k r) [
  | inl low ↦ inl low
  | inr high ↦ (let other : k ≢ r = λ (same : k ≡ r). differs (ap (λ n. Register n) same) in inr (omega (arith, high, other)))
]
apart_from r (Element e) differs = tt
apart_from r InCell differs = tt
apart_from r OutCell differs = tt
apart_from r Control differs = tt
apart_from r (Saved n) differs = tt

-- or none
cleared_put : (count : ℕ) (back : Option ℕ) (s : Timing) → HasLevels count s → IsPut count back (λ level. 0) s (cleared_back back s)
cleared_put count None s shape = record {
  shape = shape;
  saved = refl;
  paths = refl;
  others = λ at level below differs. refl;
  here = λ b level below is. absurd (none-some b is);
}
cleared_put count (Some r) s shape = record {
  shape = shape_registers_cleared count r 1 s shape;
  saved = refl;
  paths = refl;
  others = λ at level below differs. time_registers_cleared count r 1 s at level shape below (apart_from r at differs);
  here = λ b level below is. subst (λ n. time_of (cleared_back (Some r) s) (Register n) level ≡ 0) (same_Some r b is)
      (time_register_cleared count r 1 s r level shape below (omega arith) (omega arith));
}

register_saved : (to : Option ℕ) (slot : Option Held) (f : Frame) → (with_register to slot f).saved ≡ f.saved
register_saved None slot f = refl
register_saved (Some r) slot f = refl

element_apart : (e b : ℕ) → Element e ≢ Register b
element_apart e b same = cc

in_apart : (b : ℕ) → InCell ≢ Register b
in_apart b same = cc

out_apart : (b : ℕ) → OutCell ≢ Register b
out_apart b same = cc

control_apart : (b : ℕ) → Control ≢ Register b
control_apart b same = cc

saved_apart : (n b : ℕ) → Saved n ≢ Register b
saved_apart n b same = cc

register_apart : (k b : ℕ) → k ≢ b → Register k ≢ Register b
register_apart k b differs same = differs (cc same)

-- whatever register gets what is returned, no other location does
differs_all : (back : Option ℕ) (at : Location) → ((b : ℕ) → at ≢ Register b) → Differs back at
differs_all None at apart = tt
differs_all (Some b) at apart = apart b

-- an element that is set, and where it came from
set_origin : (element : Option (Option ℤ)) (origin : Option (Option ℕ)) (source : Option ℕ) → origin_if_set element origin ≡ Some source
    → (v : ℤ) × (element ≡ Some (Some v)) × (origin ≡ Some source)
set_origin None origin source is = absurd (none-some source is)
set_origin (Some None) origin source is = absurd (none-some source is)
set_origin (Some (Some v)) origin source is = (v, refl, is)

-- a call that waits is behind the newest one
abbrev calls : ℕ → Frame → Waiting → List Waiting → World → Configuration
calls pc f x rest w = record { pc = pc; frame = f; waiting = x ∷ rest; world = w }

-- and goes on with what is returned, before the newest one's regions are left
abbrev goes_back : Code → Frame → Waiting → List Waiting → Option Held → World → Configuration
goes_back code f x rest slot w = record { pc = x.back; frame = with_register x.to slot x.frame; waiting = rest; world = record (left_by code f w) { events = w.events } }

-- a register of the calls that waited: it is the one that gets what is returned, or holds what it held
record IsBack (code : Code) (frames : List Frame) (back : Option ℕ) (slot : Option Held) (k : ℕ) (source : Option ℕ) : Type 0 where
  number : ℕ
  is : back ≡ Some number
  here : k ≡ number
  holds : option_map (λ (held : Held). held.source) slot ≡ Some source

back_cases : (code : Code) (frames : List Frame) (f : Frame) (to : Option ℕ) (slot : Option Held) (k : ℕ) (source : Option ℕ)
    → option_map (λ (held : Held). held.source) (register_at code (with_register to slot f ∷ frames) k) ≡ Some source
    → (Differs (option_map (λ r. widths code frames + r) to) (Register k) × (option_map (λ (held : Held). held.source) (register_at code (f ∷ frames) k) ≡ Some source))
    ⊎ IsBack code frames (option_map (λ r. widths code frames + r) to) slot k source
back_cases code frames f None slot k source holds = inl (tt, holds)
back_cases code frames f (Some r) slot k source holds = elim (register_set_at code frames f r slot k) [
  | inl other ↦ inl (register_apart k (widths code frames + r) other.differs, ap (option_map (λ (held : Held). held.source)) (sym other.same) ∙ holds)
  | inr that ↦ elim that.holds [
    | inl set ↦ inr (record { number = widths code frames + r; is = refl; here = that.is; holds = ap (option_map (λ (held : Held). held.source)) (sym set) ∙ holds })
    | inr empty ↦ absurd (none-some source (ap (option_map (λ (held : Held). held.source)) (sym empty) ∙ holds))
  ]
]

-- and the newest call has none of these registers
still_there : (code : Code) (frames : List Frame) (g f : Frame) (k : ℕ) (source : Option ℕ)
    → option_map (λ (held : Held). held.source) (register_at code (f ∷ frames) k) ≡ Some source
    → option_map (λ (held : Held). held.source) (register_at code (g ∷ f ∷ frames) k) ≡ Some source
still_there code frames g f k source holds = by (place_of code f frames k)
  where
    below : k < widths code (f ∷ frames) → option_map (λ (held : Held). held.source) (register_at code (g ∷ f ∷ frames) k) ≡ Some source
    below low = ap (option_map (λ (held : Held). held.source)) (register_below code g (f ∷ frames) k low) ∙ holds

    by : Where code f frames k → option_map (λ (held : Held). held.source) (register_at code (g ∷ f ∷ frames) k) ≡ Some source
    by (waits low) = below (omega (arith, low))
    by (own r is within) = below (omega (arith, is, within))
    by (none nothing) = absurd (none-some source (ap (option_map (λ (held : Held). held.source)) (sym nothing) ∙ holds))

module _ (code : Code) (depth pc : ℕ) (f : Frame) (x : Waiting) (rest : List Waiting) (w : World) (slot : Option Held) (s new : Timing) (wanted : ℕ → ℕ)
    (was : IsTimed code depth (calls pc f x rest w) s) (put : IsPut (live_levels depth w.events) (back_register code x rest) wanted s new)
    (right : (level : ℕ) (o : Open) (source : Option ℕ) → level < live_levels depth w.events → slice_get (open_after w.events) level ≡ Some o
    → option_map (λ (held : Held). held.source) slot ≡ Some source → IsTime (operations w.events) o.start source (wanted level)) where
  abbrev saved_below : List (Option ℕ)
  saved_below = saved_in (waiting_frames (x ∷ rest))

  abbrev now : Timing
  now = saved_kept (length saved_below) new

  abbrev back_there : Configuration
  back_there = goes_back code f x rest slot w

  saved_is : saved_in (frames_of back_there) ≡ saved_below
  saved_is = ap (λ (saved : List (Option ℕ)). saved_in (waiting_frames rest) ++ reverse saved) (register_saved x.to slot x.frame)

  module _ (level : ℕ) (o : Open) (live : level < live_levels depth w.events) (there : slice_get (open_after w.events) level ≡ Some o) where
    abbrev Carries : Location → Option ℕ → Type 0
    Carries at source = IsCarried code depth (calls pc f x rest w) s (operations w.events) level o source (time_of now at level)

    register_carried : (k : ℕ) (source : Option ℕ) → option_map (λ (held : Held). held.source) (register_at code (frames_of back_there) k) ≡ Some source
        → Carries (Register k) source
    unfolding source_at times_at
    register_carried k source holds = elim (back_cases code (waiting_frames rest) x.frame x.to slot k source holds) [
      | inl other ↦ kept (Register k) live there (still_there code (waiting_frames rest) f x.frame k source other.1)
          (sym (put.others (Register k) level live other.0))
      | inr here ↦ timed (subst (λ (n : ℕ). IsTime (operations w.events) o.start source n)
          (sym (ap (λ (n : ℕ). time_of new (Register n) level) here.here ∙ put.here here.number level live here.is))
          (right level o source live there here.holds))
    ]

    saved_carried : (n : ℕ) (source : Option ℕ) → slice_get (saved_in (frames_of back_there)) n ≡ Some source → Carries (Saved n) source
    unfolding source_at times_at
    saved_carried n source holds =
        let found : slice_get saved_below n ≡ Some source = ap (λ (saved : List (Option ℕ)). slice_get saved n) (sym saved_is) ∙ holds in
        let below : n < length saved_below = slice_get_within saved_below n source found in
        let same : get_or (take (length saved_below) new.saved) n [] ≡ get_or new.saved n [] = get_or-take (length saved_below) new.saved n [] below in
        kept (Saved n) live there (get_before saved_below (reverse f.saved) n source found)
        (sym (ap (λ (times : List ℕ). get_or times level 0) same ∙ put.others (Saved n) level live (differs_all (back_register code x rest) (Saved n) (saved_apart n))))

    all_carried : (at : Location) (source : Option ℕ) → source_at code back_there at ≡ Some source → Carries at source
    unfolding source_at times_at
    all_carried (Register k) source holds = register_carried k source holds
    all_carried (Element e) source holds =
        let set = set_origin (slice_get (elements_in (take f.base w.memory.live)) e) (slice_get (take (live_elements (popped w.memory f.base)) w.origins) e) source holds in
        let value : slice_get (elements_in w.memory.live) e ≡ Some (Some set.0) = popped_elements w.memory.live f.base e (Some set.0) set.1 in
        let from : slice_get w.origins e ≡ Some source = get_taken (live_elements (popped w.memory f.base)) w.origins e source set.2 in
        kept (Element e) live there (ap (λ (found : Option (Option ℤ)). origin_if_set found (slice_get w.origins e)) value ∙ from)
        (sym (put.others (Element e) level live (differs_all (back_register code x rest) (Element e) (element_apart e))))
    all_carried InCell source holds = kept InCell live there holds (sym (put.others InCell level live (differs_all (back_register code x rest) InCell in_apart)))
    all_carried OutCell source holds = kept OutCell live there holds (sym (put.others OutCell level live (differs_all (back_register code x rest) OutCell out_apart)))
    all_carried Control source holds = kept Control live there holds (sym (put.others Control level live (differs_all (back_register code x rest) Control control_apart)))
    all_carried (Saved n) source holds = saved_carried n source holds

  back_timed : IsTimed code depth back_there now
  back_timed =
      still code depth (calls pc f x rest w) back_there s now was refl
      (shape_control (live_levels depth w.events) new.control (take (length saved_below) new.saved) new put.shape put.shape.control
      (λ n times is. put.shape.saved n times (get_taken (length saved_below) new.saved n times is)))
      (length-take-le (length saved_below) new.saved enough ∙ ap (λ (saved : List (Option ℕ)). length saved) (sym saved_is))
      (subst (λ (paths : List ℕ). ArePaths depth w.events paths) (sym put.paths) was.paths)
      (λ level o at source live there holds. all_carried level o live there at source holds)
    where
      enough : length saved_below ≤ length new.saved
      enough =
          let same : length new.saved ≡ length s.saved = ap (λ (saved : List (List ℕ)). length saved) put.saved in
          let all : length s.saved ≡ length (saved_below ++ reverse f.saved) = was.saved in
          let more = length-append saved_below (reverse f.saved) in
          omega (arith, same, all, more)

  -- times are heaviest paths behind the return
  returned_timed : f.regions + 1 ≤ length (open_after w.events)
      → IsTimed code depth (at_events (w.events ++ replicate (f.regions + 1) Exit) back_there) (all_left_below depth (length (open_after w.events)) (f.regions + 1) now)
  returned_timed low = timed_all_left code depth (f.regions + 1) back_there now back_timed low

-- exits are no operations
exits_operations : (events : List Event) (n : ℕ) → operations (events ++ replicate n Exit) ≡ operations events
exits_operations events n =
    operations-append events (replicate n Exit) ∙ (ap (λ (ops : List Operation). operations events ++ ops) (exits_none n) ∙ append-nil (operations events))

regions_open : (code : Code) (c : Configuration) → IsTraced code c → c.frame.regions + 1 ≤ length (open_after c.world.events)
regions_open code c traced = let all : length (open_after c.world.events) ≡ c.frame.regions + 1 + open_waiting c.waiting = traced.opened in omega (arith, all)

-- nothing that is returned without a value has a source
none_timed : (ops : List Operation) (start : ℕ) (main : Bool) (source : Option ℕ) → option_map (λ (held : Held). held.source) (no_value main) ≡ Some source
    → IsTime ops start source 0
none_timed ops start true source is = subst (λ (from : Option ℕ). IsTime ops start from 0) (same_Some None source is) refl
none_timed ops start false source is = absurd (none-some source is)

module _ (code : Code) (depth : ℕ) (c : Configuration) (t : Timing) (place : Place) (latency : ℕ) where
  -- the instruction
  abbrev instr : Option Arg → Instr
  instr value = record { place = place; latency = latency; act = Return value }

  -- the operation of a return with a value
  abbrev made : Arg → Made
  made a = operation class.Move latency place does.Move (reads_of c (Return (Some a))) c.world

  -- its times
  abbrev now_made : Arg → Timing
  now_made a = operated (operand_locations (first_register code c) (a ∷ [])) latency t

  move_is : (a : Arg) → slice_get code.instrs c.pc ≡ Some (instr (Some a)) → step code (Going c) ≡ by_operation code (instr (Some a)) c (made a)
  unfolding step operation_of
  move_is a at = ap (at_instruction code c) at

  moved_is : (a : Arg) (held : Held) (w : World) → by_operation code (instr (Some a)) c (Gives held w) ≡ handed_back c.waiting (Some held) (left_by code c.frame w)
  unfolding behind
  moved_is a held w = refl

  none_is : slice_get code.instrs c.pc ≡ Some (instr None) → step code (Going c) ≡ handed_back c.waiting (no_value (is_in_main code c)) (left_by code c.frame c.world)
  unfolding step operation_of alone
  none_is at = ap (at_instruction code c) at

  module _ (a : Arg) (held : Held) (w : World) (gives : made a ≡ Gives held w) where
    moved_new : held.source ≡ Some c.world.made
    moved_new = gives_new code depth c t class.Move (instr (Some a)) does.Move (a ∷ []) held w (move_quiet a) gives

    moved_open : length (open_after w.events) ≡ length (open_after c.world.events)
    moved_open =
        ap (λ (all : List Open). length all) (same_open code depth c t class.Move (instr (Some a)) does.Move (a ∷ []) held w (move_quiet a) gives)

    moved_timed : slice_get code.instrs c.pc ≡ Some (instr (Some a)) → IsTraced code c → Finds code c → IsTimed code depth c t → total_latency (operations w.events) < 2 ^ 64
        → IsMaking code depth (record c { world = w }) c.world.made (now_made a)
    moved_timed = operation_timed code depth c t class.Move (instr (Some a)) does.Move (a ∷ []) held w (move_quiet a) gives

  -- the oldest call
  module _ (v : ℤ) (w : World) (back : Option ℕ) (saved : ℕ) (traced : IsTraced code c) (finds : Finds code c) (is : IsTimed code depth c t)
      (short : total_latency (operations w.events) < 2 ^ 64) (last : c.waiting ≡ []) where
    abbrev Wanted : Option Arg → World → Type 0
    Wanted value u = ArePaths depth u.events (returned_below depth (length (open_after c.world.events)) (first_register code c) value latency back saved (c.frame.regions + 1) t).paths

    given_paths : (s : Timing) → (given_back back s).paths ≡ s.paths
    given_paths s = by back
      where
        by : (o : Option ℕ) → (given_back o s).paths ≡ s.paths
        by None = refl
        by (Some r) = paths_given (Register r) s

    cleared_paths : (s : Timing) → (cleared_back back s).paths ≡ s.paths
    cleared_paths s = by back
      where
        by : (o : Option ℕ) → (cleared_back o s).paths ≡ s.paths
        by None = refl
        by (Some r) = refl

    last_is : (slot : Option Held) (u : World) → handed_back c.waiting slot u ≡ Over (Returned (exit_of slot)) u
    last_is slot u = ap (λ (waiting : List Waiting). handed_back waiting slot u) last

    none_ends : slice_get code.instrs c.pc ≡ Some (instr None) → step code (Going c) ≡ Over (Returned v) w → Wanted None w
    none_ends at over =
        let slot : Option Held = no_value (is_in_main code c) in
        let same : left_by code c.frame c.world ≡ w = same_over (Returned (exit_of slot)) (Returned v) (left_by code c.frame c.world) w
        (sym (last_is slot (left_by code c.frame c.world)) ∙ (sym (none_is at) ∙ over)) in
        subst (Wanted None) same
        (leaving_paths depth (c.frame.regions + 1) c.world.events (saved_kept saved (cleared_back back t)) (regions_open code c traced)
        (subst (λ (paths : List ℕ). ArePaths depth c.world.events paths) (sym (cleared_paths t)) is.paths))

    move_gives : (a : Arg) (held : Held) (u : World) → slice_get code.instrs c.pc ≡ Some (instr (Some a)) → made a ≡ Gives held u → left_by code c.frame u ≡ w → Wanted (Some a) w
    move_gives a held u at gives same =
        let total : total_latency (operations u.events) < 2 ^ 64 = subst (λ (ops : List Operation). total_latency ops < 2 ^ 64)
        (ap (λ (x : World). operations x.events) (sym same) ∙ exits_operations u.events (c.frame.regions + 1)) short in
        let making = moved_timed a held u gives at traced finds is total in
        let count = moved_open a held u gives in
        let s : Timing = now_made a in
        let low : c.frame.regions + 1 ≤ length (open_after u.events) = omega (arith, count, regions_open code c traced) in
        subst (Wanted (Some a)) same
        (subst (λ (n : ℕ). ArePaths depth (u.events ++ replicate (c.frame.regions + 1) Exit) (all_left_below depth n (c.frame.regions + 1) (saved_kept saved (given_back back s))).paths) count
        (leaving_paths depth (c.frame.regions + 1) u.events (saved_kept saved (given_back back s)) low
        (subst (λ (paths : List ℕ). ArePaths depth u.events paths) (sym (given_paths s)) making.timed.paths)))

    by_last : (a : Arg) (m : Made) → made a ≡ m → by_operation code (instr (Some a)) c m ≡ Over (Returned v) w → slice_get code.instrs c.pc ≡ Some (instr (Some a)) → Wanted (Some a) w
    by_last a (Gives held u) gives over at =
        move_gives a held u at gives (same_over (Returned (exit_of (Some held))) (Returned v) (left_by code c.frame u) w
        (sym (last_is (Some held) (left_by code c.frame u)) ∙ (sym (moved_is a held u) ∙ over)))
    by_last a (Ends end u) ends over at =
        let early : IsEarly end = subst IfEarly ends
        (operation_cases IfEarly class.Move latency place does.Move (reads_of c (Return (Some a))) c.world (λ e h. h) (λ some value. tt)) in
        absurd (subst IsEarly (same_end end (Returned v) u w over) early)
      where
        IfEarly : Made → Type 0
        IfEarly (Gives held after) = Unit {0}
        IfEarly (Ends e after) = IsEarly e

    last_returns : (value : Option Arg) → slice_get code.instrs c.pc ≡ Some (instr value) → step code (Going c) ≡ Over (Returned v) w → Wanted value w
    last_returns None at over = none_ends at over
    last_returns (Some a) at over = by_last a (made a) refl (sym (move_is a at) ∙ over) at

-- a call with one that waits behind it
module _ (code : Code) (depth pc : ℕ) (f : Frame) (x : Waiting) (rest : List Waiting) (w0 : World) (next : Configuration) (t : Timing) (place : Place) (latency : ℕ)
    (traced : IsTraced code (calls pc f x rest w0)) (finds : Finds code (calls pc f x rest w0)) (is : IsTimed code depth (calls pc f x rest w0) t)
    (short : total_latency (operations next.world.events) < 2 ^ 64) where
  abbrev before : Configuration
  before = calls pc f x rest w0

  abbrev back : Option ℕ
  back = back_register code x rest

  abbrev kept_saved : ℕ
  kept_saved = length (saved_in (waiting_frames (x ∷ rest)))

  abbrev Wants : Option Arg → Configuration → Type 0
  Wants value d = IsTimed code depth d
      (returned_below depth (length (open_after w0.events)) (first_register code before) value latency back kept_saved (f.regions + 1) t)

  abbrev instr_of : Option Arg → Instr
  instr_of value = record { place = place; latency = latency; act = Return value }

  none_goes : slice_get code.instrs pc ≡ Some (instr_of None) → step code (Going before) ≡ Going next → Wants None next
  none_goes at goes =
      let slot : Option Held = no_value (is_in_main code before) in
      let there : Configuration = at_events (w0.events ++ replicate (f.regions + 1) Exit) (goes_back code f x rest slot w0) in
      let same : there ≡ next = same_going there next (sym (none_is code depth before t place latency at) ∙ goes) in
      subst (Wants None) same
      (returned_timed code depth pc f x rest w0 slot t (cleared_back back t) (λ level. 0) is
      (cleared_put (live_levels depth w0.events) back t is.shape)
      (λ level o source live open_there holds. none_timed (operations w0.events) o.start (is_in_main code before) source holds)
      (regions_open code before traced))

  move_goes : (a : Arg) (held : Held) (u : World) → slice_get code.instrs pc ≡ Some (instr_of (Some a)) → made code depth before t place latency a ≡ Gives held u
      → handed_back (x ∷ rest) (Some held) (left_by code f u) ≡ Going next → Wants (Some a) next
  move_goes a held u at gives goes =
      let s : Timing = operated (operand_locations (first_register code before) (a ∷ [])) latency t in
      let there : Configuration = at_events (u.events ++ replicate (f.regions + 1) Exit) (goes_back code f x rest (Some held) u) in
      let same : there ≡ next = same_going there next goes in
      let total : total_latency (operations u.events) < 2 ^ 64 = subst (λ (ops : List Operation). total_latency ops < 2 ^ 64)
      (ap (λ (d : Configuration). operations d.world.events) (sym same) ∙ exits_operations u.events (f.regions + 1)) short in
      let making = moved_timed code depth before t place latency a held u gives at traced finds is total in
      let count = moved_open code depth before t place latency a held u gives in
      let number = moved_new code depth before t place latency a held u gives in
      let done = returned_timed code depth pc f x rest u (Some held) s (given_back back s) (λ level. get_or s.row level 0) making.timed
      (given_put (live_levels depth u.events) back s making.timed.shape)
      (λ level o source live open_there holds.
      subst (λ (from : Option ℕ). IsTime (operations u.events) o.start from (get_or s.row level 0)) (sym number ∙ same_Some held.source source holds) (making.row level o live open_there))
      (omega (arith, count, regions_open code before traced)) in
      subst (Wants (Some a)) same
      (subst (λ (n : ℕ). IsTimed code depth there (all_left_below depth n (f.regions + 1) (saved_kept kept_saved (given_back back s)))) count done)

  by_made : (a : Arg) (m : Made) → slice_get code.instrs pc ≡ Some (instr_of (Some a)) → made code depth before t place latency a ≡ m
      → by_operation code (instr_of (Some a)) before m ≡ Going next → Wants (Some a) next
  by_made a (Gives held u) at gives goes = move_goes a held u at gives (sym (moved_is code depth before t place latency a held u) ∙ goes)
  by_made a (Ends end u) at ends goes = absurd (apart end u next goes)

  return_keeps : (value : Option Arg) → slice_get code.instrs pc ≡ Some (instr_of value) → step code (Going before) ≡ Going next → Wants value next
  return_keeps None at goes = none_goes at goes
  return_keeps (Some a) at goes = by_made a (made code depth before t place latency a) at refl (sym (move_is code depth before t place latency a at) ∙ goes)

-- the instruction by its act
with_act : (i : Instr) (value : Option Arg) → i.act ≡ Return value → i ≡ record { place = i.place; latency = i.latency; act = Return value }
with_act i value is = λ k. record { place = i.place; latency = i.latency; act = is k }

pub returns_keep_times : ReturnsKeepTimes
returns_keep_times code depth c next t i value caller waiting goes is waits_is short times =
    subst (λ (d : Configuration). IsTraced code d → Finds code d → IsTimed code depth d t
    → slice_get code.instrs d.pc ≡ Some (record { place = i.place; latency = i.latency; act = Return value })
    → step code (Going d) ≡ Going next → IsTimed code depth next
    (returned_below depth (length (open_after d.world.events)) (first_register code d) value i.latency (back_register code caller waiting)
    (length (saved_in (waiting_frames d.waiting))) (d.frame.regions + 1) t))
    (sym (λ k. record c { waiting = waits_is k }))
    (λ traced finds timed_before there steps.
    return_keeps code depth c.pc c.frame caller waiting c.world next t i.place i.latency traced finds timed_before short value there steps)
    goes.traced goes.finds times (goes.there ∙ ap (λ (x : Instr). Some x) (with_act i value is)) goes.step

pub last_returns_have_paths : LastReturnsHavePaths
last_returns_have_paths code depth c t i value v w back saved stops is last short times =
    last_returns code depth c t i.place i.latency v w back saved stops.traced stops.finds times short last value
    (stops.there ∙ ap (λ (x : Instr). Some x) (with_act i value is)) stops.step
