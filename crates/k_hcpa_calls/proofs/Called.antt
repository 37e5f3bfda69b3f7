-- A call is made: its parameters have the times of their operands, and its region is entered.
use Rattle.std.proofs.Common.{◌≡◌, ℕ, ◌+◌, ◌<◌, ◌≤◌, ◌^◌, List, [], ◌∷◌, ◌++◌, length, map, get_or, slice_get, Option, Some, None, Bool, true, false, refl, sym, ◌∙◌, ap, arith, subst}
use Rattle.std.specs.Prelude.{if◌then◌else◌, nat_lt, option_map}
use Rattle.std.proofs.lemmas.Bool.{ltb-true}
use Rattle.std.proofs.lemmas.List.{append-nil, get_or-map, length-map}
use Rattle.std.proofs.lemmas.Option.{none-some, same_Some, slice_get-map}
use Rattle.k_num.specs.declared.place.Place.{Place}
use Rattle.k_optab.specs.declared.class.Class.TheVariants as class
use Rattle.k_optab.specs.declared.event.Event.TheVariants.{Enter}
use Rattle.k_optab.specs.Events.{Operation, operations, total_latency}
use Rattle.k_optab.specs.Graph.{IsTime}
use Rattle.k_optab.specs.Open.{Open, open_after}
use Rattle.k_ending.specs.declared.ending.End.{End}
use Rattle.k_ending.specs.declared.ending.End.TheVariants.{Trapped}
use Rattle.k_ending.specs.declared.ending.Trap.TheVariants.{StackOverflow}
use Rattle.k_world.specs.declared.act.Act.TheVariants as does
use Rattle.k_world.specs.declared.value.Held.{Held}
use Rattle.k_world.specs.declared.value.Read.{Read}
use Rattle.k_world.specs.Operands.{held_by}
use Rattle.k_world.specs.Operations.{Made, Gives, Ends, operation}
use Rattle.k_world.specs.Worlds.{World}
use Rattle.k_code.specs.declared.code.Code.{Code}
use Rattle.k_code.specs.declared.code.CodeFunc.{CodeFunc}
use Rattle.k_code.specs.declared.instruction.Arg.{Arg}
use Rattle.k_code.specs.declared.instruction.Arg.TheVariants.{Number, Reg}
use Rattle.k_code.specs.declared.instruction.Do.TheVariants.{Call}
use Rattle.k_code.specs.declared.instruction.Instr.{Instr}
use Rattle.k_code.specs.Finds.{Finds}
use Rattle.k_code.specs.Named.{operands, up_to_operands}
use Rattle.k_code.specs.Steps.{Configuration, Run, Going, Over, at_instruction, behind, by_operation, called, entered, operation_of, overflows, parameters, read_of, reads_of, step}
use Rattle.k_hcpa_meaning.specs.Calls.{arguments_handed, called_below}
use Rattle.k_hcpa_meaning.specs.Locations.{first_register, frames_of, operand_locations, register_at, saved_in, source_at, width, widths}
use Rattle.k_hcpa_meaning.specs.Timed.{ArePaths, CameEarlier, IsTimed, IsTraced, live_levels}
use Rattle.k_hcpa_meaning.specs.Timings.{Location, Register, Element, InCell, OutCell, Control, Saved, Timing, begun, entered_below, operated, raised_all, settled, time_of, times_at}
use Rattle.k_hcpa_laws.specs.Carried.{IsCarried, timed, kept}
use Rattle.k_hcpa_laws.proofs.Giving.{shape_registers}
use Rattle.k_hcpa_laws.proofs.Levels.{at_events, timed_entered}
use Rattle.k_hcpa_laws.proofs.Making.{IsMaking}
use Rattle.k_hcpa_laws.proofs.Opened.{entered_operations}
use Rattle.k_hcpa_laws.proofs.Registers.{register_of_newest, source_of_register}
use Rattle.k_hcpa_laws.proofs.Timings.{raised_all_is, row_over, with_row}
use Rattle.k_hcpa_calls.specs.Laws.{CallsHavePaths, CallsKeepTimes, HandedCallsHavePaths}
use Rattle.k_hcpa_calls.proofs.Handing.{arguments_are, handed_at, handed_low, handed_parameter, listed_low}
use Rattle.k_hcpa_calls.proofs.Made.{call_quiet, called_source, more_operations, operands_few, operation_timed, same_open}
use Rattle.k_hcpa_calls.proofs.Outcomes.{apart, same_going, same_over}
use Rattle.k_hcpa_calls.proofs.Carrying.{still}
use Rattle.k_hcpa_calls.proofs.Registers.{Place as Where, waits, own, none, place_of, register_below}

-- the time of a register, and where registers were changed at each level
register_time : (s : Timing) (k level : ℕ) → level < length s.registers → time_of s (Register k) level ≡ get_or s.registers level (λ _. 0) k
unfolding times_at
register_time s k level below = get_or-map (λ (m : ℕ → ℕ). m k) s.registers level (λ _. 0) 0 below

changed_time : (s : Timing) (f : (ℕ → ℕ) → ℕ → ℕ) (k level : ℕ) → level < length s.registers
    → time_of (record s { registers = map f s.registers }) (Register k) level ≡ f (get_or s.registers level (λ _. 0)) k
changed_time s f k level below =
    register_time (record s { registers = map f s.registers }) k level (omega (arith, length-map s.registers f, below))
    ∙ ap (λ (m : ℕ → ℕ). m k) (get_or-map f s.registers level (λ _. 0) (λ _. 0) below)

-- what the operands hold
abbrev slots : Configuration → List Arg → List (Option Held)
slots c args = map (λ (r : Read). r.slot) (map (read_of c.frame.registers) args)

-- the configuration in which a call begins, but for the event of its region
abbrev callee : Configuration → World → ℕ → List Arg → Option ℕ → CodeFunc → Configuration
callee c w func args to f = record {
  pc = f.entry;
  frame = record { func = func; registers = parameters f.params (slots c args); saved = []; regions = 0; base = length w.memory.live };
  waiting = record { frame = c.frame; back = c.pc + 1; to = to } ∷ c.waiting;
  world = record w { calls = w.calls + 1; size = w.size + f.size };
}

-- and with it
abbrev begun_call : Configuration → World → ℕ → List Arg → Option ℕ → CodeFunc → Configuration
begun_call c w func args to f = at_events (w.events ++ Enter f.region ∷ []) (callee c w func args to f)

-- the times in which the operands' are handed on
abbrev hands : Code → Configuration → List Arg → CodeFunc → (ℕ → ℕ) → ℕ → ℕ
hands code c args f = handed_at (first_register code c) (widths code (frames_of c)) f.params args

abbrev handed : Code → Configuration → List Arg → CodeFunc → Timing → Timing
handed code c args f s = record s { registers = map (hands code c args f) s.registers }

-- What a location holds was held before, with the same times at each level; or no operation gave it, and it has no time.
data Comes (code : Code) (c : Configuration) (s now : Timing) (count : ℕ) (at : Location) (source : Option ℕ) : Type 0 where
  same : (from : Location) → source_at code c from ≡ Some source → ((level : ℕ) → level < count → time_of s from level ≡ time_of now at level)
      → Comes code c s now count at source
  fresh : source ≡ None → ((level : ℕ) → level < count → time_of now at level ≡ 0) → Comes code c s now count at source

module _ (code : Code) (depth : ℕ) (c : Configuration) (w : World) (s : Timing) (func : ℕ) (args : List Arg) (to : Option ℕ) (f : CodeFunc)
    (few : up_to_operands args ≤ width code c.frame.func) (was : IsTimed code depth (record c { world = w }) s) where
  abbrev first : ℕ
  first = first_register code c

  abbrev next : ℕ
  next = widths code (frames_of c)

  abbrev given : List (Option Held)
  given = slots c args

  abbrev start : Configuration
  start = callee c w func args to f

  abbrev now : Timing
  now = handed code c args f s

  abbrev change : (ℕ → ℕ) → ℕ → ℕ
  change = hands code c args f

  abbrev count : ℕ
  count = live_levels depth w.events

  abbrev From : Location → Option ℕ → Type 0
  From at source = Comes code (record c { world = w }) s now count at source

  low : first + up_to_operands args ≤ next
  low = omega (arith, few)

  abbrev map_at : ℕ → ℕ → ℕ
  map_at level = get_or s.registers level (λ _. 0)

  -- the times of a register before, and behind
  old_time : (k level : ℕ) → level < count → time_of s (Register k) level ≡ map_at level k
  old_time k level live = register_time s k level (omega (arith, was.shape.registers, live))

  new_time : (k level : ℕ) → level < count → time_of now (Register k) level ≡ change (map_at level) k
  new_time k level live = changed_time s change k level (omega (arith, was.shape.registers, live))

  -- a register of the calls that wait
  waits_come : (k : ℕ) (source : Option ℕ) → k < next → source_at code (record c { world = w }) (Register k) ≡ Some source → From (Register k) source
  waits_come k source below holds =
      same (Register k) holds (λ level live. old_time k level live ∙ sym (new_time k level live ∙ handed_low first next f.params args (map_at level) k below))

  -- a parameter
  parameter_comes : (j : ℕ) (a : Arg) (source : Option ℕ) → j < f.params → slice_get args j ≡ Some a
      → option_map (λ (held : Held). held.source) (let r : Read = read_of c.frame.registers a in r.slot) ≡ Some source → From (Register (next + j)) source
  parameter_comes j (Number n) source within is holds =
      fresh (sym (same_Some None source holds))
      (λ level live. new_time (next + j) level live ∙ handed_parameter first next f.params args (map_at level) j (Number n) low within is)
  parameter_comes j (Reg r dropped) source within is holds =
      let below : first + (r + 1) ≤ next = listed_low first next args j (Reg r dropped) low is in
      same (Register (first + r)) (source_of_register code (record c { world = w }) r (omega (arith, below)) ∙ holds)
      (λ level live. old_time (first + r) level live
      ∙ sym (new_time (next + j) level live ∙ handed_parameter first next f.params args (map_at level) j (Reg r dropped) low within is))

  slot_is : (j : ℕ) → slice_get given j ≡ option_map (λ (r : Read). r.slot) (option_map (read_of c.frame.registers) (slice_get args j))
  slot_is j =
      slice_get-map (λ (r : Read). r.slot) (map (read_of c.frame.registers) args) j
      ∙ ap (option_map (λ (r : Read). r.slot)) (slice_get-map (read_of c.frame.registers) args j)

  own_comes : (j : ℕ) (source : Option ℕ) → option_map (λ (held : Held). held.source) (parameters f.params given j) ≡ Some source → From (Register (next + j)) source
  own_comes j source holds = by (nat_lt j f.params) refl holds
    where
      listed : j < f.params → (o : Option Arg) → slice_get args j ≡ o
          → option_map (λ (held : Held). held.source) (held_by (option_map (λ (r : Read). r.slot) (option_map (read_of c.frame.registers) o))) ≡ Some source
          → From (Register (next + j)) source
      listed within None is found = absurd (none-some source found)
      listed within (Some a) is found = parameter_comes j a source within is found

      by : (b : Bool) → nat_lt j f.params ≡ b → option_map (λ (held : Held). held.source) (if b then held_by (slice_get given j) else None) ≡ Some source
          → From (Register (next + j)) source
      by true is found =
          listed (ltb-true j f.params is) (slice_get args j) refl
          (ap (λ (x : Option (Option Held)). option_map (λ (held : Held). held.source) (held_by x)) (sym (slot_is j)) ∙ found)
      by false is found = absurd (none-some source found)

  register_comes : (k : ℕ) (source : Option ℕ) → option_map (λ (held : Held). held.source) (register_at code (frames_of start) k) ≡ Some source
      → Where code start.frame (frames_of c) k → From (Register k) source
  unfolding source_at
  register_comes k source holds (waits below) =
      waits_come k source below (ap (option_map (λ (held : Held). held.source)) (sym (register_below code start.frame (frames_of c) k below)) ∙ holds)
  register_comes k source holds (own j is within) =
      subst (λ n. From (Register n) source) (sym is)
      (own_comes j source (ap (option_map (λ (held : Held). held.source))
      (sym (ap (register_at code (frames_of start)) is ∙ register_of_newest code (frames_of c) start.frame j within)) ∙ holds))
  register_comes k source holds (none nothing) =
      absurd (none-some source (ap (option_map (λ (held : Held). held.source)) (sym nothing) ∙ holds))

  all_come : (at : Location) (source : Option ℕ) → source_at code start at ≡ Some source → From at source
  unfolding source_at times_at
  all_come (Register k) source holds = register_comes k source holds (place_of code start.frame (frames_of c) k)
  all_come (Element e) source holds = same (Element e) holds (λ level live. refl)
  all_come InCell source holds = same InCell holds (λ level live. refl)
  all_come OutCell source holds = same OutCell holds (λ level live. refl)
  all_come Control source holds = same Control holds (λ level live. refl)
  all_come (Saved n) source holds =
      same (Saved n) (ap (λ (saved : List (Option ℕ)). slice_get saved n) (sym (append-nil (saved_in (frames_of c)))) ∙ holds) (λ level live. refl)

  carried : (level : ℕ) (o : Open) (at : Location) (source : Option ℕ) → level < count → slice_get (open_after w.events) level ≡ Some o → From at source
      → IsCarried code depth (record c { world = w }) s (operations w.events) level o source (time_of now at level)
  carried level o at source live there (same from holds times) = kept from live there holds (times level live)
  carried level o at source live there (fresh none_is zero_is) =
      timed (subst (λ (from : Option ℕ). IsTime (operations w.events) o.start from (time_of now at level)) (sym none_is) (zero_is level live))

  -- times are heaviest paths where the call begins
  callee_timed : IsTimed code depth start now
  callee_timed =
      still code depth (record c { world = w }) start s now was refl
      (shape_registers count (map change s.registers) s was.shape (length-map s.registers change ∙ was.shape.registers))
      (was.saved ∙ ap (λ (saved : List (Option ℕ)). length saved) (sym (append-nil (saved_in (frames_of c)))))
      was.paths
      (λ level o at source live there holds. carried level o at source live there (all_come at source holds))

  module _ (traced : IsTraced code c) (more : length (operations c.world.events) ≤ length (operations w.events))
      (sources : (at : Location) → source_at code (record c { world = w }) at ≡ source_at code c at) where
    -- what the call's locations hold came from operations that were made
    came_before : (at : Location) (source : Option ℕ) → From at source → CameEarlier (length (operations w.events)) (Some source)
    came_before at None comes = tt
    came_before at (Some q) (same from holds times) =
        let before : q < c.world.made = subst (CameEarlier c.world.made) (sym (sources from) ∙ holds) (traced.came from) in
        let count_is : length (operations c.world.events) ≡ c.world.made = traced.made in
        omega (arith, before, count_is, more)
    came_before at (Some q) (fresh none_is zero_is) = absurd (none-some q (sym none_is))

    came : (at : Location) → CameEarlier (length (operations w.events)) (source_at code start at)
    came at = by (source_at code start at) refl
      where
        by : (found : Option (Option ℕ)) → source_at code start at ≡ found → CameEarlier (length (operations w.events)) found
        by None is = tt
        by (Some source) is = came_before at source (all_come at source is)

    call_timed : IsTimed code depth (begun_call c w func args to f) (entered_below depth (length (open_after w.events)) now)
    call_timed = timed_entered code depth start now callee_timed f.region came

-- the operation of a call leaves the times that were handed on
handed_settled : (first next params : ℕ) (args : List Arg) (latency : ℕ) (t : Timing) → first + up_to_operands args ≤ next
    → settled latency (arguments_handed first next params args (begun t))
    ≡ (let s : Timing = operated (operand_locations first args) latency t in record s { registers = map (handed_at first next params args) s.registers })
handed_settled first next params args latency t low =
    let locations : List Location = operand_locations first args in
    let raised : raised_all locations (begun t) ≡ with_row (row_over locations (begun t) t.control) t.paths (begun t) = raised_all_is locations (begun t) in
    let registers : (let s : Timing = operated locations latency t in s.registers) ≡ t.registers = ap (λ (x : Timing). let s : Timing = settled latency x in s.registers) raised in
    ap (settled latency) (arguments_are first next params args (begun t) low)
    ∙ (ap (λ (x : Timing). record (settled latency x) { registers = map (handed_at first next params args) t.registers }) (sym raised)
    ∙ ap (λ (all : List (ℕ → ℕ)). record (operated locations latency t) { registers = map (handed_at first next params args) all }) (sym registers))

module _ (code : Code) (depth : ℕ) (c : Configuration) (t : Timing) (place : Place) (latency : ℕ) (func : ℕ) (args : List Arg) (to : Option ℕ) where
  -- the instruction
  abbrev instr : Instr
  instr = record { place = place; latency = latency; act = Call func args to }

  abbrev made : Made
  made = operation class.Call latency place does.Call (reads_of c (Call func args to)) c.world

  -- the call behind its operation, by its function
  abbrev call_of : Option CodeFunc → World → Run
  call_of o w = called o func (slots c args) to place (record c { world = w })

  -- and where it is entered
  abbrev entry_of : CodeFunc → World → Run
  entry_of f w = entered f func (slots c args) (record { frame = c.frame; back = c.pc + 1; to = to } ∷ c.waiting) w

  module _ (at : slice_get code.instrs c.pc ≡ Some instr) (traced : IsTraced code c) (finds : Finds code c) (is : IsTimed code depth c t) where
    few : up_to_operands args ≤ width code c.frame.func
    unfolding operands
    few = operands_few code c instr finds at

    -- how a call goes: by its operation
    step_is : step code (Going c) ≡ by_operation code instr c made
    unfolding step operation_of
    step_is = ap (at_instruction code c) at

    behind_is : (held : Held) (w : World) → by_operation code instr c (Gives held w) ≡ call_of (slice_get code.funcs func) w
    unfolding behind operands
    behind_is held w = refl

    -- the times of the operation
    abbrev now_made : Timing
    now_made = operated (operand_locations (first_register code c) args) latency t

    making : (held : Held) (w : World) → made ≡ Gives held w → total_latency (operations w.events) < 2 ^ 64 → IsMaking code depth (record c { world = w }) c.world.made now_made
    making held w gives short =
        operation_timed code depth c t class.Call instr does.Call args held w (call_quiet func args to) gives at traced finds is short

    module _ (f : CodeFunc) (next : Configuration) (found : slice_get code.funcs func ≡ Some f) (short : total_latency (operations next.world.events) < 2 ^ 64) where
      abbrev Wanted : Configuration → Type 0
      Wanted d = IsTimed code depth d (called_below depth (length (open_after c.world.events)) (first_register code c) (widths code (frames_of c)) f.params args latency t)

      begun_timed : (held : Held) (w : World) → made ≡ Gives held w → entry_of f w ≡ Going next → Wanted next
      begun_timed held w gives goes =
          let there : Configuration = begun_call c w func args to f in
          let same_next : there ≡ next = same_going there next goes in
          let total : total_latency (operations w.events) < 2 ^ 64 =
          subst (λ (ops : List Operation). total_latency ops < 2 ^ 64)
          (ap (λ (d : Configuration). operations d.world.events) (sym same_next) ∙ entered_operations w.events f.region) short in
          let done = call_timed code depth c w now_made func args to f few (let m = making held w gives total in m.timed) traced
          (more_operations code depth c t class.Call instr does.Call args held w (call_quiet func args to) gives)
          (called_source code c class.Call latency place (reads_of c (Call func args to)) held w gives) in
          let count : length (open_after w.events) ≡ length (open_after c.world.events) =
          ap (λ (all : List Open). length all) (same_open code depth c t class.Call instr does.Call args held w (call_quiet func args to) gives) in
          subst Wanted same_next
          (subst (λ (u : Timing). IsTimed code depth there (entered_below depth (length (open_after c.world.events)) u))
          (sym (handed_settled (first_register code c) (widths code (frames_of c)) f.params args latency t (omega (arith, few))))
          (subst (λ (n : ℕ). IsTimed code depth there (entered_below depth n (handed code c args f now_made))) count done))

      fits : (held : Held) (w : World) → made ≡ Gives held w → (b : Bool) → (if b then Over (Trapped StackOverflow place) w else entry_of f w) ≡ Going next → Wanted next
      fits held w gives true goes = absurd (apart (Trapped StackOverflow place) w next goes)
      fits held w gives false goes = begun_timed held w gives goes

      goes_on : (m : Made) → made ≡ m → by_operation code instr c m ≡ Going next → Wanted next
      goes_on (Gives held w) gives goes =
          fits held w gives (overflows w f.size) (ap (λ (o : Option CodeFunc). call_of o w) (sym found) ∙ (sym (behind_is held w) ∙ goes))
      goes_on (Ends end w) ends goes = absurd (apart end w next goes)

      call_keeps : step code (Going c) ≡ Going next → Wanted next
      call_keeps goes = goes_on made refl (sym step_is ∙ goes)

    module _ (held : Held) (v w : World) (end : End) (short : total_latency (operations w.events) < 2 ^ 64) (gives : made ≡ Gives held v) where
      ended : (o : Option CodeFunc) → call_of o v ≡ Over end w → v ≡ w
      ended None over = absurd (apart end w (record c { world = v }) (sym over))
      ended (Some f) over = by (overflows v f.size) over
        where
          by : (b : Bool) → (if b then Over (Trapped StackOverflow place) v else entry_of f v) ≡ Over end w → v ≡ w
          by true stops = same_over (Trapped StackOverflow place) end v w stops
          by false stops = absurd (cc stops)

      call_ends : step code (Going c) ≡ Over end w → ArePaths depth w.events (let s : Timing = now_made in s.paths)
      call_ends over =
          let same_world : v ≡ w = ended (slice_get code.funcs func)
          (sym (behind_is held v) ∙ (ap (by_operation code instr c) (sym gives) ∙ (sym step_is ∙ over))) in
          let m = making held v gives (subst (λ (x : World). total_latency (operations x.events) < 2 ^ 64) (sym same_world) short) in
          subst (λ (x : World). ArePaths depth x.events (let s : Timing = now_made in s.paths)) same_world m.timed.paths

-- the instruction by its act
with_act : (i : Instr) (func : ℕ) (args : List Arg) (to : Option ℕ) → i.act ≡ Call func args to
    → i ≡ record { place = i.place; latency = i.latency; act = Call func args to }
with_act i func args to is = λ k. record { place = i.place; latency = i.latency; act = is k }

pub calls_keep_times : CallsKeepTimes
calls_keep_times code depth c next t i func args to f goes is found short times =
    call_keeps code depth c t i.place i.latency func args to (goes.there ∙ ap (λ (x : Instr). Some x) (with_act i func args to is)) goes.traced goes.finds times
    f next found short goes.step

pub calls_have_paths : CallsHavePaths
calls_have_paths code depth c t i func args to held v w end stops is gives short times =
    call_ends code depth c t i.place i.latency func args to (stops.there ∙ ap (λ (x : Instr). Some x) (with_act i func args to is)) stops.traced stops.finds times
    held v w end short
    (ap (λ (x : Instr). operation class.Call i.latency i.place does.Call (reads_of c x.act) c.world) (sym (with_act i func args to is)) ∙ gives) stops.step

pub handed_calls_have_paths : HandedCallsHavePaths
handed_calls_have_paths code depth params c t i func args to held v w end stops is gives short times =
    let low : up_to_operands args ≤ width code c.frame.func =
    few code depth c t i.place i.latency func args to (stops.there ∙ ap (λ (x : Instr). Some x) (with_act i func args to is)) stops.traced stops.finds times in
    subst (λ (s : Timing). ArePaths depth w.events s.paths)
    (sym (handed_settled (first_register code c) (widths code (frames_of c)) params args i.latency t (omega (arith, low))))
    (calls_have_paths code depth c t i func args to held v w end stops is gives short times)
