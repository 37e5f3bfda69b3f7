-- The times behind an instruction that makes no operation and is no return.
use Rattle.std.proofs.Common.{ℕ, zero, suc, ◌≡◌, ◌≢◌, ◌+◌, ◌-◌, ◌<◌, ◌≤◌, ◌⊎◌, ℤ, List, [], ◌∷◌, ◌++◌, length, take, drop, replicate, slice_get, Option, Some, None, arith, refl, sym, subst, ap, inl, inr, ◌∙◌}
use Rattle.std.specs.Option.{option_map}
use Rattle.std.proofs.lemmas.Bool.{cases_lt}
use Rattle.std.proofs.lemmas.Bool.Decides.{eqb_tells}
use Rattle.std.proofs.lemmas.List.{append-nil, length-append, length-replicate, length-take-le}
use Rattle.k_optab.specs.declared.class.Class.{Class}
use Rattle.k_optab.specs.declared.event.Event.{Event}
use Rattle.k_optab.specs.Events.{operations}
use Rattle.k_optab.specs.Graph.{IsTime}
use Rattle.k_optab.specs.Open.{Open, open_after}
use Rattle.k_mem.specs.declared.start.Start.TheVariants.{Unset}
use Rattle.k_mem.specs.Memory.{Memory, live_elements}
use Rattle.k_mem.specs.Calls.{push_of}
use Rattle.k_world.specs.declared.act.Act.{Act}
use Rattle.k_world.specs.declared.value.Held.{Held}
use Rattle.k_world.specs.Changes.{memory_filled, objects_kept, with_elements, without_origins}
use Rattle.k_world.specs.Values.{pointer_to}
use Rattle.k_world.specs.Worlds.{HasOrigins, World}
use Rattle.k_world.proofs.Elements.{elements_within}
use Rattle.k_code.specs.declared.code.Code.{Code}
use Rattle.k_code.specs.declared.instruction.Do.{Do}
use Rattle.k_code.specs.declared.instruction.Do.TheVariants as act
use Rattle.k_code.specs.declared.instruction.Instr.{Instr}
use Rattle.k_code.specs.Steps.{Configuration, Frame, Going, alone, at_instruction, by_kind, filled_with, object_at, onward, opened, operation_of, step, with_register}
use Rattle.k_code.proofs.Kept.{get_drop, get_first, get_take}
use Rattle.k_hcpa_meaning.specs.Locations.{elements_in, first_register, frames_of, origin_if_set, saved_in, source_at, waiting_frames}
use Rattle.k_hcpa_meaning.specs.Timed.{ArePaths, IsTimed, IsTraced, live_levels}
use Rattle.k_hcpa_meaning.specs.Timings.{Location, Register, Element, InCell, OutCell, Control, Saved, Timing, HasLevels, elements_cleared, registers_cleared, time_of}
use Rattle.k_hcpa_laws.specs.Carried.{timed, kept}
use Rattle.k_hcpa_laws.specs.Laws.{AddressesHaveNoTime, ClosingObjectsKeepsTimes, FilledElementsHaveNoTime, ForgettingKeepsTimes, Goes, JumpsKeepTimes, OpeningObjectsKeepsTimes}
use Rattle.k_hcpa_laws.proofs.Carried.{carried}
use Rattle.k_hcpa_laws.proofs.Elements.{IsOutside, filled_outside, length-elements_in, lies_at, popped_elements, pushed_elements}
use Rattle.k_hcpa_laws.proofs.Giving.{IsNoRegisterOf, shape_elements_cleared, shape_registers_cleared, time_element_cleared, time_elements_cleared, time_register_cleared, time_registers_cleared}
use Rattle.k_hcpa_laws.proofs.Lists.{get_behind, get_taken}
use Rattle.k_hcpa_laws.proofs.Operations.{landed, landed_times}
use Rattle.k_hcpa_laws.proofs.Registers.{register_changed}

-- how an instruction goes that makes no operation
pub alone_is : (code : Code) (c c' : Configuration) (i : Instr) (what : Do) → operation_of what ≡ None → Goes code c i c' → i.act ≡ what
    → alone code i.place what c ≡ Going c'
unfolding step
alone_is code c c' i what none goes same =
    ap (λ (x : Do). alone code i.place x c) (sym same)
    ∙ ap (λ (found : Option (Class × Act)). by_kind code i c found) (sym (ap operation_of same ∙ none))
    ∙ ap (λ (found : Option Instr). at_instruction code c found) (sym goes.there) ∙ goes.step

-- times of a configuration in which each location holds what it held, or nothing
pub fewer : (code : Code) (depth : ℕ) (c c' : Configuration) (t : Timing) → IsTimed code depth c t → c'.world.events ≡ c.world.events
    → length (saved_in (frames_of c')) ≡ length (saved_in (frames_of c))
    → ((at : Location) (source : Option ℕ) → source_at code c' at ≡ Some source → source_at code c at ≡ Some source)
    → IsTimed code depth c' t
fewer code depth c c' t is events saved holds = record {
  shape = subst (λ (all : List Event). HasLevels (live_levels depth all) t) (sym events) is.shape;
  saved = is.saved ∙ sym saved;
  times = λ level o at source live there held.
      subst (λ (all : List Event). IsTime (operations all) o.start source (time_of t at level)) (sym events)
      (is.times level o at source (subst (λ (all : List Event). level < live_levels depth all) events live)
      (subst (λ (all : List Event). slice_get (open_after all) level ≡ Some o) events there) (holds at source held));
  paths = subst (λ (all : List Event). ArePaths depth all t.paths) (sym events) is.paths;
}

-- times of a configuration with the same events
pub same_events : (code : Code) (depth : ℕ) (c : Configuration) (frame : Frame) (control : Option ℕ) (memory : Memory) (origins : List (Option ℕ)) (t t' : Timing)
    → IsTraced code c → IsTimed code depth c t → HasLevels (live_levels depth c.world.events) t'
    → length t'.saved ≡ length (saved_in (frame ∷ waiting_frames c.waiting)) → t'.paths ≡ t.paths
    → ((level : ℕ) (o : Open) (at : Location) (source : Option ℕ) → level < live_levels depth c.world.events
    → slice_get (open_after c.world.events) level ≡ Some o
    → source_at code (record c { frame = frame; world = record c.world { control = control; memory = memory; origins = origins } }) at ≡ Some source
    → ((source ≡ None) × (time_of t' at level ≡ 0)) ⊎ ((at' : Location) × (source_at code c at' ≡ Some source) × (time_of t at' level ≡ time_of t' at level)))
    → IsTimed code depth (record c { frame = frame; world = record c.world { control = control; memory = memory; origins = origins } }) t'
same_events code depth c frame control memory origins t t' traced is shape saved paths each =
    carried code depth c (record c { frame = frame; world = record c.world { control = control; memory = memory; origins = origins } }) t t' []
    traced is (sym (append-nil (operations c.world.events))) shape saved
    (subst (λ (all : List ℕ). ArePaths depth c.world.events all) (sym paths) is.paths)
    (λ level o at source live there holds. elim (each level o at source live there holds) [
      | inl none ↦ timed (subst (λ (x : Option ℕ). IsTime (operations c.world.events ++ []) o.start x (time_of t' at level)) (sym none.0) none.1)
      | inr some ↦ kept some.0 live there some.1 some.2
    ])

-- a jump
pub jumps_keep_times : JumpsKeepTimes
unfolding alone operation_of
jumps_keep_times to code depth c c' t i goes same is =
    landed_times code depth c c' t is (landed (record c { pc = to }) c' (alone_is code c c' i (act.Jump to) refl goes same))

-- a register is cleared
pub forgetting_keeps_times : ForgettingKeepsTimes
unfolding alone operation_of
forgetting_keeps_times register code depth c c' t i goes same is =
    let frame : Frame = with_register (Some register) None c.frame in
    landed_times code depth (record c { frame = frame }) c' t
    (fewer code depth c (record c { frame = frame }) t is refl refl
    (λ at source held. elim (register_changed code c register None at source held) [
      | inl set ↦ absurd (cc set.is)
      | inr other ↦ other.1
    ]))
    (landed (record c { pc = c.pc + 1; frame = frame }) c' (alone_is code c c' i (act.Forget register) refl goes same))

-- what an element came from, of a list that has unset ones behind it
more_unset : (elements : List (Option ℤ)) (origins : List (Option ℕ)) (count k : ℕ) (source : Option ℕ) → length origins ≡ length elements
    → origin_if_set (slice_get (elements ++ replicate count None) k) (slice_get (origins ++ replicate count None) k) ≡ Some source
    → origin_if_set (slice_get elements k) (slice_get origins k) ≡ Some source
more_unset [] [] count k source same is = absurd (unset count k is)
  where
    unset : (n j : ℕ) → origin_if_set (slice_get (replicate n None) j) (slice_get (replicate n None) j) ≡ Some source → ⊥
    unset zero j is = cc is
    unset (suc n) zero is = cc is
    unset (suc n) (suc j) is = unset n j is
more_unset [] (x ∷ origins) count k source same is = absurd (omega arith)
more_unset (x ∷ elements) [] count k source same is = absurd (omega arith)
more_unset (x ∷ elements) (y ∷ origins) count zero source same is = is
more_unset (x ∷ elements) (y ∷ origins) count (suc k) source same is = more_unset elements origins count k source (omega arith) is

-- a world with other objects
abbrev with_objects : Memory → List (Option ℕ) → Configuration → Configuration
with_objects memory origins c = record c { world = record c.world { memory = memory; origins = origins } }

-- where elements hold what they held, or nothing, so does each location
objects_fewer : (code : Code) (depth : ℕ) (c : Configuration) (memory : Memory) (origins : List (Option ℕ)) (t : Timing) → IsTimed code depth c t
    → ((k : ℕ) (source : Option ℕ) → origin_if_set (slice_get (elements_in memory.live) k) (slice_get origins k) ≡ Some source
    → origin_if_set (slice_get (elements_in c.world.memory.live) k) (slice_get c.world.origins k) ≡ Some source)
    → IsTimed code depth (with_objects memory origins c) t
unfolding source_at
objects_fewer code depth c memory origins t is holds = fewer code depth c (with_objects memory origins c) t is refl refl each
  where
    each : (at : Location) (source : Option ℕ) → source_at code (with_objects memory origins c) at ≡ Some source → source_at code c at ≡ Some source
    each (Register r) source held = held
    each (Element k) source held = holds k source held
    each InCell source held = held
    each OutCell source held = held
    each Control source held = held
    each (Saved n) source held = held

-- as many origins as elements
as_many_origins : (c : Configuration) → HasOrigins c.world → length c.world.origins ≡ length (elements_in c.world.memory.live)
as_many_origins c has = has ∙ sym (length-elements_in c.world.memory.live)

-- an object is made
pub opening_objects_keeps_times : OpeningObjectsKeepsTimes
unfolding alone operation_of
opening_objects_keeps_times elements code depth c c' t i goes same is =
    by (push_of c.world.memory Unset elements) refl (alone_is code c c' i (act.ObjectOpen elements) refl goes same)
  where
    by : (made : Option Memory) → push_of c.world.memory Unset elements ≡ made → opened i.place c (with_elements elements c.world made) ≡ Going c'
        → IsTimed code depth c' t
    by None pushed goes_on = absurd (cc goes_on)
    by (Some m) pushed goes_on =
        let origins : List (Option ℕ) = c.world.origins ++ replicate elements None in
        landed_times code depth (with_objects m origins c) c' t
        (objects_fewer code depth c m origins t is
        (λ k source held. more_unset (elements_in c.world.memory.live) c.world.origins elements k source (as_many_origins c goes.traced.origins)
        (ap (λ (all : List (Option ℤ)). origin_if_set (slice_get all k) (slice_get origins k)) (sym (pushed_elements c.world.memory m elements pushed)) ∙ held)))
        (landed (record c { pc = c.pc + 1; world = record c.world { memory = m; origins = origins } }) c' goes_on)

-- the newest objects die
popped_origin : (slot slot' : Option (Option ℤ)) (origin origin' : Option (Option ℕ)) (source : Option ℕ)
    → ((x : Option ℤ) → slot' ≡ Some x → slot ≡ Some x) → ((y : Option ℕ) → origin' ≡ Some y → origin ≡ Some y)
    → origin_if_set slot' origin' ≡ Some source → origin_if_set slot origin ≡ Some source
popped_origin slot None origin origin' source slots origins held = absurd (cc held)
popped_origin slot (Some None) origin origin' source slots origins held = absurd (cc held)
popped_origin slot (Some (Some value)) origin origin' source slots origins held =
    ap (λ (x : Option (Option ℤ)). origin_if_set x origin) (slots (Some value) refl) ∙ origins source held

pub closing_objects_keeps_times : ClosingObjectsKeepsTimes
unfolding alone operation_of
closing_objects_keeps_times count code depth c c' t i goes same is =
    let keep : ℕ = length c.world.memory.live - count in
    let kept_world : World = objects_kept c.world keep in
    landed_times code depth (with_objects kept_world.memory kept_world.origins c) c' t
    (objects_fewer code depth c kept_world.memory kept_world.origins t is
    (λ k source held. popped_origin (slice_get (elements_in c.world.memory.live) k) (slice_get (elements_in kept_world.memory.live) k)
    (slice_get c.world.origins k) (slice_get kept_world.origins k) source
    (λ x found. popped_elements c.world.memory.live keep k x found)
    (λ y found. get_taken (live_elements kept_world.memory) c.world.origins k y found) held))
    (landed (record c { pc = c.pc + 1; world = kept_world }) c' (alone_is code c c' i (act.ObjectsClose count) refl goes same))

-- an address is no operation's
pub addresses_have_no_time : AddressesHaveNoTime
unfolding alone operation_of
addresses_have_no_time home offset to code depth c c' t i goes same is =
    let slot : Option Held = option_map (λ (n : ℕ). pointer_to n offset) (object_at home c) in
    let frame : Frame = with_register (Some to) slot c.frame in
    let after : Timing = registers_cleared (first_register code c + to) 1 t in
    landed_times code depth (record c { frame = frame }) c' after
    (same_events code depth c frame c.world.control c.world.memory c.world.origins t after goes.traced is
    (shape_registers_cleared (live_levels depth c.world.events) (first_register code c + to) 1 t is.shape) is.saved refl
    (λ level o at source live there held. elim (register_changed code c to slot at source held) [
      | inl set ↦ inl (
        sym set.from ∙ no_source (object_at home c) set.held set.is,
        ap (λ (x : Location). time_of after x level) set.here
            ∙ time_register_cleared (live_levels depth c.world.events) (first_register code c + to) 1 t (first_register code c + to) level is.shape live
            (omega arith) (omega arith),
      )
      | inr other ↦ inr (
        at,
        other.1,
        sym (time_registers_cleared (live_levels depth c.world.events) (first_register code c + to) 1 t at level is.shape live (outside at other.0)),
      )
    ]))
    (landed (record c { pc = c.pc + 1; frame = frame }) c' (alone_is code c c' i (act.Address home offset to) refl goes same))
  where
    no_source : (found : Option ℕ) (held : Held) → option_map (λ (n : ℕ). pointer_to n offset) found ≡ Some held → held.source ≡ None
    no_source None held is = absurd (cc is)
    no_source (Some n) held is = (let same : pointer_to n offset ≡ held = cc is in sym (ap (λ (x : Held). x.source) same))

    outside : (at : Location) → at ≢ Register (first_register code c + to) → IsNoRegisterOf (first_register code c + to) 1 at
    outside (Register k) differs = elim (cases_lt k (first_register code c + to)) [
      | inl before ↦ inl before
      | inr behind ↦ elim (eqb_tells k (first_register code c + to)) [
        | inl here ↦ absurd (differs (ap (λ (n : ℕ). Register n) here.1))
        | inr other ↦ (let differ : k ≢ first_register code c + to = other.1 in inr (omega arith))
      ]
    ]
    outside (Element e) differs = tt
    outside InCell differs = tt
    outside OutCell differs = tt
    outside Control differs = tt
    outside (Saved n) differs = tt

-- one of so many that are none
none_of : (count k : ℕ) → k < count → slice_get (replicate {A = Option ℕ} count None) k ≡ Some None
none_of zero k below = absurd (omega arith)
none_of (suc count) zero below = refl
none_of (suc count) (suc k) below = none_of count k (omega arith)

module _ (origins : List (Option ℕ)) (first count : ℕ) (within : first + count ≤ length origins) where
  -- the origins without those of some elements
  abbrev without_some : List (Option ℕ)
  without_some = (take first origins ++ replicate count None) ++ drop (first + count) origins

  front_length : length (take first origins ++ replicate count None) ≡ first + count
  front_length = omega (arith, length-append (take first origins) (replicate count None), length-take-le first origins (omega arith), length-replicate {A = Option ℕ} count None)

  -- those outside stay
  origin_outside : (k : ℕ) → IsOutside first count k → slice_get without_some k ≡ slice_get origins k
  origin_outside k (inl before) =
      get_first (take first origins ++ replicate count None) (drop (first + count) origins) k (omega (arith, front_length))
      ∙ get_first (take first origins) (replicate count None) k (omega (arith, length-take-le first origins (omega arith)))
      ∙ get_take first origins k before
  origin_outside k (inr behind) =
      get_behind (take first origins ++ replicate count None) (drop (first + count) origins) k (k - (first + count)) (omega (arith, front_length))
      ∙ get_drop (first + count) origins (k - (first + count))
      ∙ (let number : first + count + (k - (first + count)) ≡ k = omega arith in ap (λ (n : ℕ). slice_get origins n) number)

  -- and these are none
  origin_inside : (k : ℕ) → first ≤ k → k < first + count → slice_get without_some k ≡ Some None
  origin_inside k low high =
      get_first (take first origins ++ replicate count None) (drop (first + count) origins) k (omega (arith, front_length))
      ∙ get_behind (take first origins) (replicate count None) k (k - first) (omega (arith, length-take-le first origins (omega arith)))
      ∙ none_of count (k - first) (omega arith)

-- the origin of an element that is set
set_origin : (slot : Option (Option ℤ)) (origin : Option (Option ℕ)) (source : Option ℕ) → origin_if_set slot origin ≡ Some source → origin ≡ Some source
set_origin None origin source is = absurd (cc is)
set_origin (Some None) origin source is = absurd (cc is)
set_origin (Some (Some value)) origin source is = is

-- an object is filled
pub filled_elements_have_no_time : FilledElementsHaveNoTime
unfolding alone operation_of source_at
filled_elements_have_no_time local values object first count code depth c c' t i goes same at from long is =
    landed_times code depth (with_objects memory origins c) c' after
    (same_events code depth c c.frame c.world.control memory origins t after goes.traced is
    (shape_elements_cleared (live_levels depth c.world.events) first count t is.shape) is.saved refl each)
    (landed (record c { pc = c.pc + 1; world = record c.world { memory = memory; origins = origins } }) c' goes_on)
  where
    memory : Memory
    memory = memory_filled c.world.memory object values

    origins : List (Option ℕ)
    origins = (take first c.world.origins ++ replicate count None) ++ drop (first + count) c.world.origins

    after : Timing
    after = elements_cleared first count t

    within : first + count ≤ length c.world.origins
    within = omega (arith, goes.traced.origins, elements_within c.world.memory object first count goes.traced.laid from long)

    goes_on : Going (record c { pc = c.pc + 1; world = record c.world { memory = memory; origins = origins } }) ≡ Going c'
    goes_on =
        sym (ap (λ (found : Option ℕ). onward c c.frame (filled_with values found c.world)) at
        ∙ (λ j. onward c c.frame (record c.world { memory = memory; origins = without_origins (from j) (long j) c.world.origins })))
        ∙ alone_is code c c' i (act.Fill local values) refl goes same

    each : (level : ℕ) (o : Open) (at' : Location) (source : Option ℕ) → level < live_levels depth c.world.events
        → slice_get (open_after c.world.events) level ≡ Some o → source_at code (with_objects memory origins c) at' ≡ Some source
        → ((source ≡ None) × (time_of after at' level ≡ 0))
        ⊎ ((x : Location) × (source_at code c x ≡ Some source) × (time_of t x level ≡ time_of after at' level))
    each level o (Register r) source live there held =
        inr (Register r, held, sym (time_elements_cleared (live_levels depth c.world.events) first count t (Register r) level is.shape live tt))
    each level o (Element k) source live there held = elim (cases_lt k first) [
      | inl before ↦ outside (inl before)
      | inr from_first ↦ elim (cases_lt k (first + count)) [
        | inl inside ↦ inl (
          (let none : Some None ≡ Some source =
              sym (origin_inside c.world.origins first count within k from_first inside) ∙ set_origin (slice_get (elements_in memory.live) k) (slice_get origins k) source held in
              sym (cc none)),
          time_element_cleared (live_levels depth c.world.events) first count t k level is.shape live from_first inside,
        )
        | inr behind ↦ outside (inr behind)
      ]
    ]
      where
        outside : IsOutside first count k → ((source ≡ None) × (time_of after (Element k) level ≡ 0))
            ⊎ ((x : Location) × (source_at code c x ≡ Some source) × (time_of t x level ≡ time_of after (Element k) level))
        outside out = inr (
          Element k,
          (λ j. origin_if_set
              (sym (filled_outside c.world.memory object first count k values (lies_at c.world.memory object first count goes.traced.laid from long) out) j)
              (sym (origin_outside c.world.origins first count within k out) j)) ∙ held,
          sym (time_elements_cleared (live_levels depth c.world.events) first count t (Element k) level is.shape live out),
        )
    each level o InCell source live there held =
        inr (InCell, held, sym (time_elements_cleared (live_levels depth c.world.events) first count t InCell level is.shape live tt))
    each level o OutCell source live there held =
        inr (OutCell, held, sym (time_elements_cleared (live_levels depth c.world.events) first count t OutCell level is.shape live tt))
    each level o Control source live there held =
        inr (Control, held, sym (time_elements_cleared (live_levels depth c.world.events) first count t Control level is.shape live tt))
    each level o (Saved n) source live there held =
        inr (Saved n, held, sym (time_elements_cleared (live_levels depth c.world.events) first count t (Saved n) level is.shape live tt))
