-- Operations keep a world sound.
use Rattle.std.proofs.Common.{◌≡◌, ◌≢◌, ℕ, zero, suc, ◌+◌, ◌-◌, ◌*◌, ◌<◌, ◌≤◌, ℤ, List, [], ◌∷◌, ◌++◌, length, Option, Some, None, Result, Ok, Err, Bool, true, false, nat_eq, if◌then◌else◌, refl, sym, ◌∙◌, subst, ap, arith, slice_get, slice_set, length-append}
use Rattle.std.proofs.lemmas.Bool.{eqb-false}
use Rattle.k_num.specs.declared.place.Place.{Place}
use Rattle.k_optab.specs.declared.class.Class.{Class}
use Rattle.k_optab.specs.declared.event.Event.{Event}
use Rattle.k_optab.specs.declared.event.Event.TheVariants.{Op}
use Rattle.k_optab.specs.declared.event.Src.{Src}
use Rattle.k_optab.specs.Events.{Operation, operations, SourcesAreEarlier, AreBefore, total_latency}
use Rattle.k_optab.proofs.Trees.{operations-append}
use Rattle.k_ending.specs.declared.ending.End.{End}
use Rattle.k_ending.specs.declared.ending.End.TheVariants.{Trapped, OutOfSteps}
use Rattle.k_ending.specs.declared.ending.Trap.{Trap}
use Rattle.k_ending.specs.declared.ending.Trap.TheVariants.{Uninit}
use Rattle.k_mem.specs.declared.pointer.Pointer.{Pointer}
use Rattle.k_mem.specs.Memory.{Memory}
use Rattle.k_world.specs.declared.act.Act.{Act}
use Rattle.k_world.specs.declared.act.Act.TheVariants as act
use Rattle.k_world.specs.declared.value.Held.{Held}
use Rattle.k_world.specs.declared.value.Read.{Read}
use Rattle.k_world.specs.declared.value.Value.{Value}
use Rattle.k_world.specs.Acts.{Given, work, effect, hidden, pointer_and_number, one_pointer, written, store_effect, output_effect, with_origin, element_written, element_read, origin_of, origin_or_none}
use Rattle.k_world.specs.Deeds.{deed, deeds_behind}
use Rattle.k_world.specs.Operands.{are_set, values_of, source_in, source_before, sources_before, sources}
use Rattle.k_world.specs.Operations.{Made, Gives, Ends, operation, acted, counted, event_of}
use Rattle.k_world.specs.Worlds.{World, HasOrigins}
use Rattle.k_world.specs.WorldLaws.{IsMade, AreMade, AllComeFrom, IsEarly, IsSound, HasOneMore, IsCounted, LeavesSound, OperationsStaySound, WhereMade, OperationsCount, ControlStays, TestsControl, CallsStay, TellsDeed, OperationsTellDeeds, OriginsStay}
use Rattle.k_world.proofs.Effects.{framed, effect_frame, effect_control, test_control, effect_objects, effect_origins}
use Rattle.k_world.proofs.MoreOperations.{earlier_more, total-append}
use Rattle.k_world.proofs.Operations.{operation_out, operation_unset, operation_acts}

-- the bound on the work has room for one operation more
one_more : (total made most latency : ℕ) → total ≤ made * most → latency ≤ most → total + (latency + 0) ≤ (made + 1) * most
one_more total made most latency h short = grind arith

-- what came from the first operations came from the first of more
made_later : (a b : ℕ) (source : Option ℕ) → a ≤ b → IsMade a source → IsMade b source
made_later a b None low h = tt
made_later a b (Some number) low h = omega arith

all_later : (a b : ℕ) (sources : List (Option ℕ)) → a ≤ b → AreMade a sources → AreMade b sources
all_later a b [] low h = tt
all_later a b (source ∷ sources) low h = (made_later a b source low h.0, all_later a b sources low h.1)

entry_made : (made : ℕ) (origins : List (Option ℕ)) (element : ℕ) → AreMade made origins → IsMade made (origin_or_none (slice_get origins element))
entry_made made [] element h = tt
entry_made made (origin ∷ origins) zero h = h.0
entry_made made (origin ∷ origins) (suc element) h = entry_made made origins element h.1

origin_made : (made : ℕ) (element : Option ℕ) (origins : List (Option ℕ)) → AreMade made origins → IsMade made (origin_of element origins)
origin_made made None origins h = tt
origin_made made (Some element) origins h = entry_made made origins element h

set_made : (made : ℕ) (origins : List (Option ℕ)) (element : ℕ) (source : Option ℕ) → IsMade made source → AreMade made origins
    → AreMade made (slice_set origins element source)
set_made made [] element source one h = tt
set_made made (origin ∷ origins) zero source one h = (one, h.1)
set_made made (origin ∷ origins) (suc element) source one h = (h.0, set_made made origins element source one h.1)

with_made : (made : ℕ) (element : Option ℕ) (number : ℕ) (origins : List (Option ℕ)) → number < made → AreMade made origins
    → AreMade made (with_origin element number origins)
with_made made None number origins one h = h
with_made made (Some element) number origins one h = set_made made origins element (Some number) one h

-- what a world holds came from the first operations
pub record HoldsMade (made : ℕ) (w : World) : Type 0 where
  control : IsMade made w.control
  in_cell : IsMade made w.in_cell
  out_cell : IsMade made w.out_cell
  elements : AreMade made w.origins

store_made : (made number : ℕ) (s : Option (Pointer × ℤ)) (w : World) → number < made → HoldsMade made w → HoldsMade made (store_effect number s w)
store_made made number None w one h = h
store_made made number (Some s) w one h = record {
  control = h.control;
  in_cell = h.in_cell;
  out_cell = h.out_cell;
  elements = with_made made (element_written w.memory (Some s)) number w.origins one h.elements;
}

output_made : (made number : ℕ) (bytes : Result (List ℕ) Trap) (w : World) → number < made → HoldsMade made w → HoldsMade made (output_effect number bytes w)
output_made made number (Ok bytes) w one h = record { control = h.control; in_cell = h.in_cell; out_cell = one; elements = h.elements }
output_made made number (Err t) w one h = h

-- what an act changes came from the operation that it is
effect_made : (what : Act) (made number : ℕ) (values : List Value) (w : World) → number < made → HoldsMade made w → HoldsMade made (effect what number values w)
unfolding effect
effect_made (act.Binary op kind) made number values w one h = h
effect_made (act.Unary op kind) made number values w one h = h
effect_made (act.Convert kind) made number values w one h = h
effect_made act.Move made number values w one h = h
effect_made (act.Offset minus scale) made number values w one h = h
effect_made (act.PtrCompare op) made number values w one h = h
effect_made (act.PtrDistance scale) made number values w one h = h
effect_made act.Load made number values w one h = h
effect_made act.Store made number values w one h = store_made made number (pointer_and_number values) w one h
effect_made act.Input made number values w one h = record { control = h.control; in_cell = one; out_cell = h.out_cell; elements = h.elements }
effect_made (act.Output what) made number values w one h = output_made made number (written what values) w one h
effect_made act.Test made number values w one h = record { control = one; in_cell = h.in_cell; out_cell = h.out_cell; elements = h.elements }
effect_made act.Call made number values w one h = h

-- what a construct does not write came from an earlier one
hidden_made : (what : Act) (values : List Value) (w : World) → HoldsMade w.made w → IsMade w.made (hidden what values w)
unfolding hidden
hidden_made (act.Binary op kind) values w h = tt
hidden_made (act.Unary op kind) values w h = tt
hidden_made (act.Convert kind) values w h = tt
hidden_made act.Move values w h = tt
hidden_made (act.Offset minus scale) values w h = tt
hidden_made (act.PtrCompare op) values w h = tt
hidden_made (act.PtrDistance scale) values w h = tt
hidden_made act.Load values w h = origin_made w.made (element_read w.memory (one_pointer values)) w.origins h.elements
hidden_made act.Store values w h = tt
hidden_made act.Input values w h = h.in_cell
hidden_made (act.Output what) values w h = h.out_cell
hidden_made act.Test values w h = tt
hidden_made act.Call values w h = tt

source_earlier : (made : ℕ) (source : Option ℕ) (broken : Bool) (sources : List Src) → IsMade made source → AreBefore made sources
    → AreBefore made (source_before source broken sources)
source_earlier made None broken sources one more = more
source_earlier made (Some number) broken sources one more = (one, more)

reads_earlier : (made : ℕ) (reads : List Read) (sources : List Src) → AllComeFrom made reads → AreBefore made sources
    → AreBefore made (sources_before reads sources)
reads_earlier made [] sources come more = more
reads_earlier made (r ∷ reads) sources come more =
    source_earlier made (source_in r.slot) r.broken (sources_before reads sources) come.0 (reads_earlier made reads sources come.1 more)

-- all sources of an operation are earlier ones
sources_earlier : (made : ℕ) (reads : List Read) (hid control : Option ℕ) → AllComeFrom made reads → IsMade made hid → IsMade made control
    → AreBefore made (sources reads hid control)
sources_earlier made reads hid control come one two =
    reads_earlier made reads (source_before hid false (source_before control false [])) come
    (source_earlier made hid false (source_before control false []) one (source_earlier made control false [] two tt))

-- an operation goes one of four ways
pub operation_ways : (P : Made → Type 0) (class : Class) (latency : ℕ) (place : Place) (what : Act) (reads : List Read) (w : World)
    → ((end : End) → IsEarly end → P (Ends end w))
    → (nat_eq w.left 0 ≡ false → (v : Value) → work what (values_of reads) w ≡ Ok v
    → P (Gives (record { value = v; source = Some w.made }) (effect what w.made (values_of reads) (counted class latency place what reads w))))
    → P (operation class latency place what reads w)
operation_ways P class latency place what reads w ends gives = left (nat_eq w.left 0) refl
  where
    given : nat_eq w.left 0 ≡ false → (r : Given) → work what (values_of reads) w ≡ r → P (acted class latency place what reads w r)
    given some (Ok v) is = gives some v is
    given some (Err t) is = ends (Trapped t place) tt

    set : nat_eq w.left 0 ≡ false → (b : Bool) → are_set reads ≡ b → P (operation class latency place what reads w)
    set some true is = subst P (sym (operation_acts class latency place what reads w some is)) (given some (work what (values_of reads) w) refl)
    set some false is = subst P (sym (operation_unset class latency place what reads w some is)) (ends (Trapped Uninit place) tt)

    left : (b : Bool) → nat_eq w.left 0 ≡ b → P (operation class latency place what reads w)
    left true none = subst P (sym (operation_out class latency place what reads w none)) (ends OutOfSteps tt)
    left false some = set some (are_set reads) refl

-- the same, whatever value the act has
pub operation_cases : (P : Made → Type 0) (class : Class) (latency : ℕ) (place : Place) (what : Act) (reads : List Read) (w : World)
    → ((end : End) → IsEarly end → P (Ends end w))
    → (nat_eq w.left 0 ≡ false → (v : Value) → P (Gives (record { value = v; source = Some w.made }) (effect what w.made (values_of reads) (counted class latency place what reads w))))
    → P (operation class latency place what reads w)
operation_cases P class latency place what reads w ends gives = operation_ways P class latency place what reads w ends (λ some v is. gives some v)

module _ (class : Class) (latency : ℕ) (place : Place) (what : Act) (reads : List Read) (w : World) where
  -- the world behind an operation that gives a value
  abbrev behind : World
  behind = effect what w.made (values_of reads) (counted class latency place what reads w)

  -- its events, counts and calls are those of the world in which the operation was counted
  behind_frame : behind ≡ framed (w.events ++ event_of class latency place what reads w ∷ []) (w.made + 1) (w.left - 1) w.calls w.size w.telling (counted class latency place what reads w).deeds behind
  behind_frame = effect_frame what w.made (values_of reads) (counted class latency place what reads w)

  behind_counted : nat_eq w.left 0 ≡ false → IsCounted w behind
  behind_counted some =
      let left : w.left ≡ 0 → ⊥ = eqb-false w.left 0 some in
      let fewer : behind.left ≡ w.left - 1 = ap (λ (v : World). v.left) behind_frame in
      (ap (λ (v : World). v.made) behind_frame, omega (arith, left, fewer))

  pub where_counted : WhereMade IsCounted w (operation class latency place what reads w)
  where_counted = operation_cases (WhereMade IsCounted w) class latency place what reads w (λ end early. tt) (λ some v. behind_counted some)

  -- what the operation did is told
  pub where_told : TellsDeed what reads w (operation class latency place what reads w)
  where_told = operation_ways (TellsDeed what reads w) class latency place what reads w (λ end early. tt)
      (λ some v is. (
        ap (λ (x : World). x.telling) behind_frame,
        ap (λ (x : World). x.deeds) behind_frame
            ∙ ap (λ (g : Given). deeds_behind w.telling w.deeds (deed what reads (hidden what (values_of reads) w) w.control g)) is,
      ))

  pub where_control : what ≢ act.Test → WhereMade (λ before after. after.control ≡ before.control) w (operation class latency place what reads w)
  where_control other = operation_cases (WhereMade (λ before after. after.control ≡ before.control) w) class latency place what reads w (λ end early. tt)
      (λ some v. effect_control what w.made (values_of reads) (counted class latency place what reads w) other)

  pub where_calls : WhereMade (λ before after. (after.calls ≡ before.calls) × (after.size ≡ before.size) × (after.memory.made ≡ before.memory.made))
      w (operation class latency place what reads w)
  where_calls =
      operation_cases (WhereMade (λ before after. (after.calls ≡ before.calls) × (after.size ≡ before.size) × (after.memory.made ≡ before.memory.made)) w)
      class latency place what reads w (λ end early. tt)
      (λ some v. (
        ap (λ (x : World). x.calls) behind_frame,
        ap (λ (x : World). x.size) behind_frame,
        effect_objects what w.made (values_of reads) (counted class latency place what reads w),
      ))

  pub where_origins : HasOrigins w → WhereMade (λ before after. HasOrigins after) w (operation class latency place what reads w)
  where_origins has = operation_cases (WhereMade (λ before after. HasOrigins after) w) class latency place what reads w (λ end early. tt)
      (λ some v. effect_origins what w.made (values_of reads) (counted class latency place what reads w) has)

  module _ (budget most : ℕ) (short : latency ≤ most) (sound : IsSound budget most w) (come : AllComeFrom w.made reads) where
    holds : HoldsMade w.made w
    holds = record { control = sound.control; in_cell = sound.in_cell; out_cell = sound.out_cell; elements = sound.elements }

    holds_later : HoldsMade (w.made + 1) (counted class latency place what reads w)
    holds_later = record {
      control = made_later w.made (w.made + 1) w.control (omega arith) sound.control;
      in_cell = made_later w.made (w.made + 1) w.in_cell (omega arith) sound.in_cell;
      out_cell = made_later w.made (w.made + 1) w.out_cell (omega arith) sound.out_cell;
      elements = all_later w.made (w.made + 1) w.origins (omega arith) sound.elements;
    }

    holds_behind : HoldsMade (w.made + 1) behind
    holds_behind = effect_made what (w.made + 1) w.made (values_of reads) (counted class latency place what reads w) (omega arith) holds_later

    behind_sound : nat_eq w.left 0 ≡ false → IsSound budget most behind
    behind_sound some =
        let hid : Option ℕ = hidden what (values_of reads) w in
        let op : Operation = record { class = class; latency = latency; sources = sources reads hid w.control; place = place } in
        let before : List Operation = operations w.events in
        let grown : operations (w.events ++ event_of class latency place what reads w ∷ []) ≡ before ++ op ∷ [] = operations-append w.events (event_of class latency place what reads w ∷ []) in
        let own : AreBefore (length before) op.sources = rw sound.counted (sources_earlier w.made reads hid w.control come (hidden_made what (values_of reads) w holds) sound.control) in
        let left : w.left ≡ 0 → ⊥ = eqb-false w.left 0 some in
        let steps : w.made + w.left ≡ budget = sound.steps in
        let work : total_latency before ≤ w.made * most = sound.work in
        let count : length before ≡ w.made = sound.counted in
        let framed_sound : IsSound budget most (framed (w.events ++ event_of class latency place what reads w ∷ []) (w.made + 1) (w.left - 1) w.calls w.size w.telling (counted class latency place what reads w).deeds behind) = record {
          earlier = subst SourcesAreEarlier (sym grown) (earlier_more before op sound.earlier own);
          counted = ap length grown ∙ length-append before (op ∷ []) ∙ omega (arith, count);
          steps = omega (arith, steps, left);
          work = rw (grown, total-append before (op ∷ [])) (one_more (total_latency before) w.made most latency work short);
          control = holds_behind.control;
          in_cell = holds_behind.in_cell;
          out_cell = holds_behind.out_cell;
          elements = holds_behind.elements;
        } in
        subst (IsSound budget most) (sym behind_frame) framed_sound

    one_more_behind : HasOneMore w.events behind.events
    one_more_behind = record {
      class = class;
      latency = latency;
      sources = sources reads (hidden what (values_of reads) w) w.control;
      place = place;
      is = ap (λ (v : World). v.events) behind_frame;
    }

    pub operation_sound : LeavesSound budget most w (operation class latency place what reads w)
    operation_sound = operation_cases (LeavesSound budget most w) class latency place what reads w (λ end early. (early, refl))
        (λ some v. (
          behind_sound some,
          (let more : behind.made ≡ w.made + 1 = ap (λ (x : World). x.made) behind_frame in omega (arith, more)),
          one_more_behind,
        ))

pub operations_stay_sound : OperationsStaySound
operations_stay_sound budget most class latency place what reads w short sound come = operation_sound class latency place what reads w budget most short sound come

pub operations_count : OperationsCount
operations_count class latency place what reads w = where_counted class latency place what reads w

pub operations_tell_deeds : OperationsTellDeeds
operations_tell_deeds class latency place what reads w = where_told class latency place what reads w

pub control_stays : ControlStays
control_stays class latency place what reads w other = where_control class latency place what reads w other

pub tests_control : TestsControl
tests_control class latency place reads w =
    operation_cases (WhereMade (λ before after. after.control ≡ Some before.made) w) class latency place act.Test reads w (λ end early. tt)
    (λ some v. test_control w.made (values_of reads) (counted class latency place act.Test reads w))

pub calls_stay : CallsStay
calls_stay class latency place what reads w = where_calls class latency place what reads w

pub origins_stay : OriginsStay
origins_stay class latency place what reads w has = where_origins class latency place what reads w has
