-- How acts see a world, and what they leave of it.
use Rattle.std.proofs.Common.{◌≡◌, ◌≢◌, ℕ, Bool, ℤ, List, length, Option, Some, None, Result, Ok, Err, refl, sym, ◌∙◌, ap}
use Rattle.std.proofs.Math.ListN.{length-set}
use Rattle.k_optab.specs.declared.event.Event.{Event}
use Rattle.k_ending.specs.declared.ending.Trap.{Trap}
use Rattle.k_mem.specs.declared.pointer.Pointer.{Pointer}
use Rattle.k_mem.specs.Memory.{Memory, live_elements}
use Rattle.k_mem.specs.Calls.{with_value, stored}
use Rattle.k_mem.proofs.LaidOut.{size_rewritten}
use Rattle.k_mem.proofs.Numbers.{length_with_value}
use Rattle.k_world.specs.declared.act.Act.{Act}
use Rattle.k_world.specs.declared.act.Act.TheVariants as act
use Rattle.k_world.specs.declared.value.Value.{Value}
use Rattle.k_world.specs.Acts.{work, effect, hidden, pointer_and_number, written, store_effect, output_effect, with_origin, element_written}
use Rattle.k_world.specs.Deeds.{Deed}
use Rattle.k_world.specs.Worlds.{World, HasOrigins}

-- a world with these events, counts, calls and deeds in place of its own, which no act sees
abbrev pub framed : List Event → ℕ → ℕ → ℕ → ℕ → Bool → List Deed → World → World
framed events made left calls size telling deeds w = record w { events = events; made = made; left = left; calls = calls; size = size; telling = telling; deeds = deeds }

module _ (events : List Event) (made left calls size : ℕ) (telling : Bool) (deeds : List Deed) (w : World) where
  -- what an act gives
  pub work_framed : (what : Act) (values : List Value) → work what values (framed events made left calls size telling deeds w) ≡ work what values w
  unfolding work
  work_framed (act.Binary op kind) values = refl
  work_framed (act.Unary op kind) values = refl
  work_framed (act.Convert kind) values = refl
  work_framed act.Move values = refl
  work_framed (act.Offset minus scale) values = refl
  work_framed (act.PtrCompare op) values = refl
  work_framed (act.PtrDistance scale) values = refl
  work_framed act.Load values = refl
  work_framed act.Store values = refl
  work_framed act.Input values = refl
  work_framed (act.Output what) values = refl
  work_framed act.Test values = refl
  work_framed act.Call values = refl

  -- the source of what the construct does not write
  pub hidden_framed : (what : Act) (values : List Value) → hidden what values (framed events made left calls size telling deeds w) ≡ hidden what values w
  unfolding hidden
  hidden_framed (act.Binary op kind) values = refl
  hidden_framed (act.Unary op kind) values = refl
  hidden_framed (act.Convert kind) values = refl
  hidden_framed act.Move values = refl
  hidden_framed (act.Offset minus scale) values = refl
  hidden_framed (act.PtrCompare op) values = refl
  hidden_framed (act.PtrDistance scale) values = refl
  hidden_framed act.Load values = refl
  hidden_framed act.Store values = refl
  hidden_framed act.Input values = refl
  hidden_framed (act.Output what) values = refl
  hidden_framed act.Test values = refl
  hidden_framed act.Call values = refl

  store_framed : (number : ℕ) (s : Option (Pointer × ℤ)) → store_effect number s (framed events made left calls size telling deeds w) ≡ framed events made left calls size telling deeds (store_effect number s w)
  store_framed number None = refl
  store_framed number (Some s) = refl

  output_framed : (number : ℕ) (bytes : Result (List ℕ) Trap) → output_effect number bytes (framed events made left calls size telling deeds w) ≡ framed events made left calls size telling deeds (output_effect number bytes w)
  output_framed number (Ok bytes) = refl
  output_framed number (Err t) = refl

  -- what an act changes
  pub effect_framed : (what : Act) (number : ℕ) (values : List Value) → effect what number values (framed events made left calls size telling deeds w) ≡ framed events made left calls size telling deeds (effect what number values w)
  unfolding effect
  effect_framed (act.Binary op kind) number values = refl
  effect_framed (act.Unary op kind) number values = refl
  effect_framed (act.Convert kind) number values = refl
  effect_framed act.Move number values = refl
  effect_framed (act.Offset minus scale) number values = refl
  effect_framed (act.PtrCompare op) number values = refl
  effect_framed (act.PtrDistance scale) number values = refl
  effect_framed act.Load number values = refl
  effect_framed act.Store number values = store_framed number (pointer_and_number values)
  effect_framed act.Input number values = refl
  effect_framed (act.Output what) number values = output_framed number (written what values)
  effect_framed act.Test number values = refl
  effect_framed act.Call number values = refl

-- an act leaves events, counts, calls and deeds as they are
pub effect_frame : (what : Act) (number : ℕ) (values : List Value) (w : World)
    → effect what number values w ≡ framed w.events w.made w.left w.calls w.size w.telling w.deeds (effect what number values w)
effect_frame what number values w = effect_framed w.events w.made w.left w.calls w.size w.telling w.deeds w what number values

store_control : (number : ℕ) (s : Option (Pointer × ℤ)) (w : World) → (store_effect number s w).control ≡ w.control
store_control number None w = refl
store_control number (Some s) w = refl

output_control : (number : ℕ) (bytes : Result (List ℕ) Trap) (w : World) → (output_effect number bytes w).control ≡ w.control
output_control number (Ok bytes) w = refl
output_control number (Err t) w = refl

-- a test alone changes the control source
pub effect_control : (what : Act) (number : ℕ) (values : List Value) (w : World) → what ≢ act.Test → (effect what number values w).control ≡ w.control
unfolding effect
effect_control (act.Binary op kind) number values w other = refl
effect_control (act.Unary op kind) number values w other = refl
effect_control (act.Convert kind) number values w other = refl
effect_control act.Move number values w other = refl
effect_control (act.Offset minus scale) number values w other = refl
effect_control (act.PtrCompare op) number values w other = refl
effect_control (act.PtrDistance scale) number values w other = refl
effect_control act.Load number values w other = refl
effect_control act.Store number values w other = store_control number (pointer_and_number values) w
effect_control act.Input number values w other = refl
effect_control (act.Output what) number values w other = output_control number (written what values) w
effect_control act.Test number values w other = absurd (other refl)
effect_control act.Call number values w other = refl

-- and becomes it
pub test_control : (number : ℕ) (values : List Value) (w : World) → (effect act.Test number values w).control ≡ Some number
unfolding effect
test_control number values w = refl

store_objects : (number : ℕ) (s : Option (Pointer × ℤ)) (w : World) → (store_effect number s w).memory.made ≡ w.memory.made
store_objects number None w = refl
store_objects number (Some s) w = refl

output_memory : (number : ℕ) (bytes : Result (List ℕ) Trap) (w : World) → (output_effect number bytes w).memory ≡ w.memory
output_memory number (Ok bytes) w = refl
output_memory number (Err t) w = refl

-- no act makes an object
pub effect_objects : (what : Act) (number : ℕ) (values : List Value) (w : World) → (effect what number values w).memory.made ≡ w.memory.made
unfolding effect
effect_objects (act.Binary op kind) number values w = refl
effect_objects (act.Unary op kind) number values w = refl
effect_objects (act.Convert kind) number values w = refl
effect_objects act.Move number values w = refl
effect_objects (act.Offset minus scale) number values w = refl
effect_objects (act.PtrCompare op) number values w = refl
effect_objects (act.PtrDistance scale) number values w = refl
effect_objects act.Load number values w = refl
effect_objects act.Store number values w = store_objects number (pointer_and_number values) w
effect_objects act.Input number values w = refl
effect_objects (act.Output what) number values w = ap (λ (m : Memory). m.made) (output_memory number (written what values) w)
effect_objects act.Test number values w = refl
effect_objects act.Call number values w = refl

-- a store leaves as many elements
pub live_stored : (m : Memory) (p : Pointer) (v : ℤ) → live_elements (stored m p v) ≡ live_elements m
live_stored m p v = size_rewritten (with_value p.offset v) p.object (length_with_value p.offset v) m.live

-- and as many origins
length_origins : (element : Option ℕ) (number : ℕ) (origins : List (Option ℕ)) → length (with_origin element number origins) ≡ length origins
length_origins None number origins = refl
length_origins (Some element) number origins = length-set origins element (Some number)

store_origins : (number : ℕ) (s : Option (Pointer × ℤ)) (w : World) → HasOrigins w → HasOrigins (store_effect number s w)
store_origins number None w has = has
store_origins number (Some s) w has = length_origins (element_written w.memory (Some s)) number w.origins ∙ has ∙ sym (live_stored w.memory s.0 s.1)

output_origins : (number : ℕ) (bytes : Result (List ℕ) Trap) (w : World) → HasOrigins w → HasOrigins (output_effect number bytes w)
output_origins number (Ok bytes) w has = has
output_origins number (Err t) w has = has

-- each live element keeps its entry
pub effect_origins : (what : Act) (number : ℕ) (values : List Value) (w : World) → HasOrigins w → HasOrigins (effect what number values w)
unfolding effect
effect_origins (act.Binary op kind) number values w has = has
effect_origins (act.Unary op kind) number values w has = has
effect_origins (act.Convert kind) number values w has = has
effect_origins act.Move number values w has = has
effect_origins (act.Offset minus scale) number values w has = has
effect_origins (act.PtrCompare op) number values w has = has
effect_origins (act.PtrDistance scale) number values w has = has
effect_origins act.Load number values w has = has
effect_origins act.Store number values w has = store_origins number (pointer_and_number values) w has
effect_origins act.Input number values w has = has
effect_origins (act.Output what) number values w has = output_origins number (written what values) w has
effect_origins act.Test number values w has = has
effect_origins act.Call number values w has = has
