-- What changes a world without an operation, and what an operation leaves of its objects.
use Rattle.std.proofs.Common.{◌≡◌, ℕ, zero, suc, ◌+◌, ◌*◌, ◌≤◌, List, [], ◌∷◌, ◌++◌, length, replicate, Option, Some, None, Result, Ok, Err, ℤ, Bor, refl, sym, ◌∙◌, subst, ap, arith}
use Rattle.std.specs.List.{fold}
use Rattle.std.proofs.lemmas.List.{append-nil}
use Rattle.std.proofs.lemmas.Option.{none-some}
use Rattle.k_num.specs.declared.initial.Initial.{Initial}
use Rattle.k_num.specs.declared.place.Place.{Place}
use Rattle.k_optab.specs.declared.class.Class.{Class}
use Rattle.k_optab.specs.declared.event.Event.{Event}
use Rattle.k_optab.specs.declared.event.Event.TheVariants.{Exit}
use Rattle.k_optab.specs.Events.{Operation, operations, SourcesAreEarlier, total_latency}
use Rattle.k_optab.proofs.Trees.{operations-append}
use Rattle.k_ending.specs.declared.ending.Trap.{Trap}
use Rattle.k_mem.specs.declared.pointer.Pointer.{Pointer}
use Rattle.k_mem.specs.declared.start.Start.{Start}
use Rattle.k_mem.specs.declared.start.Start.TheVariants.{Literal}
use Rattle.k_mem.specs.Memory.{Memory, IsLaidOut, live_elements}
use Rattle.k_mem.specs.Calls.{HasLength, with_value, with_values, filled, first_of, length_of, popped, push_of}
use Rattle.k_mem.specs.Changes.{Push, made_or}
use Rattle.k_mem.proofs.LaidOut.{laid_rewritten, laid_oldest, stays_laid_out, nothing_is_laid_out}
use Rattle.k_mem.proofs.Numbers.{length_with_value, length_with_values}
use Rattle.k_world.specs.declared.act.Act.{Act}
use Rattle.k_world.specs.declared.act.Act.TheVariants as act
use Rattle.k_world.specs.declared.value.Read.{Read}
use Rattle.k_world.specs.declared.value.Value.{Value}
use Rattle.k_world.specs.Acts.{effect, store_effect, output_effect, written, pointer_and_number}
use Rattle.k_world.specs.Changes.{with_elements, object_made, string_made, item_stored, object_filled, objects_kept}
use Rattle.k_world.specs.Operands.{values_of}
use Rattle.k_world.specs.Operations.{Made, Gives, Ends, operation, counted}
use Rattle.k_world.specs.WorldLaws.{IsMade, AreMade, AllComeFrom, IsSound, IsCounted, LeavesSound, WhereMade}
use Rattle.k_world.specs.Worlds.{World, HasOrigins, fresh}
use Rattle.k_world.proofs.Origins.{made_has_origins, filled_has_origins, kept_has_origins}
use Rattle.k_world.proofs.Sound.{operation_cases, operations_stay_sound, operations_count, origins_stay}
use Rattle.k_hcpa_traced.proofs.Coming.{both_made, none_made, take_made, without_made}

-- A world of a run: it is sound where each operation takes at most 10,000, its objects are laid out, and each live element has an origin.
pub record Good (budget : ℕ) (w : World) : Type 0 where
  pub sound : IsSound budget 10000 w
  pub laid : IsLaidOut w.memory
  pub origins : HasOrigins w

-- a world with the same operations
sound_with : (budget : ℕ) (w : World) (events : List Event) (control : Option ℕ) (memory : Memory) (origins : List (Option ℕ)) (calls size : ℕ)
    → operations events ≡ operations w.events → IsMade w.made control → AreMade w.made origins → IsSound budget 10000 w
    → IsSound budget 10000 (record w { events = events; control = control; memory = memory; origins = origins; calls = calls; size = size })
sound_with budget w events control memory origins calls size same one are sound = record {
  earlier = subst SourcesAreEarlier (sym same) sound.earlier;
  counted = ap length same ∙ sound.counted;
  steps = sound.steps;
  work = subst (λ (ops : List Operation). total_latency ops ≤ w.made * 10000) (sym same) sound.work;
  control = one;
  in_cell = sound.in_cell;
  out_cell = sound.out_cell;
  elements = are;
}

-- events that are no operations, and counts of calls
pub good_events : (budget : ℕ) (w : World) (more : List Event) (calls size : ℕ) → operations more ≡ [] → Good budget w
    → Good budget (record w { events = w.events ++ more; calls = calls; size = size })
good_events budget w more calls size none good = record {
  sound = sound_with budget w (w.events ++ more) w.control w.memory w.origins calls size
      (operations-append w.events more ∙ (ap (λ (ops : List Operation). operations w.events ++ ops) none ∙ append-nil (operations w.events)))
      good.sound.control good.sound.elements good.sound;
  laid = good.laid;
  origins = good.origins;
}

-- the control source is another one
pub good_control : (budget : ℕ) (w : World) (control : Option ℕ) → IsMade w.made control → Good budget w → Good budget (record w { control = control })
good_control budget w control one good = record {
  sound = sound_with budget w w.events control w.memory w.origins w.calls w.size refl one good.sound.elements good.sound;
  laid = good.laid;
  origins = good.origins;
}

-- no exit is an operation
pub exits_none : (n : ℕ) → operations (replicate n Exit) ≡ []
exits_none zero = refl
exits_none (suc n) = exits_none n

-- the newest objects die
pub good_kept : (budget : ℕ) (w : World) (keep : ℕ) → Good budget w → Good budget (objects_kept w keep)
good_kept budget w keep good = record {
  sound = sound_with budget w w.events w.control (objects_kept w keep).memory (objects_kept w keep).origins w.calls w.size refl good.sound.control
      (take_made w.made (live_elements (popped w.memory keep)) w.origins good.sound.elements) good.sound;
  laid = laid_oldest w.memory keep good.laid;
  origins = kept_has_origins w keep good.origins;
}

-- an object's elements are set
items_laid : (n : ℕ) (items : List Initial) (m : Memory) → IsLaidOut m → IsLaidOut (fold (item_stored n) m items)
items_laid n [] m laid = laid
items_laid n (i ∷ items) m laid =
    items_laid n items (item_stored n m i) (laid_rewritten (with_value i.element i.number) n (length_with_value i.element i.number) m laid)

pub good_filled : (budget : ℕ) (w : World) (n : ℕ) (items : List Initial) → Good budget w → Good budget (object_filled w n items)
good_filled budget w n items good = record {
  sound = sound_with budget w w.events w.control (object_filled w n items).memory (object_filled w n items).origins w.calls w.size refl good.sound.control
      (without_made w.made (first_of w.memory n) (length_of w.memory n) w.origins good.sound.elements) good.sound;
  laid = items_laid n items (filled w.memory n []) (laid_rewritten (with_values []) n (length_with_values []) w.memory good.laid);
  origins = filled_has_origins w n items good.laid good.origins;
}

-- a new object is made, in a world that is good, and as many operations were made
abbrev pub IfGood : ℕ → ℕ → Option World → Type 0
IfGood budget made None = Unit {0}
IfGood budget made (Some w) = Good budget w × (w.made ≡ made)

pub good_object : (budget : ℕ) (w : World) (start : Start) (count : ℕ) → HasLength start count → Good budget w → IfGood budget w.made (object_made w start count)
good_object budget w start count long good = by (push_of w.memory start count) refl
  where
    by : (m : Option Memory) → push_of w.memory start count ≡ m → IfGood budget w.made (with_elements count w m)
    by None e = tt
    by (Some m) e = (
      record {
        sound = sound_with budget w w.events w.control m (w.origins ++ replicate count None) w.calls w.size refl good.sound.control
            (both_made w.made w.origins (replicate count None) good.sound.elements (none_made w.made count)) good.sound;
        laid = subst (λ (o : Option Memory). IsLaidOut (made_or w.memory o)) e (stays_laid_out w.memory (Push start count) long good.laid);
        origins = made_has_origins w (record w { memory = m; origins = w.origins ++ replicate count None }) start count long good.origins (ap (with_elements count w) e);
      },
      refl,
    )

pub good_string : (budget : ℕ) (w : World) (bytes : List ℕ) → Good budget w → IfGood budget w.made (string_made w bytes)
good_string budget w bytes good =
    let lent : Bor (List ℕ) = record { ref_ptr = (0, 0); now = bytes } in
    good_object budget w (Literal lent) (length bytes) refl good

-- what an act leaves of the objects
store_laid : (number : ℕ) (s : Option (Pointer × ℤ)) (w : World) → IsLaidOut w.memory → IsLaidOut (store_effect number s w).memory
store_laid number None w laid = laid
store_laid number (Some s) w laid = laid_rewritten (with_value s.0.offset s.1) s.0.object (length_with_value s.0.offset s.1) w.memory laid

output_laid : (number : ℕ) (bytes : Result (List ℕ) Trap) (w : World) → IsLaidOut w.memory → IsLaidOut (output_effect number bytes w).memory
output_laid number (Ok bytes) w laid = laid
output_laid number (Err t) w laid = laid

effect_laid : (what : Act) (number : ℕ) (values : List Value) (w : World) → IsLaidOut w.memory → IsLaidOut (effect what number values w).memory
unfolding effect
effect_laid (act.Binary op kind) number values w laid = laid
effect_laid (act.Unary op kind) number values w laid = laid
effect_laid (act.Convert kind) number values w laid = laid
effect_laid act.Move number values w laid = laid
effect_laid (act.Offset minus scale) number values w laid = laid
effect_laid (act.PtrCompare op) number values w laid = laid
effect_laid (act.PtrDistance scale) number values w laid = laid
effect_laid act.Load number values w laid = laid
effect_laid act.Store number values w laid = store_laid number (pointer_and_number values) w laid
effect_laid act.Input number values w laid = laid
effect_laid (act.Output what) number values w laid = output_laid number (written what values) w laid
effect_laid act.Test number values w laid = laid
effect_laid act.Call number values w laid = laid

-- a good world follows an operation, and what it gave came from an operation that was made; or the run is over in a sound one
abbrev pub LeavesGood : ℕ → ℕ → Made → Type 0
LeavesGood budget made (Gives held w) = Good budget w × IsMade w.made held.source × (made ≤ w.made)
LeavesGood budget made (Ends end w) = IsSound budget 10000 w

pub good_operation : (budget : ℕ) (class : Class) (latency : ℕ) (place : Place) (what : Act) (reads : List Read) (w : World) → latency ≤ 10000 → Good budget w
    → AllComeFrom w.made reads → LeavesGood budget w.made (operation class latency place what reads w)
good_operation budget class latency place what reads w short good come = by (operation class latency place what reads w) refl
  where
    sound : LeavesSound budget 10000 w (operation class latency place what reads w)
    sound = operations_stay_sound budget 10000 class latency place what reads w short good.sound come

    laid : WhereMade (λ before after. IsLaidOut after.memory) w (operation class latency place what reads w)
    laid = operation_cases (WhereMade (λ before after. IsLaidOut after.memory) w) class latency place what reads w (λ end early. tt)
        (λ some v. effect_laid what w.made (values_of reads) (counted class latency place what reads w) good.laid)

    by : (m : Made) → operation class latency place what reads w ≡ m → LeavesGood budget w.made m
    by (Gives held after) e =
        let s = subst (LeavesSound budget 10000 w) e sound in
        let count = subst (WhereMade IsCounted w) e (operations_count class latency place what reads w) in (
          record {
            sound = s.0;
            laid = subst (WhereMade (λ before v. IsLaidOut v.memory) w) e laid;
            origins = subst (WhereMade (λ before v. HasOrigins v) w) e (origins_stay class latency place what reads w good.origins);
          },
          s.1,
          (let more : after.made ≡ w.made + 1 = count.0 in omega (arith, more)),
        )
    by (Ends end after) e =
        let s = subst (LeavesSound budget 10000 w) e sound in
        subst (IsSound budget 10000) (sym s.1) good.sound

-- nothing has happened
pub good_fresh : (budget : ℕ) (input : List ℕ) → Good budget (fresh budget input)
good_fresh budget input = record {
  sound = record {
    earlier = λ k op is. absurd (none-some op is);
    counted = refl;
    steps = omega arith;
    work = omega arith;
    control = tt;
    in_cell = tt;
    out_cell = tt;
    elements = tt;
  };
  laid = nothing_is_laid_out;
  origins = refl;
}
