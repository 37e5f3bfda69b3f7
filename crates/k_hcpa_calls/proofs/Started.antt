-- Before the first instruction main's region alone is open, and nothing has a time.
use Rattle.std.proofs.Common.{◌≡◌, ℕ, List, [], ◌∷◌, ◌++◌, length, Option, Some, None, refl, sym, ◌∙◌, ap, arith, subst}
use Rattle.std.specs.Prelude.{slice_get}
use Rattle.std.proofs.lemmas.Option.{none-some}
use Rattle.k_num.specs.declared.initial.Initial.{Initial}
use Rattle.k_num.specs.declared.place.Place.{Place}
use Rattle.k_optab.specs.declared.event.Event.{Event}
use Rattle.k_optab.specs.declared.event.Event.TheVariants.{Enter}
use Rattle.k_optab.specs.Events.{operations}
use Rattle.k_mem.specs.declared.start.Start.TheVariants.{Zero}
use Rattle.k_mem.specs.Memory.{Memory}
use Rattle.k_mem.specs.Calls.{push_of}
use Rattle.k_world.specs.Changes.{with_elements, with_string}
use Rattle.k_world.specs.Worlds.{World, fresh}
use Rattle.k_code.specs.declared.code.Code.{Code}
use Rattle.k_code.specs.declared.code.CodeFunc.{CodeFunc}
use Rattle.k_code.specs.declared.code.CodeObject.{CodeObject}
use Rattle.k_code.specs.declared.code.CodeObject.TheVariants as object
use Rattle.k_code.specs.Runs.{begun_with, main_called, or_limit, place_of, start, with_object, with_objects}
use Rattle.k_code.specs.Steps.{Configuration, Run, Going, Over}
use Rattle.k_code.specs.Valid.{IsValid}
use Rattle.k_code.proofs.Kept.{get_within}
use Rattle.k_hcpa_meaning.specs.Locations.{frames_of, saved_in, source_at}
use Rattle.k_hcpa_meaning.specs.Timed.{CameEarlier, IsTimed, IsTraced, live_levels}
use Rattle.k_hcpa_meaning.specs.Timings.{Location, entered_below, no_levels}
use Rattle.k_hcpa_laws.proofs.Levels.{at_events, source_at_events, timed_entered}
use Rattle.k_hcpa_traced.proofs.Running.{configurations_are_traced}
use Rattle.k_hcpa_calls.specs.Laws.{StartsAreTimed}

-- nothing has happened in a world, if there is one
abbrev IsSilent : Option World → Type 0
IsSilent None = Unit {0}
IsSilent (Some w) = w.events ≡ []

-- a run that goes on has entered one region, and no control source is saved
record HasBegun (c : Configuration) : Type 0 where
  region : ℕ
  events : c.world.events ≡ Enter region ∷ []
  saved : saved_in (frames_of c) ≡ []

abbrev Begins : Run → Type 0
Begins (Going c) = HasBegun c
Begins (Over end w) = Unit {0}

-- objects that are made are no events
elements_silent : (count : ℕ) (w : World) (m : Option Memory) → w.events ≡ [] → IsSilent (with_elements count w m)
elements_silent count w None silent = tt
elements_silent count w (Some m) silent = silent

begun_silent : (first : List Initial) (number : ℕ) (o : Option World) → IsSilent o → IsSilent (begun_with first number o)
begun_silent first number None silent = tt
begun_silent first number (Some w) silent = silent

object_silent : (o : CodeObject) (w : World) → w.events ≡ [] → IsSilent (with_object o w)
unfolding with_object
object_silent (object.Plain elements first place) w silent =
    begun_silent first w.memory.made (with_elements elements w (push_of w.memory Zero elements)) (elements_silent elements w (push_of w.memory Zero elements) silent)
object_silent (object.Literal bytes place) w silent = elements_silent (length bytes) w (with_string w.memory bytes) silent

limit_begins : (place : Place) (w : World) (on : World → Run) (o : Option World) → IsSilent o → ((v : World) → v.events ≡ [] → Begins (on v))
    → Begins (or_limit place w on o)
limit_begins place w on None silent each = tt
limit_begins place w on (Some v) silent each = each v silent

objects_begin : (on : World → Run) (objects : List CodeObject) (w : World) → w.events ≡ [] → ((v : World) → v.events ≡ [] → Begins (on v))
    → Begins (with_objects objects on w)
objects_begin on [] w silent each = each w silent
objects_begin on (o ∷ objects) w silent each =
    limit_begins (place_of o) w (with_objects objects on) (with_object o w) (object_silent o w silent) (λ v quiet. objects_begin on objects v quiet each)

main_begins : (code : Code) → IsValid code → (o : Option CodeFunc) → slice_get code.funcs code.main ≡ o → (w : World) → w.events ≡ [] → Begins (main_called code o w)
main_begins code valid None is w silent = (let found = get_within code.funcs code.main valid.main in absurd (none-some found.0 (sym is ∙ found.1)))
main_begins code valid (Some f) is w silent = record {
  region = f.region;
  events = ap (λ (events : List Event). events ++ Enter f.region ∷ []) silent;
  saved = refl;
}

start_begins : (code : Code) → IsValid code → (input : List ℕ) (budget : ℕ) → Begins (start code input budget)
unfolding start
start_begins code valid input budget =
    objects_begin (main_called code (slice_get code.funcs code.main)) code.objects (fresh budget input) refl
    (λ v silent. main_begins code valid (slice_get code.funcs code.main) refl v silent)

-- before main's region is entered no level is live
unlived : (code : Code) (depth : ℕ) (c : Configuration) → saved_in (frames_of c) ≡ [] → IsTimed code depth (at_events [] c) no_levels
unlived code depth c none_saved = record {
  shape = record {
    registers = none;
    elements = none;
    control = none;
    saved = λ n times is. absurd (none-some times is);
    in_cell = none;
    out_cell = none;
    row = none;
    paths = none;
  };
  saved = ap (λ (saved : List (Option ℕ)). length saved) (sym none_saved);
  times = λ level o at source live there holds. absurd (omega (arith, live, none));
  paths = record { count = none; each = λ level o below there. absurd (omega arith) };
}
  where
    none : 0 ≡ live_levels depth []
    none = omega arith

pub starts_are_timed : StartsAreTimed
starts_are_timed code depth valid input budget c is =
    let begun : HasBegun c = subst Begins is (start_begins code valid input budget) in
    let traced : IsTraced code c = configurations_are_traced code valid input budget 0 c is in
    let none : c.world.made ≡ 0 = sym traced.made ∙ ap (λ (events : List Event). length (operations events)) begun.events in
    let came : (at : Location) → CameEarlier 0 (source_at code (at_events [] c) at) = λ at.
    subst (λ (found : Option (Option ℕ)). CameEarlier 0 found) (sym (source_at_events code c [] at))
    (subst (λ (n : ℕ). CameEarlier n (source_at code c at)) none (traced.came at)) in
    subst (λ (events : List Event). IsTimed code depth (at_events events c) (entered_below depth 0 no_levels)) (sym begun.events)
    (timed_entered code depth (at_events [] c) no_levels (unlived code depth c begun.saved) begun.region came)
