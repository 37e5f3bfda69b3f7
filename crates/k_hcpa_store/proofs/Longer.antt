-- Output that lies behind plays no part in an operation.
use Rattle.std.proofs.Common.{◌≡◌, ℕ, ◌+◌, ◌-◌, ℤ, List, [], ◌∷◌, ◌++◌, Option, Some, None, Result, Ok, Err, Bool, true, false, nat_eq, refl, ◌∙◌, ap}
use Rattle.std.proofs.lemmas.List.{append_assoc}
use Rattle.std.specs.Prelude.{if◌then◌else◌}
use Rattle.k_num.specs.declared.place.Place.{Place}
use Rattle.k_optab.specs.declared.class.Class.{Class}
use Rattle.k_optab.specs.declared.event.Event.{Event}
use Rattle.k_optab.specs.declared.event.Event.TheVariants.{Op}
use Rattle.k_ending.specs.declared.ending.End.{End}
use Rattle.k_ending.specs.declared.ending.End.TheVariants.{Trapped, OutOfSteps}
use Rattle.k_ending.specs.declared.ending.Trap.{Trap}
use Rattle.k_ending.specs.declared.ending.Trap.TheVariants.{Uninit}
use Rattle.k_mem.specs.declared.pointer.Pointer.{Pointer}
use Rattle.k_world.specs.declared.act.Act.{Act}
use Rattle.k_world.specs.declared.act.Act.TheVariants as act
use Rattle.k_world.specs.declared.answer.Done.{Done}
use Rattle.k_world.specs.declared.answer.Stop.TheVariants as stop
use Rattle.k_world.specs.declared.value.Read.{Read}
use Rattle.k_world.specs.declared.value.Value.{Value}
use Rattle.k_world.specs.Acts.{Given, work, effect, hidden, pointer_and_number, written, store_effect, output_effect}
use Rattle.k_world.specs.Answers.{Makes}
use Rattle.k_world.specs.Operands.{are_set, values_of, sources}
use Rattle.k_world.specs.Deeds.{deed, deeds_behind}
use Rattle.k_world.specs.Operations.{Made, Gives, Ends, operation, acted, counted}
use Rattle.k_world.specs.Worlds.{World, with_events}
use Rattle.k_hcpa_meaning.specs.Behind.{world_behind}

-- a world in which this was written before what it says
abbrev pub longer : List ℕ → World → World
longer taken w = record w { output = taken ++ w.output }

module _ (taken : List ℕ) (w : World) where
  work_longer : (what : Act) (values : List Value) → work what values (longer taken w) ≡ work what values w
  unfolding work
  work_longer (act.Binary op kind) values = refl
  work_longer (act.Unary op kind) values = refl
  work_longer (act.Convert kind) values = refl
  work_longer act.Move values = refl
  work_longer (act.Offset minus scale) values = refl
  work_longer (act.PtrCompare op) values = refl
  work_longer (act.PtrDistance scale) values = refl
  work_longer act.Load values = refl
  work_longer act.Store values = refl
  work_longer act.Input values = refl
  work_longer (act.Output what) values = refl
  work_longer act.Test values = refl
  work_longer act.Call values = refl

  hidden_longer : (what : Act) (values : List Value) → hidden what values (longer taken w) ≡ hidden what values w
  unfolding hidden
  hidden_longer (act.Binary op kind) values = refl
  hidden_longer (act.Unary op kind) values = refl
  hidden_longer (act.Convert kind) values = refl
  hidden_longer act.Move values = refl
  hidden_longer (act.Offset minus scale) values = refl
  hidden_longer (act.PtrCompare op) values = refl
  hidden_longer (act.PtrDistance scale) values = refl
  hidden_longer act.Load values = refl
  hidden_longer act.Store values = refl
  hidden_longer act.Input values = refl
  hidden_longer (act.Output what) values = refl
  hidden_longer act.Test values = refl
  hidden_longer act.Call values = refl

  store_longer : (number : ℕ) (s : Option (Pointer × ℤ)) → store_effect number s (longer taken w) ≡ longer taken (store_effect number s w)
  store_longer number None = refl
  store_longer number (Some s) = refl

  output_longer : (number : ℕ) (bytes : Result (List ℕ) Trap) → output_effect number bytes (longer taken w) ≡ longer taken (output_effect number bytes w)
  output_longer number (Ok bytes) = ap (λ (output : List ℕ). record w { out_cell = Some number; output = output }) (append_assoc {A = ℕ} taken w.output bytes)
  output_longer number (Err t) = refl

  effect_longer : (what : Act) (number : ℕ) (values : List Value) → effect what number values (longer taken w) ≡ longer taken (effect what number values w)
  unfolding effect
  effect_longer (act.Binary op kind) number values = refl
  effect_longer (act.Unary op kind) number values = refl
  effect_longer (act.Convert kind) number values = refl
  effect_longer act.Move number values = refl
  effect_longer (act.Offset minus scale) number values = refl
  effect_longer (act.PtrCompare op) number values = refl
  effect_longer (act.PtrDistance scale) number values = refl
  effect_longer act.Load number values = refl
  effect_longer act.Store number values = store_longer number (pointer_and_number values)
  effect_longer act.Input number values = refl
  effect_longer (act.Output what) number values = output_longer number (written what values)
  effect_longer act.Test number values = refl
  effect_longer act.Call number values = refl

-- what an operation gives, in another world
abbrev pub made_with : (World → World) → Made → Made
made_with f (Gives held w) = Gives held (f w)
made_with f (Ends end w) = Ends end (f w)

module _ (taken : List ℕ) (class : Class) (latency : ℕ) (place : Place) (what : Act) (reads : List Read) (w : World) where
  -- the world behind the operation, before its act's effect, by its hidden source and by what its act gives
  behind_given : Option ℕ → Given → World
  behind_given hid given = record (longer taken w) {
    events = w.events ++ Op class latency (sources reads hid w.control) place ∷ [];
    made = w.made + 1;
    left = w.left - 1;
    deeds = deeds_behind w.telling w.deeds (deed what reads hid w.control given);
  }

  acted_longer : (given : Given) → acted class latency place what reads (longer taken w) given ≡ made_with (longer taken) (acted class latency place what reads w given)
  unfolding behind_given
  acted_longer (Ok v) =
      ap (λ (x : World). Gives (record { value = v; source = Some w.made }) x)
      ((λ i. effect what w.made (values_of reads) (behind_given (hidden_longer taken w what (values_of reads) i) (work_longer taken w what (values_of reads) i)))
      ∙ effect_longer taken (counted class latency place what reads w) what w.made (values_of reads))
  acted_longer (Err t) = refl

  operation_longer : operation class latency place what reads (longer taken w) ≡ made_with (longer taken) (operation class latency place what reads w)
  unfolding operation
  operation_longer = go (nat_eq w.left 0) (are_set reads)
    where
      there : Made
      there = acted class latency place what reads (longer taken w) (work what (values_of reads) (longer taken w))

      here : Made
      here = acted class latency place what reads w (work what (values_of reads) w)

      same : there ≡ made_with (longer taken) here
      same =
          ap (acted class latency place what reads (longer taken w)) (work_longer taken w what (values_of reads))
          ∙ acted_longer (work what (values_of reads) w)

      go : (a b : Bool)
          → (if a then Ends OutOfSteps (longer taken w) else if b then there else Ends (Trapped Uninit place) (longer taken w))
          ≡ made_with (longer taken) (if a then Ends OutOfSteps w else if b then here else Ends (Trapped Uninit place) w)
      go true b = refl
      go false true = same
      go false false = refl

module _ (class : Class) (latency : ℕ) (place : Place) (what : Act) (reads : List Read) (w new : World) (events : List Event) (taken : List ℕ) where
  -- an operation that is made behind events and output
  pub operation_behind : (done : Done) → Makes class latency place what reads w (Ok done) new
      → operation class latency place what reads (world_behind events taken w)
      ≡ Gives done.held (world_behind (events ++ Op class latency (sources reads done.hidden done.control) place ∷ []) taken new)
  operation_behind done makes =
      operation_longer taken class latency place what reads (with_events events w) ∙ ap (made_with (longer taken)) (makes events)

  -- and one that is not
  pub operation_ends : (end : End) → Makes class latency place what reads w (Err (stop.Ended end)) new
      → operation class latency place what reads (world_behind events taken w) ≡ Ends end (world_behind events taken w)
  operation_ends end makes =
      operation_longer taken class latency place what reads (with_events events w) ∙ ap (made_with (longer taken)) (makes.0 events)
