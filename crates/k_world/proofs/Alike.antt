-- Equal operands give equal results, whatever happened before.
use Rattle.std.proofs.Common.{◌≡◌, ℕ, ◌+◌, ◌-◌, List, [], ◌∷◌, ◌++◌, Option, Some, None, Result, Ok, Err, Bool, true, false, nat_eq, refl, sym, ◌∙◌, subst, ap}
use Rattle.k_num.specs.declared.place.Place.{Place}
use Rattle.k_optab.specs.declared.class.Class.{Class}
use Rattle.k_optab.specs.declared.event.Event.{Event}
use Rattle.k_ending.specs.declared.ending.End.TheVariants.{Trapped, OutOfSteps}
use Rattle.k_ending.specs.declared.ending.Trap.TheVariants.{Uninit}
use Rattle.k_world.specs.declared.act.Act.{Act}
use Rattle.k_world.specs.declared.value.Read.{Read}
use Rattle.k_world.specs.declared.value.Value.{Value}
use Rattle.k_world.specs.Acts.{Given, work, effect}
use Rattle.k_world.specs.Deeds.{Deed}
use Rattle.k_world.specs.Operands.{are_set, values_of}
use Rattle.k_world.specs.Operations.{Made, Gives, Ends, operation, acted, counted, event_of}
use Rattle.k_world.specs.Worlds.{World, with_events}
use Rattle.k_world.specs.WorldLaws.{forgotten, GoAlike, EqualReadsGoAlike}
use Rattle.k_world.proofs.Effects.{framed, work_framed, effect_framed}
use Rattle.k_world.proofs.Operations.{operation_out, operation_unset, operation_acts}

module _ (class : Class) (latency : ℕ) (place : Place) (what : Act) (some others : List Read) (w : World) (events : List Event)
    (set : are_set some ≡ are_set others) (values : values_of some ≡ values_of others) where
  abbrev there : World
  there = with_events events w

  -- where an act has a value, the worlds behind it are equal but for their events and deeds
  same_effect : (vs us : List Value) (first second : List Event) (one two : List Deed) → vs ≡ us
      → forgotten (effect what w.made vs (framed first (w.made + 1) (w.left - 1) w.calls w.size w.telling one w))
      ≡ forgotten (effect what w.made us (framed second (w.made + 1) (w.left - 1) w.calls w.size w.telling two w))
  same_effect vs us first second one two same =
      ap forgotten (effect_framed first (w.made + 1) (w.left - 1) w.calls w.size w.telling one w what w.made vs)
      ∙ ap (λ (xs : List Value). framed [] (w.made + 1) (w.left - 1) w.calls w.size w.telling [] (effect what w.made xs w)) same
      ∙ sym (ap forgotten (effect_framed second (w.made + 1) (w.left - 1) w.calls w.size w.telling two w what w.made us))

  acted_alike : (r : Given) → GoAlike (acted class latency place what some w r) (acted class latency place what others there r)
  acted_alike (Ok v) = (
    refl,
    same_effect (values_of some) (values_of others)
        (w.events ++ event_of class latency place what some w ∷ []) (events ++ event_of class latency place what others there ∷ [])
        (counted class latency place what some w).deeds (counted class latency place what others there).deeds values,
  )
  acted_alike (Err t) = (refl, refl)

  alike_set : nat_eq w.left 0 ≡ false → (b : Bool) → are_set some ≡ b → GoAlike (operation class latency place what some w) (operation class latency place what others there)
  alike_set more true is =
      let one = operation_acts class latency place what some w more is in
      let two = operation_acts class latency place what others there more (sym set ∙ is) in
      let same : work what (values_of others) there ≡ work what (values_of some) w =
      work_framed events w.made w.left w.calls w.size w.telling w.deeds w what (values_of others) ∙ ap (λ (xs : List Value). work what xs w) (sym values) in
      let both : operation class latency place what others there ≡ acted class latency place what others there (work what (values_of some) w) =
      two ∙ ap (acted class latency place what others there) same in
      subst (λ (m : Made). GoAlike m (operation class latency place what others there)) (sym one)
      (subst (λ (m : Made). GoAlike (acted class latency place what some w (work what (values_of some) w)) m) (sym both) (acted_alike (work what (values_of some) w)))
  alike_set more false is =
      let one = operation_unset class latency place what some w more is in
      let two = operation_unset class latency place what others there more (sym set ∙ is) in
      subst (λ (m : Made). GoAlike m (operation class latency place what others there)) (sym one)
      (subst (λ (m : Made). GoAlike (Ends (Trapped Uninit place) w) m) (sym two) (refl, refl))

  pub alike : (b : Bool) → nat_eq w.left 0 ≡ b → GoAlike (operation class latency place what some w) (operation class latency place what others there)
  alike true none =
      let one = operation_out class latency place what some w none in
      let two = operation_out class latency place what others there none in
      subst (λ (m : Made). GoAlike m (operation class latency place what others there)) (sym one)
      (subst (λ (m : Made). GoAlike (Ends OutOfSteps w) m) (sym two) (refl, refl))
  alike false more = alike_set more (are_set some) refl

pub equal_reads : EqualReadsGoAlike
equal_reads class latency place what some others w events set values = alike class latency place what some others w events set values (nat_eq w.left 0) refl
