-- How an operation goes, by what is left, by its operands and by what its act gives.
use Rattle.std.proofs.Common.{◌≡◌, ℕ, ◌+◌, ◌-◌, List, [], ◌∷◌, ◌++◌, Option, Some, None, Result, Ok, Err, Bool, true, false, nat_eq, ◌<◌, refl, sym, ◌∙◌, ap, subst, arith}
use Rattle.std.proofs.lemmas.Bool.{ne_eqb}
use Rattle.k_num.specs.declared.place.Place.{Place}
use Rattle.k_optab.specs.declared.class.Class.{Class}
use Rattle.k_optab.specs.declared.event.Event.{Event}
use Rattle.k_optab.specs.declared.event.Event.TheVariants.{Op}
use Rattle.k_ending.specs.declared.ending.End.TheVariants.{Trapped, OutOfSteps}
use Rattle.k_ending.specs.declared.ending.Trap.{Trap}
use Rattle.k_ending.specs.declared.ending.Trap.TheVariants.{Uninit}
use Rattle.k_world.specs.declared.act.Act.{Act}
use Rattle.k_world.specs.declared.act.Act.TheVariants as act
use Rattle.k_world.specs.declared.answer.Done.{Done}
use Rattle.k_world.specs.declared.answer.Performed.{Performed}
use Rattle.k_world.specs.declared.answer.Refusal.{Refusal}
use Rattle.k_world.specs.declared.answer.Refusal.TheVariants as refusal
use Rattle.k_world.specs.declared.answer.Stop.{Stop}
use Rattle.k_world.specs.declared.answer.Stop.TheVariants as stop
use Rattle.k_world.specs.declared.value.Held.{Held}
use Rattle.k_world.specs.declared.value.Read.{Read}
use Rattle.k_world.specs.declared.value.Value.{Value}
use Rattle.k_world.specs.Acts.{Given, work, effect, hidden, touched}
use Rattle.k_world.specs.Answers.{Performs, Makes, done_of, performed_of, stop_of}
use Rattle.k_world.specs.Deeds.{Deed, deed, deeds_behind}
use Rattle.k_world.specs.Operands.{are_set, values_of, sources}
use Rattle.k_world.specs.Operations.{Made, Gives, Ends, operation, acted, counted}
use Rattle.k_world.specs.Worlds.{World, with_events}
use Rattle.k_world.proofs.Effects.{framed, work_framed, hidden_framed, effect_framed, effect_frame}

module _ (class : Class) (latency : ℕ) (place : Place) (what : Act) (reads : List Read) (w : World) where
  -- no operation is left
  pub operation_out : nat_eq w.left 0 ≡ true → operation class latency place what reads w ≡ Ends OutOfSteps w
  unfolding operation
  operation_out none = rw none refl

  -- an operand is not set
  pub operation_unset : nat_eq w.left 0 ≡ false → are_set reads ≡ false → operation class latency place what reads w ≡ Ends (Trapped Uninit place) w
  unfolding operation
  operation_unset some unset = rw (some, unset) refl

  -- the act decides
  pub operation_acts : nat_eq w.left 0 ≡ false → are_set reads ≡ true
      → operation class latency place what reads w ≡ acted class latency place what reads w (work what (values_of reads) w)
  unfolding operation
  operation_acts some set = rw (some, set) refl

-- the world that an operation leaves, by what is told of it
abbrev left_by : Class → ℕ → Place → List Read → World → List Event → Option ℕ → World → World
left_by class latency place reads w events hid v =
    framed (events ++ Op class latency (sources reads hid w.control) place ∷ []) (w.made + 1) (w.left - 1) w.calls w.size w.telling w.deeds v

-- what an operation gives, by what is told of it
abbrev given_by : Class → ℕ → Place → List Read → World → List Event → Value → Option ℕ → World → Made
given_by class latency place reads w events value hid v =
    Gives (record { value = value; source = Some w.made }) (left_by class latency place reads w events hid v)

module _ (class : Class) (latency : ℕ) (place : Place) (what : Act) (reads : List Read) (w new : World) where
  -- an operation that is made where nothing is told, where its act had a value
  pub operation_made : (p : Performed) → w.telling ≡ false → nat_eq w.left 0 ≡ false → are_set reads ≡ true → Performs what (values_of reads) w (Ok p) new
      → Makes class latency place what reads w (Ok (done_of new.made p w.control)) (record new { made = new.made + 1; left = new.left - 1 })
  operation_made p quiet some set done events =
      let vs : List Value = values_of reads in
      let here : World = with_events events w in
      let goes = operation_acts class latency place what reads here some set in
      let given : work what vs here ≡ Ok p.value = work_framed events w.made w.left w.calls w.size w.telling w.deeds w what vs ∙ done.0 in
      let hid : hidden what vs here ≡ p.hidden = hidden_framed events w.made w.left w.calls w.size w.telling w.deeds w what vs ∙ done.1 in
      let hides : Option ℕ = hidden what vs here in
      let untold : counted class latency place what reads here ≡ left_by class latency place reads w events hides w =
      ap (λ (b : Bool). framed (events ++ Op class latency (sources reads hides w.control) place ∷ []) (w.made + 1) (w.left - 1) w.calls w.size w.telling
      (deeds_behind b w.deeds (deed what reads hides w.control (work what vs here))) w) quiet in
      let moved : effect what w.made vs (left_by class latency place reads w events (hidden what vs here) w) ≡ left_by class latency place reads w events (hidden what vs here) (effect what w.made vs w) =
      effect_framed (events ++ Op class latency (sources reads (hidden what vs here) w.control) place ∷ []) (w.made + 1) (w.left - 1) w.calls w.size w.telling w.deeds w what w.made vs in
      let frame : new ≡ framed w.events w.made w.left w.calls w.size w.telling w.deeds new = subst (λ (v : World). v ≡ framed w.events w.made w.left w.calls w.size w.telling w.deeds v) (sym done.3) (effect_frame what w.made vs w) in
      let made : w.made ≡ new.made = sym (ap (λ (v : World). v.made) frame) in
      let left : w.left ≡ new.left = sym (ap (λ (v : World). v.left) frame) in
      let calls : w.calls ≡ new.calls = sym (ap (λ (v : World). v.calls) frame) in
      let size : w.size ≡ new.size = sym (ap (λ (v : World). v.size) frame) in
      let telling : w.telling ≡ new.telling = sym (ap (λ (v : World). v.telling) frame) in
      let deeds : w.deeds ≡ new.deeds = sym (ap (λ (v : World). v.deeds) frame) in
      goes
      ∙ ap (acted class latency place what reads here) given
      ∙ ap (λ (v : World). Gives (record { value = p.value; source = Some w.made }) (effect what w.made vs v)) untold
      ∙ ap (λ (v : World). Gives (record { value = p.value; source = Some w.made }) v) moved
      ∙ ap (λ (h : Option ℕ). given_by class latency place reads w events p.value h (effect what w.made vs w)) hid
      ∙ ap (λ (v : World). given_by class latency place reads w events p.value p.hidden v) (sym done.3)
      ∙ (λ i. Gives (record { value = p.value; source = Some (made i) })
      (framed (events ++ Op class latency (sources reads p.hidden w.control) place ∷ []) (made i + 1) (left i - 1) (calls i) (size i) (telling i) (deeds i) new))

  -- the same of what is told and left
  pub operation_told : (p : Performed) (control : Option ℕ) (done : Done) (after : World) → w.telling ≡ false → nat_eq w.left 0 ≡ false → are_set reads ≡ true
      → Performs what (values_of reads) w (Ok p) new → control ≡ w.control → done ≡ done_of new.made p control
      → after ≡ record new { made = new.made + 1; left = new.left - 1 } → Makes class latency place what reads w (Ok done) after
  operation_told p control done after quiet some set performs control_is done_is after_is =
      let base : Makes class latency place what reads w (Ok (done_of new.made p w.control)) (record new { made = new.made + 1; left = new.left - 1 }) =
      operation_made p quiet some set performs in
      let told : done ≡ done_of new.made p w.control = done_is ∙ ap (λ (c : Option ℕ). done_of new.made p c) control_is in
      subst (λ (v : World). Makes class latency place what reads w (Ok done) v) (sym after_is)
      (subst (λ (d : Done). Makes class latency place what reads w (Ok d) (record new { made = new.made + 1; left = new.left - 1 })) (sym told) base)

  -- an operation whose act has no value
  pub operation_refused : (why : Refusal) (s : Stop) → nat_eq w.left 0 ≡ false → are_set reads ≡ true → Performs what (values_of reads) w (Err why) new
      → s ≡ stop_of why place → Makes class latency place what reads w (Err s) new
  operation_refused why s some set performs is =
      subst (λ (x : Stop). Makes class latency place what reads w (Err x) new) (sym is) (go why performs)
    where
      go : (why : Refusal) → Performs what (values_of reads) w (Err why) new → Makes class latency place what reads w (Err (stop_of why place)) new
      go (refusal.Trapped t) done = (
        λ events.
            let here : World = with_events events w in
            operation_acts class latency place what reads here some set
            ∙ ap (acted class latency place what reads here) (work_framed events w.made w.left w.calls w.size w.telling w.deeds w what (values_of reads) ∙ done.0),
        done.1,
      )
      go refusal.Memory done = done

-- as many operations are left behind an act as before it
pub still_left : (what : Act) (reads : List Read) (w new : World) (p : Performed) → Performs what (values_of reads) w (Ok p) new → w.left ≡ new.left
still_left what reads w new p done =
    let frame : new ≡ framed w.events w.made w.left w.calls w.size w.telling w.deeds new =
    subst (λ (v : World). v ≡ framed w.events w.made w.left w.calls w.size w.telling w.deeds v) (sym done.3) (effect_frame what w.made (values_of reads) w) in
    sym (ap (λ (v : World). v.left) frame)

module _ (class : Class) (latency : ℕ) (place : Place) (what : Act) (reads : List Read) (w : World) where
  -- the run ends where no operation is left
  pub makes_none : nat_eq w.left 0 ≡ true → Makes class latency place what reads w (Err (stop.Ended OutOfSteps)) w
  makes_none none = (λ events. operation_out class latency place what reads (with_events events w) none, refl)

  -- and traps where an operand is not set
  pub makes_unset : nat_eq w.left 0 ≡ false → are_set reads ≡ false → Makes class latency place what reads w (Err (stop.Ended (Trapped Uninit place))) w
  makes_unset some unset = (λ events. operation_unset class latency place what reads (with_events events w) some unset, refl)

-- an act that reads and writes nothing of the world, by what it gives
pub performs_alone : (what : Act) (values : List Value) (w : World) (given : Given) → work what values w ≡ given → hidden what values w ≡ None
    → touched what values w.memory ≡ None → effect what w.made values w ≡ w → Performs what values w (performed_of given) w
performs_alone what values w (Ok v) is hid element same = (is, hid, element, sym same)
performs_alone what values w (Err t) is hid element same = (is, refl)

-- a value that is held is moved where an operation is left
pub move_made : (w after : World) (held : Held) (p : Performed) (control : Option ℕ) (done : Done) → w.telling ≡ false → 0 < w.left → p ≡ record { value = held.value; hidden = None; element = None }
    → control ≡ w.control → done ≡ done_of w.made p control → after ≡ record w { made = w.made + 1; left = w.left - 1 }
    → (class : Class) (latency : ℕ) (place : Place) (broken : Bool) → Makes class latency place act.Move (record { slot = Some held; broken = broken } ∷ []) w (Ok done) after
unfolding work hidden touched effect
move_made w after held p control done quiet some is control_is done_is after_is class latency place broken =
    let reads : List Read = record { slot = Some held; broken = broken } ∷ [] in
    let performs : Performs act.Move (values_of reads) w (Ok p) w = rw is (refl, refl, refl, refl) in
    operation_told class latency place act.Move reads w w p control done after quiet (ne_eqb w.left 0 (λ e. omega (arith, e, some))) refl performs control_is done_is after_is
