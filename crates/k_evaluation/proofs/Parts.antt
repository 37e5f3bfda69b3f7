-- The parts that a run is made of are lawful.
use Rattle.std.proofs.Common.{◌≡◌, ℕ, zero, suc, ◌+◌, ◌-◌, ◌*◌, ◌≤◌, ℤ, pos, List, [], ◌∷◌, ◌++◌, map, length, take, drop, replicate, slice_get, slice_set, Option, Some, None, Result, Ok, Err, Bool, true, false, nat_eq, refl, sym, ◌∙◌, subst, ap, arith, append_assoc}
use Rattle.std.proofs.lemmas.Bool.{eqb-true, eqb-false, ne_eqb}
use Rattle.std.proofs.lemmas.List.{append-nil}
use Rattle.k_num.specs.declared.initial.Initial.{Initial}
use Rattle.k_num.specs.declared.place.Place.{Place}
use Rattle.k_optab.specs.declared.class.Class.{Class}
use Rattle.k_optab.specs.declared.event.Event.{Event}
use Rattle.k_optab.specs.declared.event.Event.TheVariants.{Op, Enter, Exit}
use Rattle.k_optab.specs.Events.{Operation, operations, SourcesAreEarlier, total_latency}
use Rattle.k_optab.specs.Instances.{nothing}
use Rattle.k_optab.specs.Latencies.{latency}
use Rattle.k_ending.specs.declared.ending.End.TheVariants as ending
use Rattle.k_ending.specs.declared.ending.Trap.{Trap}
use Rattle.k_optab.proofs.Trees.{operations-append}
use Rattle.k_mem.specs.declared.fault.MemTrap.{MemTrap}
use Rattle.k_mem.specs.declared.pointer.Pointer.{Pointer}
use Rattle.k_mem.specs.declared.start.Start.{Start}
use Rattle.k_mem.specs.Memory.{Memory, live_elements}
use Rattle.k_mem.specs.Calls.{push_of, popped, first_of, length_of}
use Rattle.k_world.specs.declared.act.Act.{Act}
use Rattle.k_world.specs.declared.act.Act.TheVariants as act
use Rattle.k_world.specs.declared.value.Held.{Held}
use Rattle.k_world.specs.declared.value.Read.{Read}
use Rattle.k_world.specs.declared.value.Value.{Value}
use Rattle.k_world.specs.declared.value.Value.TheVariants as value
use Rattle.k_world.specs.Acts.{Given, work, effect, hidden, output_effect, pointer_and_number, store_effect, written}
use Rattle.k_world.specs.Changes.{with_elements, with_string, object_filled, objects_kept, without_origins}
use Rattle.k_world.specs.Operands.{source_in, held_by, are_set, values_of, sources}
use Rattle.k_world.specs.Deeds.{deed, deeds_behind}
use Rattle.k_world.specs.Operations.{Made, Gives, Ends, operation, acted, counted, event_of}
use Rattle.k_world.specs.Worlds.{World, with_event}
use Rattle.k_world.specs.WorldLaws.{IsMade, AreMade, AllComeFrom, IsSound, HasOneMore, LeavesSound, WhereMade, IsCounted}
use Rattle.k_world.proofs.Effects.{framed, work_framed, hidden_framed, effect_framed}
use Rattle.k_world.proofs.Operations.{operation_out, operation_unset, operation_acts}
use Rattle.k_world.proofs.Sound.{operation_sound, operations_count, operation_cases}
use Rattle.k_evaluation.specs.declared.operand.Operand.{Operand}
use Rattle.k_evaluation.specs.declared.operand.Operand.TheVariants.{Constant, Holding, Register}
use Rattle.k_evaluation.specs.States.{State, Outcome, Goes, Stops, Part, follow, ◌>>=◌, gives, traps, read, made, makes, computes, sets, exits, region, control, controls, settles, settled}
use Rattle.k_evaluation.specs.Objects.{made_object, makes_object, with_items_at, fills, live, keeps, block, makes_string}
use Rattle.k_evaluation.specs.Laws.{Begins}
use Rattle.k_evaluation.proofs.Kept.{Setting, SlotsCome, OperandsCome, slots_later, operands_later, operands_both, begins_itself, HasGrown, HasPassed, grown_both, passed_itself, grown_itself, IsGood, more_world, more, Grows, Fine, Cut, Lawful, Lasts, more_good, op_alone, region_events, grows_less, fine_grows, fine_so, cut_follow, bind}

-- PARTS AND WHAT WAITS: a part is lawful where these operands came from operations that were made, and so is what it carries
abbrev pub Brings : {A : Type 0} → Setting → List Operand → (A → List Operand) → Part A → Type 0
Brings g waiting carries part = Lawful g (λ made. OperandsCome made waiting) (λ made a. OperandsCome made (carries a)) part

-- what a part carries that gives an operand, what an operation gave, nothing, or a control source
abbrev pub of_operand : Operand → List Operand
of_operand a = a ∷ []

abbrev pub of_held : Held → List Operand
of_held held = Holding held ∷ []

abbrev pub of_none : {A : Type 0} → A → List Operand
of_none a = []

abbrev pub of_source : Option ℕ → List Operand
of_source c = Holding (record { value = value.Number (pos 0); source = c }) ∷ []

pub lasts : (waiting : List Operand) → Lasts (λ made. OperandsCome made waiting)
lasts waiting a b low h = operands_later a b waiting low h

-- one part behind another
pub binds : {A B : Type 0} (g : Setting) (waiting : List Operand) (carries : A → List Operand) (more_carried : B → List Operand) (part : Part A) (next : A → Part B)
    → Brings g waiting carries part
    → ((a : A) → Brings g (carries a ++ waiting) more_carried (next a))
    → Brings g waiting more_carried (part >>= next)
binds g waiting carries more_carried part next first second =
    bind g (λ made. OperandsCome made waiting) (λ made a. OperandsCome made (carries a)) (λ made b. OperandsCome made (more_carried b)) part next (lasts waiting) first
    (λ a budget s good w. second a budget s good (operands_both s.world.made (carries a) waiting w.1 w.0))

-- a part that needs fewer of them
pub needs : {A : Type 0} (g : Setting) (waiting fewer : List Operand) (carries : A → List Operand) (part : Part A)
    → ((made : ℕ) → OperandsCome made waiting → OperandsCome made fewer) → Brings g fewer carries part → Brings g waiting carries part
needs g waiting fewer carries part from part_brings budget s good w = part_brings budget s good (from s.world.made w)

-- a part that needs none
pub anywhere : {A : Type 0} (g : Setting) (waiting : List Operand) (carries : A → List Operand) (part : Part A) → Brings g [] carries part → Brings g waiting carries part
anywhere g waiting carries part part_brings budget s good w = part_brings budget s good tt

pub gives_lawful : {A : Type 0} (g : Setting) (waiting : List Operand) (carries : A → List Operand) (a : A)
    → ((made : ℕ) → OperandsCome made waiting → OperandsCome made (carries a)) → Brings g waiting carries (gives a)
gives_lawful g waiting carries a from budget s good w = ((good, from s.world.made w, passed_itself s.world), λ k. refl)

pub traps_lawful : {A : Type 0} (g : Setting) (waiting : List Operand) (carries : A → List Operand) (trap : Trap) (place : Place) → Brings g waiting carries (traps {A = A} trap place)
traps_lawful g waiting carries trap place budget s good w = ((tt, good.sound, grown_itself s.world), λ k. refl)

-- A VARIABLE IS SET
slots_set : (made : ℕ) (slots : List (Option Held)) (n : ℕ) (slot : Option Held) → SlotsCome made slots → IsMade made (source_in slot) → SlotsCome made (slice_set slots n slot)
slots_set made [] n slot h one = tt
slots_set made (x ∷ slots) zero slot h one = (one, h.1)
slots_set made (x ∷ slots) (suc n) slot h one = (h.0, slots_set made slots n slot h.1 one)

pub sets_lawful : (g : Setting) (waiting : List Operand) (n : ℕ) (slot : Option Held)
    → ((made : ℕ) → OperandsCome made waiting → IsMade made (source_in slot)) → Brings g waiting of_none (sets n slot)
sets_lawful g waiting n slot from budget s good w = (
  (record { sound = good.sound; held = slots_set s.world.made s.vars n slot good.held (from s.world.made w) }, tt, passed_itself s.world),
  λ k. refl,
)

-- THE CONTROL SOURCE
pub control_lawful : (g : Setting) (waiting : List Operand) → Brings g waiting of_source control
control_lawful g waiting budget s good w = ((good, (good.sound.control, tt), passed_itself s.world), λ k. refl)

with_control : (most budget : ℕ) (w : World) (c : Option ℕ) → IsSound budget most w → IsMade w.made c → IsSound budget most (record w { control = c })
with_control most budget w c sound one = record {
  earlier = sound.earlier;
  counted = sound.counted;
  steps = sound.steps;
  work = sound.work;
  control = one;
  in_cell = sound.in_cell;
  out_cell = sound.out_cell;
  elements = sound.elements;
}

-- a world that differs in nothing that grows has passed
same_passed : (u v : World) → u.made ≡ v.made → v.events ≡ u.events → v.output ≡ u.output → HasPassed u v
same_passed u v same_made same_events same_output = record {
  grown = record {
    made = omega (arith, same_made);
    events = ([], same_events ∙ sym (append-nil u.events));
    output = ([], same_output ∙ sym (append-nil u.output));
  };
  balanced = nothing;
}

pub controls_lawful : (g : Setting) (waiting : List Operand) (c : Option ℕ)
    → ((made : ℕ) → OperandsCome made waiting → IsMade made c) → Brings g waiting of_none (controls c)
controls_lawful g waiting c from budget s good w = (
  (
    record { sound = with_control g.most budget s.world c good.sound (from s.world.made w); held = good.held },
    tt,
    same_passed s.world (record s.world { control = c }) refl refl refl,
  ),
  λ k. refl,
)

pub settles_lawful : (g : Setting) (waiting : List Operand) (stays : Bool) (c : Option ℕ)
    → ((made : ℕ) → OperandsCome made waiting → IsMade made c) → Brings g waiting of_none (settles stays c)
settles_lawful g waiting true c from = gives_lawful g waiting of_none tt (λ made w. tt)
settles_lawful g waiting false c from = controls_lawful g waiting c from

pub before_both : (made : ℕ) (xs ys : List Operand) → OperandsCome made (xs ++ ys) → OperandsCome made xs
before_both made [] ys h = tt
before_both made (x ∷ xs) ys h = (h.0, before_both made xs ys h.1)

pub behind_both : (made : ℕ) (xs ys : List Operand) → OperandsCome made (xs ++ ys) → OperandsCome made ys
behind_both made [] ys h = h
behind_both made (x ∷ xs) ys h = behind_both made xs ys h.1

-- a part, behind which the control source stays or is as before
pub settled_lawful : {A : Type 0} (g : Setting) (carries : A → List Operand) (stays : Bool) (part : Part A)
    → Brings g [] carries part → Brings g [] carries (settled stays part)
settled_lawful {A = A} g carries stays part lawful =
    binds {B = A} g [] of_source carries control (λ c. part >>= λ a. settles stays c >>= λ done. gives a) (control_lawful g [])
    (λ c. binds g (of_source c) carries carries part (λ a. settles stays c >>= λ done. gives a) (anywhere g (of_source c) carries part lawful)
    (λ a. binds {B = A} g (carries a ++ of_source c) of_none carries (settles stays c) (λ done. gives a)
    (settles_lawful g (carries a ++ of_source c) stays c (λ made w. (behind_both made (carries a) (of_source c) w).0))
    (λ done. gives_lawful g (carries a ++ of_source c) carries a (λ made w. before_both made (carries a) (of_source c) w))))

-- AN OPERATION
pub held_comes : (made : ℕ) (slots : List (Option Held)) (n : ℕ) → SlotsCome made slots → IsMade made (source_in (held_by (slice_get slots n)))
held_comes made [] n h = tt
held_comes made (slot ∷ slots) zero h = h.0
held_comes made (slot ∷ slots) (suc n) h = held_comes made slots n h.1

pub reads_come : (s : State) (operands : List Operand) → SlotsCome s.world.made s.vars → OperandsCome s.world.made operands
    → AllComeFrom s.world.made (map (read s) operands)
reads_come s [] held come = tt
reads_come s (Constant v ∷ operands) held come = (tt, reads_come s operands held come.1)
reads_come s (Holding x ∷ operands) held come = (come.0, reads_come s operands held come.1)
reads_come s (Register n broken ∷ operands) held come = (held_comes s.world.made s.vars n held, reads_come s operands held come.1)

written_more : (number : ℕ) (bytes : Result (List ℕ) Trap) (w : World) → Begins w.output (output_effect number bytes w).output
written_more number (Ok bytes) w = (bytes, refl)
written_more number (Err t) w = begins_itself w.output

stored_output : (number : ℕ) (s : Option (Pointer × ℤ)) (w : World) → Begins w.output (store_effect number s w).output
stored_output number None w = begins_itself w.output
stored_output number (Some s) w = begins_itself w.output

-- an act leaves the output as it is, or writes behind it
effect_output : (what : Act) (number : ℕ) (values : List Value) (w : World) → Begins w.output (effect what number values w).output
unfolding effect
effect_output (act.Binary op kind) number values w = begins_itself w.output
effect_output (act.Unary op kind) number values w = begins_itself w.output
effect_output (act.Convert kind) number values w = begins_itself w.output
effect_output act.Move number values w = begins_itself w.output
effect_output (act.Offset minus scale) number values w = begins_itself w.output
effect_output (act.PtrCompare op) number values w = begins_itself w.output
effect_output (act.PtrDistance scale) number values w = begins_itself w.output
effect_output act.Load number values w = begins_itself w.output
effect_output act.Store number values w = stored_output number (pointer_and_number values) w
effect_output act.Input number values w = begins_itself w.output
effect_output (act.Output what) number values w = written_more number (written what values) w
effect_output act.Test number values w = begins_itself w.output
effect_output act.Call number values w = begins_itself w.output

-- what comes of an operation, and what comes of it where so many more may be made
abbrev MadeCut : ℕ → World → Made → Made → Type 0
MadeCut k w (Gives held v) other = other ≡ Gives held (more_world k v)
MadeCut k w (Ends (ending.Trapped trap place) v) other = other ≡ Ends (ending.Trapped trap place) (more_world k v)
MadeCut k w (Ends (ending.Returned n) v) other = Unit {0}
MadeCut k w (Ends ending.OutOfSteps v) other = (v.left ≡ 0) × (v ≡ w)

module _ (k : ℕ) (class : Class) (latency : ℕ) (place : Place) (what : Act) (reads : List Read) (w : World) where
  abbrev there : World
  there = more_world k w

  same_effect : (vs : List Value) → nat_eq w.left 0 ≡ false
      → effect what w.made vs (counted class latency place what reads there) ≡ more_world k (effect what w.made vs (counted class latency place what reads w))
  same_effect vs some =
      let hid : hidden what (values_of reads) there ≡ hidden what (values_of reads) w = hidden_framed w.events w.made (w.left + k) w.calls w.size w.telling w.deeds w what (values_of reads) in
      let given : work what (values_of reads) there ≡ work what (values_of reads) w = work_framed w.events w.made (w.left + k) w.calls w.size w.telling w.deeds w what (values_of reads) in
      let none : w.left ≡ 0 → ⊥ = eqb-false w.left 0 some in
      let fewer : (w.left + k) - 1 ≡ (w.left - 1) + k = omega (arith, none) in
      effect_framed (w.events ++ event_of class latency place what reads there ∷ []) (w.made + 1) ((w.left + k) - 1) w.calls w.size
      w.telling (counted class latency place what reads there).deeds w what w.made vs
      ∙ (λ i. framed (w.events ++ Op class latency (sources reads (hid i) w.control) place ∷ []) (w.made + 1) (fewer i) w.calls w.size
      w.telling (deeds_behind w.telling w.deeds (deed what reads (hid i) w.control (given i))) (effect what w.made vs w))
      ∙ sym (ap (more_world k) (effect_framed (w.events ++ event_of class latency place what reads w ∷ []) (w.made + 1) (w.left - 1) w.calls w.size
      w.telling (counted class latency place what reads w).deeds w what w.made vs))

  acted_cut : (r : Given) → nat_eq w.left 0 ≡ false → MadeCut k w (acted class latency place what reads w r) (acted class latency place what reads there r)
  acted_cut (Ok v) some = ap (λ (x : World). Gives (record { value = v; source = Some w.made }) x) (same_effect (values_of reads) some)
  acted_cut (Err t) some = refl

  set_cut : nat_eq w.left 0 ≡ false → (b : Bool) → are_set reads ≡ b → MadeCut k w (operation class latency place what reads w) (operation class latency place what reads there)
  set_cut some b is = by b is
    where
      more_left : nat_eq (w.left + k) 0 ≡ false
      more_left = let none : w.left ≡ 0 → ⊥ = eqb-false w.left 0 some in ne_eqb (w.left + k) 0 (λ h. none (omega (arith, h)))

      by : (b : Bool) → are_set reads ≡ b → MadeCut k w (operation class latency place what reads w) (operation class latency place what reads there)
      by true is =
          let one = operation_acts class latency place what reads w some is in
          let two = operation_acts class latency place what reads there more_left is in
          let same : work what (values_of reads) there ≡ work what (values_of reads) w = work_framed w.events w.made (w.left + k) w.calls w.size w.telling w.deeds w what (values_of reads) in
          let both : operation class latency place what reads there ≡ acted class latency place what reads there (work what (values_of reads) w) =
          two ∙ ap (acted class latency place what reads there) same in
          subst (λ (m : Made). MadeCut k w m (operation class latency place what reads there)) (sym one)
          (subst (λ (m : Made). MadeCut k w (acted class latency place what reads w (work what (values_of reads) w)) m) (sym both) (acted_cut (work what (values_of reads) w) some))
      by false is =
          let one = operation_unset class latency place what reads w some is in
          let two = operation_unset class latency place what reads there more_left is in
          subst (λ (m : Made). MadeCut k w m (operation class latency place what reads there)) (sym one) two

  operation_cut : (b : Bool) → nat_eq w.left 0 ≡ b → MadeCut k w (operation class latency place what reads w) (operation class latency place what reads there)
  operation_cut true none =
      subst (λ (m : Made). MadeCut k w m (operation class latency place what reads there)) (sym (operation_out class latency place what reads w none)) (eqb-true w.left 0 none, refl)
  operation_cut false some = set_cut some (are_set reads) refl

zero_le : (n : ℕ) → 0 ≤ n
zero_le n = omega arith

made_cut : (k : ℕ) (s : State) (m other : Made) → MadeCut k s.world m other → Grows s.world (made (more k s) other) → Cut k (made s m) (made (more k s) other)
made_cut k s (Gives held v) other same grows = ap (made (more k s)) same
made_cut k s (Ends (ending.Trapped trap place) v) other same grows = ap (made (more k s)) same
made_cut k s (Ends (ending.Returned n) v) other same grows = tt
made_cut k s (Ends ending.OutOfSteps v) other same grows = (same.0, subst (λ (u : World). Grows u (made (more k s) other)) (sym same.1) grows)

-- what an operation gave, which was made behind so many others
abbrev pub Counted : ℕ → ℕ → Held → Type 0
Counted base made held = (base + 1 ≤ made) × OperandsCome made (of_held held)

made_fine : (most budget base : ℕ) (s : State) (m : Made) → base ≤ s.world.made → IsGood most budget s → LeavesSound budget most s.world m → WhereMade IsCounted s.world m
    → WhereMade (λ before after. Begins before.output after.output) s.world m
    → Fine most budget (Counted base) s.world (made s m)
made_fine most budget base s (Gives held w) behind good leaves counts writes =
    let next : w.made ≡ s.world.made + 1 = counts.0 in
    let low : s.world.made ≤ w.made = omega (arith, next) in
    let after : base + 1 ≤ w.made = omega (arith, next, behind) in
    let one : HasOneMore s.world.events w.events = leaves.2 in (
      record { sound = leaves.0; held = slots_later s.world.made w.made s.vars low good.held },
      (after, (leaves.1, tt)),
      record {
        grown = record { made = low; events = (Op one.class one.latency one.sources one.place ∷ [], one.is); output = writes };
        balanced = op_alone one.class one.latency one.sources one.place;
      },
    )
made_fine most budget base s (Ends end w) behind good leaves counts writes = (
  leaves.0,
  subst (IsSound budget most) (sym leaves.1) good.sound,
  subst (λ (v : World). HasGrown s.world v) (sym leaves.1) (grown_itself s.world),
)

module _ (g : Setting) (class : Class) (place : Place) (what : Act) (operands : List Operand) where
  abbrev takes : ℕ
  takes = latency g.program.latencies class

  makes_fine : (budget base : ℕ) (s : State) → base ≤ s.world.made → IsGood g.most budget s → OperandsCome s.world.made operands
      → Fine g.most budget (Counted base) s.world (makes g.program class place what operands s)
  makes_fine budget base s behind good come =
      made_fine g.most budget base s (operation class takes place what (map (read s) operands) s.world) behind good
      (operation_sound class takes place what (map (read s) operands) s.world budget g.most (g.short class) good.sound (reads_come s operands good.held come))
      (operations_count class takes place what (map (read s) operands) s.world)
      (operation_cases (WhereMade (λ before after. Begins before.output after.output) s.world) class takes place what (map (read s) operands) s.world
      (λ end early. tt)
      (λ some v. effect_output what s.world.made (values_of (map (read s) operands)) (counted class takes place what (map (read s) operands) s.world)))

  -- an operation is made behind the others
  pub makes_counted : (base : ℕ) → Lawful g (λ made. (base ≤ made) × OperandsCome made operands) (Counted base) (makes g.program class place what operands)
  makes_counted base budget s good come = (
    makes_fine budget base s come.0 good come.1,
    λ k. made_cut k s (operation class takes place what (map (read s) operands) s.world) (operation class takes place what (map (read s) operands) (more_world k s.world))
        (operation_cut k class takes place what (map (read s) operands) s.world (nat_eq s.world.left 0) refl)
        (grows_less k s.world (makes g.program class place what operands (more k s))
        (fine_grows g.most (budget + k) (Counted base) (more k s).world (makes g.program class place what operands (more k s))
        (makes_fine (budget + k) base (more k s) come.0 (more_good g.most budget k s good) come.1))),
  )

  makes_here : Brings g operands of_held (makes g.program class place what operands)
  makes_here budget s good come =
      let kept = makes_counted 0 budget s good (zero_le s.world.made, come) in
      (fine_so g.most budget (Counted 0) (λ made held. OperandsCome made (of_held held)) s.world (makes g.program class place what operands s) (λ made held h. h.1) kept.0, kept.1)

  -- an operation on operands among those that wait
  pub makes_lawful : (waiting : List Operand) → ((made : ℕ) → OperandsCome made waiting → OperandsCome made operands)
      → Brings g waiting of_held (makes g.program class place what operands)
  makes_lawful waiting from = needs g waiting operands of_held (makes g.program class place what operands) from makes_here

  -- the same, whose value is an operand
  pub computes_lawful : (waiting : List Operand) → ((made : ℕ) → OperandsCome made waiting → OperandsCome made operands)
      → Brings g waiting of_operand (computes g.program class place what operands)
  computes_lawful waiting from =
      binds g waiting of_held of_operand (makes g.program class place what operands) (λ held. gives (Holding held)) (makes_lawful waiting from)
      (λ held. gives_lawful g (Holding held ∷ waiting) of_operand (Holding held) (λ made w. (w.0, tt)))

-- OBJECTS
both_made : (made : ℕ) (xs ys : List (Option ℕ)) → AreMade made xs → AreMade made ys → AreMade made (xs ++ ys)
both_made made [] ys h k = k
both_made made (x ∷ xs) ys h k = (h.0, both_made made xs ys h.1 k)

none_made : (made n : ℕ) → AreMade made (replicate n None)
none_made made zero = tt
none_made made (suc n) = (tt, none_made made n)

take_made : (made n : ℕ) (xs : List (Option ℕ)) → AreMade made xs → AreMade made (take n xs)
take_made made zero xs h = tt
take_made made (suc n) [] h = tt
take_made made (suc n) (x ∷ xs) h = (h.0, take_made made n xs h.1)

drop_made : (made n : ℕ) (xs : List (Option ℕ)) → AreMade made xs → AreMade made (drop n xs)
drop_made made zero xs h = h
drop_made made (suc n) [] h = tt
drop_made made (suc n) (x ∷ xs) h = drop_made made n xs h.1

with_objects : (most budget : ℕ) (w : World) (m : Memory) (origins : List (Option ℕ)) → IsSound budget most w → AreMade w.made origins
    → IsSound budget most (record w { memory = m; origins = origins })
with_objects most budget w m origins sound are = record {
  earlier = sound.earlier;
  counted = sound.counted;
  steps = sound.steps;
  work = sound.work;
  control = sound.control;
  in_cell = sound.in_cell;
  out_cell = sound.out_cell;
  elements = are;
}

module _ (g : Setting) (place : Place) (count : ℕ) where
  made_object_keeps : (budget : ℕ) (s : State) → IsGood g.most budget s → (m : Option Memory)
      → Fine g.most budget (λ made home. OperandsCome made (of_held home)) s.world (made_object place s (with_elements count s.world m))
      × ((k : ℕ) → Cut k (made_object place s (with_elements count s.world m)) (made_object place (more k s) (with_elements count (more_world k s.world) m)))
  made_object_keeps budget s good None = ((tt, good.sound, grown_itself s.world), λ k. refl)
  made_object_keeps budget s good (Some m) = (
    (
      record {
        sound =
            with_objects g.most budget s.world m (s.world.origins ++ replicate count None) good.sound
            (both_made s.world.made s.world.origins (replicate count None) good.sound.elements (none_made s.world.made count));
        held = good.held;
      },
      (tt, tt),
      same_passed s.world (record s.world { memory = m; origins = s.world.origins ++ replicate count None }) refl refl refl,
    ),
    λ k. refl,
  )

  pub makes_object_lawful : (waiting : List Operand) (start : Start) → Brings g waiting of_held (makes_object place start count)
  makes_object_lawful waiting start budget s good w = made_object_keeps budget s good (push_of s.world.memory start count)

pub makes_string_lawful : (g : Setting) (waiting : List Operand) (place : Place) (bytes : List ℕ) → Brings g waiting of_held (makes_string place bytes)
makes_string_lawful g waiting place bytes budget s good w =
    made_object_keeps g place (length (bytes ++ 0 ∷ [])) budget s good (with_string s.world.memory (bytes ++ 0 ∷ []))

without_made : (made : ℕ) (first count : Result ℕ MemTrap) (origins : List (Option ℕ)) → AreMade made origins → AreMade made (without_origins first count origins)
without_made made (Ok first) (Ok count) origins h =
    both_made made (take first origins ++ replicate count None) (drop (first + count) origins)
    (both_made made (take first origins) (replicate count None) (take_made made first origins h) (none_made made count))
    (drop_made made (first + count) origins h)
without_made made (Ok first) (Err t) origins h = h
without_made made (Err t) count origins h = h

filled_sound : (most budget : ℕ) (v : Value) (items : List Initial) (w : World) → IsSound budget most w → IsSound budget most (with_items_at v items w)
filled_sound most budget (value.Number z) items w sound = sound
filled_sound most budget (value.Pointer p) items w sound =
    with_objects most budget w (object_filled w p.object items).memory (object_filled w p.object items).origins sound
    (without_made w.made (first_of w.memory p.object) (length_of w.memory p.object) w.origins sound.elements)

filled_passed : (v : Value) (items : List Initial) (w : World) → HasPassed w (with_items_at v items w)
filled_passed (value.Number z) items w = passed_itself w
filled_passed (value.Pointer p) items w = same_passed w (object_filled w p.object items) refl refl refl

filled_more : (k : ℕ) (v : Value) (items : List Initial) (w : World) → with_items_at v items (more_world k w) ≡ more_world k (with_items_at v items w)
filled_more k (value.Number z) items w = refl
filled_more k (value.Pointer p) items w = refl

filled_made : (v : Value) (items : List Initial) (w : World) → (with_items_at v items w).made ≡ w.made
filled_made (value.Number z) items w = refl
filled_made (value.Pointer p) items w = refl

pub fills_lawful : (g : Setting) (waiting : List Operand) (home : Held) (items : List Initial) → Brings g waiting of_none (fills home items)
fills_lawful g waiting home items budget s good w = (
  (
    record {
      sound = filled_sound g.most budget home.value items s.world good.sound;
      held = subst (λ (n : ℕ). SlotsCome n s.vars) (sym (filled_made home.value items s.world)) good.held;
    },
    tt,
    filled_passed home.value items s.world,
  ),
  λ k. ap (λ (v : World). Goes tt (record s { world = v })) (filled_more k home.value items s.world),
)

keeps_lawful : (g : Setting) (waiting : List Operand) (count : ℕ) → Brings g waiting of_none (keeps count)
keeps_lawful g waiting count budget s good w = (
  (
    record {
      sound =
          with_objects g.most budget s.world (objects_kept s.world count).memory (objects_kept s.world count).origins good.sound
          (take_made s.world.made (live_elements (popped s.world.memory count)) s.world.origins good.sound.elements);
      held = good.held;
    },
    tt,
    same_passed s.world (objects_kept s.world count) refl refl refl,
  ),
  λ k. refl,
)

live_lawful : (g : Setting) (waiting : List Operand) → Brings g waiting of_none live
live_lawful g waiting budget s good w = ((good, tt, passed_itself s.world), λ k. refl)

-- a block around a part
pub block_lawful : {A : Type 0} (g : Setting) (waiting : List Operand) (carries : A → List Operand) (part : Part A)
    → Brings g waiting carries part → Brings g waiting carries (block part)
block_lawful {A = A} g waiting carries part lawful =
    binds {B = A} g waiting of_none carries live (λ count. part >>= λ a. keeps count >>= λ kept. gives a) (live_lawful g waiting)
    (λ count. binds g waiting carries carries part (λ a. keeps count >>= λ kept. gives a) lawful
    (λ a. binds {B = A} g (carries a ++ waiting) of_none carries (keeps count) (λ kept. gives a) (keeps_lawful g (carries a ++ waiting) count)
    (λ kept. gives_lawful g (carries a ++ waiting) carries a (λ made w. before_both made (carries a) waiting w))))

-- REGIONS
no_operation : (events : List Event) (e : Event) → operations (e ∷ []) ≡ [] → operations (events ++ e ∷ []) ≡ operations events
no_operation events e none = operations-append events (e ∷ []) ∙ ap (λ (ops : List Operation). operations events ++ ops) none ∙ append-nil (operations events)

with_event_sound : (most budget : ℕ) (w : World) (e : Event) → operations (e ∷ []) ≡ [] → IsSound budget most w → IsSound budget most (with_event e w)
with_event_sound most budget w e none sound =
    let same : operations (w.events ++ e ∷ []) ≡ operations w.events = no_operation w.events e none in
    record {
      earlier = subst SourcesAreEarlier (sym same) sound.earlier;
      counted = ap length same ∙ sound.counted;
      steps = sound.steps;
      work = subst (λ (ops : List Operation). total_latency ops ≤ w.made * most) (sym same) sound.work;
      control = sound.control;
      in_cell = sound.in_cell;
      out_cell = sound.out_cell;
      elements = sound.elements;
    }

with_event_grown : (w : World) (e : Event) → HasGrown w (with_event e w)
with_event_grown w e = record { made = omega arith; events = (e ∷ [], refl); output = begins_itself w.output }

-- an instance around what passed
instance_passed : (w v : World) (region : ℕ) → HasPassed (with_event (Enter region) w) v → HasPassed w (with_event Exit v)
instance_passed w v region passed =
    let rest : List Event = passed.grown.events.0 in
    record {
      grown = record {
        made = passed.grown.made;
        events = (
          (Enter region ∷ rest) ++ Exit ∷ [],
          ap (λ (events : List Event). events ++ Exit ∷ []) (passed.grown.events.1 ∙ append_assoc w.events (Enter region ∷ []) rest) ∙ append_assoc w.events (Enter region ∷ rest) (Exit ∷ []),
        );
        output = passed.grown.output;
      };
      balanced = region_events region rest passed.balanced;
    }

-- what a part gave, behind which its region is left
region_fine : {A : Type 0} (most budget : ℕ) (P : ℕ → A → Type 0) (w : World) (number : ℕ) (o : Outcome A) → Fine most budget P (with_event (Enter number) w) o
    → Fine most budget P w (follow o (λ a. exits >>= λ left. gives a))
region_fine most budget P w number (Goes a t) h = (
  record { sound = with_event_sound most budget t.world Exit refl h.0.sound; held = h.0.held },
  h.1,
  instance_passed w t.world number h.2,
)
region_fine most budget P w number (Stops end v) h = (h.0, h.1, grown_both w (with_event (Enter number) w) v (with_event_grown w (Enter number)) h.2)

entered_good : (most budget : ℕ) (s : State) (number : ℕ) → IsGood most budget s → IsGood most budget (record s { world = with_event (Enter number) s.world })
entered_good most budget s number good = record { sound = with_event_sound most budget s.world (Enter number) refl good.sound; held = good.held }

-- a region around a part
pub region_lawful : {A : Type 0} (g : Setting) (waiting : List Operand) (carries : A → List Operand) (number : ℕ) (part : Part A)
    → Brings g waiting carries part → Brings g waiting carries (region number part)
region_lawful g waiting carries number part lawful budget s good w =
    let here : State = record s { world = with_event (Enter number) s.world } in
    let kept = lawful budget here (entered_good g.most budget s number good) w in (
      region_fine g.most budget (λ made a. OperandsCome made (carries a)) s.world number (part here) kept.0,
      λ k. cut_follow k (part here) (part (more k here)) (λ a. exits >>= λ left. gives a) (λ a. exits >>= λ left. gives a) (kept.1 k)
          (λ a t is. refl) (λ a t is. with_event_grown t.world Exit),
    )
