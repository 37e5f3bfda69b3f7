-- The budget only cuts a run short.
use Rattle.std.proofs.Common.{◌≡◌, ℕ, zero, suc, ◌+◌, ◌-◌, List, Option, Some, None, Bool, true, false, nat_eq, refl, sym, ◌∙◌, subst, ap, arith}
use Rattle.std.specs.Prelude.{slice_get}
use Rattle.std.proofs.lemmas.Bool.{eqb-false, ne_eqb}
use Rattle.k_num.specs.declared.place.Place.{Place}
use Rattle.k_optab.specs.declared.class.Class.{Class}
use Rattle.k_ending.specs.declared.ending.End.TheVariants.{Returned, Trapped, OutOfSteps}
use Rattle.k_world.specs.declared.act.Act.{Act}
use Rattle.k_world.specs.declared.value.Read.{Read}
use Rattle.k_world.specs.Operations.{Made, Gives, Ends, operation}
use Rattle.k_world.specs.Worlds.{World, fresh}
use Rattle.k_world.proofs.Operations.{operation_out}
use Rattle.k_code.specs.declared.code.Code.{Code}
use Rattle.k_code.specs.declared.instruction.Instr.{Instr}
use Rattle.k_code.specs.Budgets.{with_left, IsCutShort, BudgetCutsShort}
use Rattle.k_code.specs.Runs.{start, start_in, steps, world_of}
use Rattle.k_code.specs.Steps.{Configuration, Run, Going, Over, step, at_instruction, by_kind, by_operation, behind, alone, operation_of, reads_of}
use Rattle.k_code.proofs.Growing.{Grows, grows_on, grows_same, made_world, operation_grows, by_operation_grows, step_grows}
use Rattle.k_code.proofs.Stepping.{over_stays}
use Rattle.k_code.proofs.Unseen.{run_unseen, made_unseen, operation_unseen, behind_unseen, alone_unseen, start_unseen}

-- so much more is left
abbrev more_left : ℕ → ℕ → ℕ
more_left more n = n + more

-- whether it is told what operations do, and what was told, is the same
abbrev same : {A : Type 0} → A → A
same x = x

-- a run in which so many more operations may be made
abbrev run_longer : ℕ → Run → Run
run_longer more r = run_unseen (more_left more) same same r

-- a run that is the longer one but for what is left is cut short by nothing
whole_cut : (more : ℕ) (r r' : Run) → r' ≡ run_longer more r → IsCutShort more r r'
whole_cut more (Going c) r' e = e
whole_cut more (Over OutOfSteps w) r' e =
    let g : Grows w (with_left more w) = grows_same w (with_left more w) refl refl in
    subst (λ x. IsCutShort more (Over OutOfSteps w) x) (sym e) (g.events, g.output)
whole_cut more (Over (Returned n) w) r' e = e
whole_cut more (Over (Trapped t p) w) r' e = e

-- an operation goes as one with more left, or none is left
abbrev IsCutMade : ℕ → Made → Made → Type 0
IsCutMade more (Gives held w) longer = longer ≡ Gives held (with_left more w)
IsCutMade more (Ends OutOfSteps w) longer = Grows w (made_world longer)
IsCutMade more (Ends end w) longer = longer ≡ Ends end (with_left more w)

whole_made : (more : ℕ) (m m' : Made) → m' ≡ made_unseen (more_left more) same same m → IsCutMade more m m'
whole_made more (Gives held w) m' e = e
whole_made more (Ends OutOfSteps w) m' e = subst (λ x. Grows w (made_world x)) (sym e) (grows_same w (with_left more w) refl refl)
whole_made more (Ends (Returned n) w) m' e = e
whole_made more (Ends (Trapped t p) w) m' e = e

operation_cut : (more : ℕ) (class : Class) (latency : ℕ) (place : Place) (what : Act) (reads : List Read) (w : World)
    → IsCutMade more (operation class latency place what reads w) (operation class latency place what reads (with_left more w))
operation_cut more class latency place what reads w = left (nat_eq w.left 0) refl
  where
    grows_left : (m : Made) → Grows (with_left more w) (made_world m) → Grows w (made_world m)
    grows_left m g = record { events = g.events; output = g.output }

    left : (b : Bool) → nat_eq w.left 0 ≡ b → IsCutMade more (operation class latency place what reads w) (operation class latency place what reads (with_left more w))
    left true none =
        subst (λ m. IsCutMade more m (operation class latency place what reads (with_left more w))) (sym (operation_out class latency place what reads w none))
        (grows_left (operation class latency place what reads (with_left more w)) (operation_grows class latency place what reads (with_left more w)))
    left false some =
        let h : w.left ≡ 0 → ⊥ = eqb-false w.left 0 some in
        let fewer : w.left + more - 1 ≡ w.left - 1 + more = omega (arith, h) in
        let some' : nat_eq (w.left + more) 0 ≡ false = ne_eqb (w.left + more) 0 (λ e. h (omega arith)) in
        whole_made more (operation class latency place what reads w) (operation class latency place what reads (with_left more w))
        (operation_unseen (more_left more) same same class latency place what reads w fewer (λ deeds. refl) some some')

module _ (more : ℕ) (code : Code) where
  abbrev longer : Configuration → Configuration
  longer c = record c { world = with_left more c.world }

  -- what an operation makes of a run sees nothing of the world before it
  world_replaced : (i : Instr) (c : Configuration) (w : World) (m : Made) → by_operation code i (record c { world = w }) m ≡ by_operation code i c m
  world_replaced i c w (Gives held v) = refl
  world_replaced i c w (Ends end v) = refl

  made_cut : (i : Instr) (c : Configuration) (m m' : Made) → IsCutMade more m m' → IsCutShort more (by_operation code i c m) (by_operation code i (longer c) m')
  made_cut i c (Gives held w) m' e =
      subst (λ x. IsCutShort more (behind code i.place i.act held (record c { world = w })) (by_operation code i (longer c) x)) (sym e)
      (whole_cut more (behind code i.place i.act held (record c { world = w })) (behind code i.place i.act held (record c { world = with_left more w }))
      (behind_unseen (more_left more) same same code i.place i.act held (record c { world = w })))
  made_cut i c (Ends OutOfSteps w) m' grows =
      let g : Grows w (world_of (by_operation code i (record c { world = w }) m')) = by_operation_grows code i (record c { world = w }) m' grows in
      subst (λ x. IsCutShort more (Over OutOfSteps w) x) (world_replaced i c w m' ∙ sym (world_replaced i c (with_left more c.world) m')) (g.events, g.output)
  made_cut i c (Ends (Returned n) w) m' e = ap (λ x. by_operation code i (longer c) x) e
  made_cut i c (Ends (Trapped t p) w) m' e = ap (λ x. by_operation code i (longer c) x) e

  kind_cut : (i : Instr) (c : Configuration) (o : Option (Class × Act)) → IsCutShort more (by_kind code i c o) (by_kind code i (longer c) o)
  kind_cut i c None = whole_cut more (alone code i.place i.act c) (alone code i.place i.act (longer c)) (alone_unseen (more_left more) same same code i.place i.act c)
  kind_cut i c (Some o) =
      made_cut i c (operation o.0 i.latency i.place o.1 (reads_of c i.act) c.world) (operation o.0 i.latency i.place o.1 (reads_of c i.act) (with_left more c.world))
      (operation_cut more o.0 i.latency i.place o.1 (reads_of c i.act) c.world)

  instruction_cut : (c : Configuration) (i : Option Instr) → IsCutShort more (at_instruction code c i) (at_instruction code (longer c) i)
  instruction_cut c None = refl
  instruction_cut c (Some i) = kind_cut i c (operation_of i.act)

  going_cut : (c : Configuration) → IsCutShort more (step code (Going c)) (step code (Going (longer c)))
  unfolding step
  going_cut c = instruction_cut c (slice_get code.instrs c.pc)

  step_cut : (r r' : Run) → IsCutShort more r r' → IsCutShort more (step code r) (step code r')
  step_cut (Going c) r' e = subst (λ x. IsCutShort more (step code (Going c)) (step code x)) (sym e) (going_cut c)
  step_cut (Over OutOfSteps w) r' e =
      let g = grows_on w (world_of r') (world_of (step code r')) (record { events = e.0; output = e.1 }) (step_grows code r') in
      subst (λ x. IsCutShort more x (step code r')) (sym (over_stays code OutOfSteps w)) (g.events, g.output)
  step_cut (Over (Returned n) w) r' e =
      subst (λ x. IsCutShort more x (step code r')) (sym (over_stays code (Returned n) w)) (ap (step code) e ∙ over_stays code (Returned n) (with_left more w))
  step_cut (Over (Trapped t p) w) r' e =
      subst (λ x. IsCutShort more x (step code r')) (sym (over_stays code (Trapped t p) w)) (ap (step code) e ∙ over_stays code (Trapped t p) (with_left more w))

  steps_cut : (n : ℕ) (r r' : Run) → IsCutShort more r r' → IsCutShort more (steps code n r) (steps code n r')
  steps_cut zero r r' e = e
  steps_cut (suc n) r r' e = step_cut (steps code n r) (steps code n r') (steps_cut n r r' e)

  start_cut : (input : List ℕ) (budget : ℕ) → IsCutShort more (start code input budget) (start code input (budget + more))
  unfolding start
  start_cut input budget =
      whole_cut more (start_in code (fresh budget input)) (start_in code (fresh (budget + more) input)) (start_unseen (more_left more) same same code (fresh budget input))

pub budget_cuts_short : BudgetCutsShort
budget_cuts_short code input budget more n = steps_cut more code n (start code input budget) (start code input (budget + more)) (start_cut more code input budget)
