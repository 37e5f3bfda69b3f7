-- Loops are lawful where their parts are: however many turns there may be, a greater budget only adds to them.
use Rattle.std.proofs.Common.{◌≡◌, ℕ, zero, suc, ◌+◌, ◌≤◌, List, [], ◌∷◌, ◌++◌, Option, Some, None, Bool, true, false, not, if◌then◌else◌, arith}
use Rattle.k_world.specs.declared.value.Held.{Held}
use Rattle.k_world.specs.WorldLaws.{IsMade}
use Rattle.k_evaluation.specs.declared.operand.Operand.{Operand}
use Rattle.k_evaluation.specs.declared.operand.Operand.TheVariants.{Holding}
use Rattle.k_evaluation.specs.declared.flow.Flow.{Flow}
use Rattle.k_evaluation.specs.declared.flow.Flow.TheVariants.{Normal, Broke, Continued, Returned}
use Rattle.k_evaluation.specs.States.{State, Part, ◌>>=◌, gives, control, settles}
use Rattle.k_evaluation.specs.Meanings.{holds}
use Rattle.k_evaluation.specs.Loops.{LoopParts, Again, turn_of, resets, starts, stays_behind_body, stays_behind_loop, step_or_end, behind_body, turn, turn_if, turns, all_turns, begins, inside_loop, loop}
use Rattle.k_evaluation.proofs.Kept.{Setting, OperandsCome, IsGood, Lawful, Lasts, Pair, bind, pair_of, pair_bind, lawful_of, grown_itself, source_later, operands_later}
use Rattle.k_evaluation.proofs.Parts.{Brings, of_held, of_none, of_source, Counted, binds, anywhere, before_both, behind_both, gives_lawful, settles_lawful, control_lawful, region_lawful}

-- what a call gave
abbrev pub of_slot : Option Held → List Operand
of_slot None = []
of_slot (Some held) = Holding held ∷ []

-- what a statement carries
abbrev pub of_flow : Flow → List Operand
of_flow Normal = []
of_flow Broke = []
of_flow Continued = []
of_flow (Returned v) = of_slot v

-- what it carries came from operations that were made
abbrev pub FlowComes : ℕ → Flow → Type 0
FlowComes made flow = OperandsCome made (of_flow flow)

flow_later : (a b : ℕ) (flow : Flow) → a ≤ b → FlowComes a flow → FlowComes b flow
flow_later a b flow low h = operands_later a b (of_flow flow) low h

zero_le : (n : ℕ) → 0 ≤ n
zero_le n = omega arith

le_itself : (n : ℕ) → n ≤ n
le_itself n = omega arith

-- one turn fewer is enough behind an operation
fewer : (count n base made : ℕ) → count ≤ suc n + base → base + 1 ≤ made → count ≤ n + made
fewer count n base made few low = omega (arith, few, low)

-- no more operations were made than may be
too_many : (most budget count : ℕ) (s : State) → IsGood most budget s → budget ≤ count → count + 1 ≤ zero + s.world.made → ⊥
too_many most budget count s good most_of few = let steps : s.world.made + s.world.left ≡ budget = good.sound.steps in omega (arith, steps, most_of, few)

-- THE PARTS OF A LOOP are lawful; and each test is an operation.
pub record LawfulLoop (g : Setting) (l : LoopParts) : Type 0 where
  pub test : (base : ℕ) → Lawful g (λ made. base ≤ made) (Counted base) l.test
  pub step : Brings g [] of_none l.step
  pub body : Brings g [] of_flow l.body

module _ (g : Setting) (l : LoopParts) (lawful : LawfulLoop g l) (before : Option ℕ) where
  -- the control source before the loop came from an operation that was made
  abbrev Came : ℕ → Type 0
  Came made = OperandsCome made (of_source before)

  came_later : Lasts Came
  came_later a b low h = (source_later a b before low h.0, tt)

  resets_lawful : Lawful g Came (λ made done. Unit {0}) (resets l.counted before)
  resets_lawful = settles_lawful g (of_source before) (not l.counted) before (λ made w. w.0)

  step_lawful : Lawful g Came (λ made done. Unit {0}) (starts l before l.step)
  step_lawful = binds g (of_source before) of_none of_none (resets l.counted before) (λ ready. l.step) resets_lawful
      (λ ready. anywhere g (of_source before) of_none l.step lawful.step)

  test_lawful : (base : ℕ) → Lawful g (λ made. (base ≤ made) × Came made) (Counted base) (starts l before l.test)
  test_lawful base =
      bind g (λ made. (base ≤ made) × Came made) (λ made done. Unit {0}) (Counted base) (resets l.counted before) (λ ready. l.test)
      (λ a b low h. (omega (arith, low, h.0), came_later a b low h.1))
      (λ budget s good w. resets_lawful budget s good w.1)
      (λ ready budget s good w. lawful.test base budget s good w.0.0)

  body_lawful : Lawful g Came FlowComes (starts l before l.body)
  body_lawful = binds g (of_source before) of_none of_flow (resets l.counted before) (λ ready. l.body) resets_lawful
      (λ ready. anywhere g (of_source before) of_flow l.body lawful.body)

  module _ (budget k : ℕ) (W V : ℕ → Type 0) (lasts : Lasts W) (lasts_too : Lasts V) (weaker : (made : ℕ) → W made → V made) (came : (made : ℕ) → V made → Came made) where
    -- what follows a step, with one budget and with another
    module _ (next then_ : Part Flow) (pair : Pair g budget k W V FlowComes next then_) where
      round_pair : (flow : Flow) → Pair g budget k (λ made. W made × FlowComes made flow) (λ made. V made × FlowComes made flow) FlowComes
          (step_or_end l before next (turn_of flow)) (step_or_end l before then_ (turn_of flow))
      round_pair flow = by flow
        where
          again : (flow : Flow) → Pair g budget k (λ made. W made × FlowComes made flow) (λ made. V made × FlowComes made flow) FlowComes
              (step_or_end l before next Again) (step_or_end l before then_ Again)
          again flow =
              pair_bind g budget k (λ made. W made × FlowComes made flow) (λ made. V made × FlowComes made flow) (λ made done. Unit {0}) FlowComes
              (starts l before l.step) (starts l before l.step) (λ done. next) (λ done. then_)
              (λ a b low h. (lasts a b low h.0, flow_later a b flow low h.1)) (λ a b low h. (lasts_too a b low h.0, flow_later a b flow low h.1))
              (λ made h. (weaker made h.0, h.1))
              (pair_of g budget k (λ made. W made × FlowComes made flow) (λ made. V made × FlowComes made flow) Came (λ made done. Unit {0}) (starts l before l.step)
              (λ made h. came made (weaker made h.0)) (λ made h. came made h.0) step_lawful)
              (λ done. (λ s good w. pair.0 s good w.0.0, λ s good v. pair.1 s good v.0.0))

          ends : (flow left : Flow) → ((made : ℕ) → FlowComes made flow → FlowComes made left)
              → Pair g budget k (λ made. W made × FlowComes made flow) (λ made. V made × FlowComes made flow) FlowComes (gives left) (gives left)
          ends flow left from =
              pair_of g budget k (λ made. W made × FlowComes made flow) (λ made. V made × FlowComes made flow) (λ made. OperandsCome made (of_flow flow)) FlowComes (gives left)
              (λ made h. h.1) (λ made h. h.1) (gives_lawful g (of_flow flow) of_flow left from)

          by : (flow : Flow) → Pair g budget k (λ made. W made × FlowComes made flow) (λ made. V made × FlowComes made flow) FlowComes
              (step_or_end l before next (turn_of flow)) (step_or_end l before then_ (turn_of flow))
          by Normal = again Normal
          by Broke = ends Broke Normal (λ made h. tt)
          by Continued = again Continued
          by (Returned v) = ends (Returned v) (Returned v) (λ made h. h)

      behind_pair : (last : Option ℕ) (flow : Flow)
          → Pair g budget k (λ made. (W made × IsMade made last) × FlowComes made flow) (λ made. (V made × IsMade made last) × FlowComes made flow) FlowComes
          (behind_body l before next last flow) (behind_body l before then_ last flow)
      behind_pair last flow =
          pair_bind g budget k (λ made. (W made × IsMade made last) × FlowComes made flow) (λ made. (V made × IsMade made last) × FlowComes made flow)
          (λ made done. Unit {0}) FlowComes
          (settles (stays_behind_body l.jumps) last) (settles (stays_behind_body l.jumps) last)
          (λ done. step_or_end l before next (turn_of flow)) (λ done. step_or_end l before then_ (turn_of flow))
          (λ a b low h. ((lasts a b low h.0.0, source_later a b last low h.0.1), flow_later a b flow low h.1))
          (λ a b low h. ((lasts_too a b low h.0.0, source_later a b last low h.0.1), flow_later a b flow low h.1))
          (λ made h. ((weaker made h.0.0, h.0.1), h.1))
          (pair_of g budget k (λ made. (W made × IsMade made last) × FlowComes made flow) (λ made. (V made × IsMade made last) × FlowComes made flow)
          (λ made. OperandsCome made (of_source last)) (λ made done. Unit {0}) (settles (stays_behind_body l.jumps) last)
          (λ made h. (h.0.1, tt)) (λ made h. (h.0.1, tt))
          (settles_lawful g (of_source last) (stays_behind_body l.jumps) last (λ made w. w.0)))
          (λ done. (λ s good w. (round_pair flow).0 s good (w.0.0.0, w.0.1), λ s good v. (round_pair flow).1 s good (v.0.0.0, v.0.1)))

      turn_pair : (last : Option ℕ) → Pair g budget k (λ made. W made × IsMade made last) (λ made. V made × IsMade made last) FlowComes
          (turn l before next last) (turn l before then_ last)
      turn_pair last =
          pair_bind g budget k (λ made. W made × IsMade made last) (λ made. V made × IsMade made last) FlowComes FlowComes
          (starts l before l.body) (starts l before l.body) (behind_body l before next last) (behind_body l before then_ last)
          (λ a b low h. (lasts a b low h.0, source_later a b last low h.1)) (λ a b low h. (lasts_too a b low h.0, source_later a b last low h.1))
          (λ made h. (weaker made h.0, h.1))
          (pair_of g budget k (λ made. W made × IsMade made last) (λ made. V made × IsMade made last) Came FlowComes (starts l before l.body)
          (λ made h. came made (weaker made h.0)) (λ made h. came made h.0) body_lawful)
          (behind_pair last)

      -- a turn, where the test says so
      turn_if_pair : (test : Held) → Pair g budget k (λ made. W made × OperandsCome made (of_held test)) (λ made. V made × OperandsCome made (of_held test)) FlowComes
          (turn_if l before next test) (turn_if l before then_ test)
      turn_if_pair test = by (holds test)
        where
          by : (b : Bool) → Pair g budget k (λ made. W made × OperandsCome made (of_held test)) (λ made. V made × OperandsCome made (of_held test)) FlowComes
              (if b then turn l before next test.source else gives Normal) (if b then turn l before then_ test.source else gives Normal)
          by true = (λ s good w. (turn_pair test.source).0 s good (w.0, w.1.0), λ s good v. (turn_pair test.source).1 s good (v.0, v.1.0))
          by false =
              pair_of g budget k (λ made. W made × OperandsCome made (of_held test)) (λ made. V made × OperandsCome made (of_held test)) (λ made. Unit {0}) FlowComes (gives Normal)
              (λ made h. tt) (λ made h. tt) (gives_lawful g [] of_flow Normal (λ made h. tt))

  -- so many more operations may be made at first than turns are told
  module _ (budget k : ℕ) where
    -- turns behind a test, which is an operation behind this many others
    from_test : (n m base : ℕ) (W : ℕ → Type 0) (fact : Type 0) → Lasts W → ((made : ℕ) → W made → Came made)
        → (fact → (made : ℕ) → base + 1 ≤ made → Came made → W made)
        → Pair g budget k W Came FlowComes (turns n l before) (turns m l before)
        → Pair g budget k (λ made. (base ≤ made) × Came made × fact) (λ made. (base ≤ made) × Came made) FlowComes
        (starts l before l.test >>= turn_if l before (turns n l before)) (starts l before l.test >>= turn_if l before (turns m l before))
    from_test n m base W fact lasts weaker reaches pair =
        pair_bind g budget k (λ made. (base ≤ made) × Came made × fact) (λ made. (base ≤ made) × Came made) (Counted base) FlowComes
        (starts l before l.test) (starts l before l.test) (turn_if l before (turns n l before)) (turn_if l before (turns m l before))
        (λ a b low h. (omega (arith, low, h.0), came_later a b low h.1, h.2)) (λ a b low h. (omega (arith, low, h.0), came_later a b low h.1))
        (λ made h. (h.0, h.1))
        (pair_of g budget k (λ made. (base ≤ made) × Came made × fact) (λ made. (base ≤ made) × Came made) (λ made. (base ≤ made) × Came made) (Counted base) (starts l before l.test)
        (λ made h. (h.0, h.1)) (λ made h. h) (test_lawful base))
        (λ test.
        let on = turn_if_pair budget k W Came lasts came_later weaker (λ made h. h) (turns n l before) (turns m l before) pair test in (
          λ s good w. on.0 s good (reaches w.0.2 s.world.made w.1.0 w.0.1, w.1.1),
          λ s good v. on.1 s good (v.0.1, v.1.1),
        ))

    -- turns with any budget are fine
    turns_alone : (m : ℕ) → Pair g budget k (λ made. ⊥) Came FlowComes (turns m l before) (turns m l before)
    unfolding turns
    turns_alone zero = (λ s good w. absurd w, λ s good v. (tt, good.sound, grown_itself s.world))
    turns_alone (suc m) = (
      λ s good w. absurd w,
      λ s good v. (from_test m m 0 (λ made. ⊥) ⊥ (λ a b low h. h) (λ made h. absurd h) (λ x made low h. x) (turns_alone m)).1 s good (zero_le s.world.made, v),
    )

    -- there are turns enough for the operations that are left
    abbrev Enough : ℕ → ℕ → ℕ → Type 0
    Enough n m made = (budget + 1 ≤ n + made) × (budget + k + 1 ≤ m + made) × Came made

    enough_later : (n m : ℕ) → Lasts (Enough n m)
    enough_later n m a b low h = (omega (arith, low, h.0), omega (arith, low, h.1), came_later a b low h.2)

    turns_pair : (n m : ℕ) → Pair g budget k (Enough n m) Came FlowComes (turns n l before) (turns m l before)
    unfolding turns
    turns_pair zero m = (λ s good w. absurd (too_many g.most budget budget s good (le_itself budget) w.0), (turns_alone m).1)
    turns_pair (suc n) zero = (λ s good w. absurd (too_many g.most budget (budget + k) s good (omega arith) w.1), (turns_alone zero).1)
    turns_pair (suc n) (suc m) = (
      λ s good w.
          (from_test n m s.world.made (Enough n m) ((budget + 1 ≤ suc n + s.world.made) × (budget + k + 1 ≤ suc m + s.world.made))
          (enough_later n m) (λ made h. h.2)
          (λ few made low h. (fewer (budget + 1) n s.world.made made few.0 low, fewer (budget + k + 1) m s.world.made made few.1 low, h))
          (turns_pair n m)).0 s good (le_itself s.world.made, w.2, (w.0, w.1)),
      (turns_alone (suc m)).1,
    )

  all_turns_lawful : Lawful g Came FlowComes (all_turns l before)
  all_turns_lawful budget s good w =
      let steps : s.world.made + s.world.left ≡ budget = good.sound.steps in (
        ((turns_pair budget 0 (s.world.left + 1) (s.world.left + 1)).0 s good (omega (arith, steps), omega (arith, steps), w)).0,
        λ k. ((turns_pair budget k (s.world.left + 1) (s.world.left + k + 1)).0 s good (omega (arith, steps), omega (arith, steps), w)).1,
      )

  begins_lawful : (tested : Bool) → Brings g (of_source before) of_flow (begins l tested before)
  begins_lawful true = all_turns_lawful
  begins_lawful false =
      lawful_of g Came FlowComes (turn l before (all_turns l before) before)
      (λ budget k.
      let pair = turn_pair budget k Came Came came_later came_later (λ made h. h) (λ made h. h) (all_turns l before) (all_turns l before)
      (pair_of g budget k Came Came Came FlowComes (all_turns l before) (λ made h. h) (λ made h. h) all_turns_lawful) before in
      (λ s good w. pair.0 s good (w, w.0), λ s good v. pair.1 s good (v, v.0)))

-- A LOOP
pub loop_lawful : (g : Setting) (l : LoopParts) (number : ℕ) (tested : Bool) → LawfulLoop g l → Brings g [] of_flow (loop l number tested)
loop_lawful g l number tested lawful =
    binds g [] of_source of_flow control
    (λ before. inside_loop l number tested before >>= λ flow. settles (stays_behind_loop l.counted l.jumps) before >>= λ done. gives flow)
    (control_lawful g [])
    (λ before. binds g (of_source before) of_flow of_flow (inside_loop l number tested before) (λ flow. settles (stays_behind_loop l.counted l.jumps) before >>= λ done. gives flow)
    (region_lawful g (of_source before) of_flow number (begins l tested before) (begins_lawful g l lawful before tested))
    (λ flow. binds g (of_flow flow ++ of_source before) of_none of_flow (settles (stays_behind_loop l.counted l.jumps) before) (λ done. gives flow)
    (settles_lawful g (of_flow flow ++ of_source before) (stays_behind_loop l.counted l.jumps) before (λ made w. (behind_both made (of_flow flow) (of_source before) w).0))
    (λ done. gives_lawful g (of_flow flow ++ of_source before) of_flow flow (λ made w. before_both made (of_flow flow) (of_source before) w))))
