-- INDUCTION: the variable of a counted loop before each test.
use Rattle.std.proofs.Common.{◌≡◌, ℕ, zero, suc, ℤ, pos, ◌+ℤ◌, ◌*ℤ◌, Option, Bool, true, false, not, if◌then◌else◌, refl, sym, ◌∙◌, ap, subst, arith}
use Rattle.std.specs.Prelude.{◌^◌}
use borrow.Author.Differences.{same_in, sum_is_lem, product_is}
use Rattle.k_num.specs.declared.numbers.Bin.TheVariants.{Add}
use Rattle.k_num.specs.declared.numbers.Kind.{Kind}
use Rattle.k_num.specs.Combining.{combined}
use Rattle.k_num.specs.Kind.{width, converted}
use Rattle.k_num.proofs.Combining.{combined_alike}
use Rattle.k_num.proofs.KindLaws.{same_self, same_converted, converted_held}
use Rattle.k_world.specs.declared.value.Held.{Held}
use Rattle.k_world.specs.Operands.{value_in}
use Rattle.k_evaluation.specs.declared.flow.Flow.{Flow}
use Rattle.k_evaluation.specs.declared.flow.Flow.TheVariants.{Normal, Broke, Continued, Returned}
use Rattle.k_evaluation.specs.States.{State, Outcome, Goes, Stops, Part, follow, ◌>>=◌, gives, settles}
use Rattle.k_evaluation.specs.Meanings.{holds}
use Rattle.k_evaluation.specs.Loops.{LoopParts, turn_of, resets, starts, stays_behind_body, step_or_end, behind_body, turn, turn_if}
use Rattle.k_marks_laws.specs.Turns.{HoldsNumber, tested_turn, IsBeforeTest}
use Rattle.k_marks_laws.specs.Counted.{counted, CountedIsConverted}
use Rattle.k_marks_laws.proofs.Parts.{Kept, Keeps, Any, thus, settles_kept}
use Rattle.k_marks_laws.proofs.Steps.{Reaches}

-- WHERE ANOTHER TEST COMES, the variable holds this number
abbrev pub Comes : ℕ → ℤ → Outcome Flow → Type 0
Comes n z (Goes Normal t) = Unit {0}
Comes n z (Goes Broke t) = Unit {0}
Comes n z (Goes Continued t) = HoldsNumber t n z
Comes n z (Goes (Returned v) t) = Unit {0}
Comes n z (Stops end w) = Unit {0}

-- behind a part that keeps the variable
module _ (n : ℕ) (x z : ℤ) where
  kept_comes : {A : Type 0} (s : State) (o : Outcome A) (next : A → Part Flow) → Kept n Any s o → HoldsNumber s n x
      → ((a : A) (t : State) → HoldsNumber t n x → Comes n z (next a t)) → Comes n z (follow o next)
  kept_comes s (Goes a t) next kept there from = from a t (ap (λ (slot : Option Held). value_in slot) kept.0 ∙ there)
  kept_comes s (Stops end w) next kept there from = tt

  reached_comes : (o : Outcome (Unit {0})) → Reaches n z o → Comes n z (follow o (λ done. gives Continued))
  reached_comes (Goes a t) h = h
  reached_comes (Stops end w) h = tt

  module _ (l : LoopParts) (before : Option ℕ) (test_keeps : Keeps n Any l.test) (body_keeps : Keeps n Any l.body)
      (step_reaches : (s : State) → HoldsNumber s n x → Reaches n z (l.step s)) where
    starts_keep : {A : Type 0} (part : Part A) → Keeps n Any part → Keeps n Any (starts l before part)
    starts_keep part kept = thus n (resets l.counted before) (λ ready. part) (settles_kept n (not l.counted) before) (λ ready. kept)

    -- the step, whatever the control source before it
    settled_step : (stays : Bool) (s : State) → HoldsNumber s n x → Reaches n z ((settles stays before >>= λ ready. l.step) s)
    settled_step true s there = step_reaches s there
    settled_step false s there = step_reaches (record s { world = record s.world { control = before } }) there

    ended : (flow : Flow) (s : State) → HoldsNumber s n x → Comes n z (step_or_end l before (gives Continued) (turn_of flow) s)
    ended Normal s there = reached_comes (starts l before l.step s) (settled_step (not l.counted) s there)
    ended Broke s there = tt
    ended Continued s there = reached_comes (starts l before l.step s) (settled_step (not l.counted) s there)
    ended (Returned v) s there = tt

    turn_comes : (last : Option ℕ) (s : State) → HoldsNumber s n x → Comes n z (turn l before (gives Continued) last s)
    turn_comes last s there =
        kept_comes s (starts l before l.body s) (behind_body l before (gives Continued) last) (starts_keep l.body body_keeps s) there
        (λ flow t holds_there. kept_comes t (settles (stays_behind_body l.jumps) last t) (λ done. step_or_end l before (gives Continued) (turn_of flow))
        (settles_kept n (stays_behind_body l.jumps) last t) holds_there (λ done. ended flow))

    turn_if_comes : (test : Held) (s : State) → HoldsNumber s n x → Comes n z (turn_if l before (gives Continued) test s)
    turn_if_comes test s there = by (holds test)
      where
        by : (b : Bool) → Comes n z ((if b then turn l before (gives Continued) test.source else gives Normal) s)
        by true = turn_comes test.source s there
        by false = tt

    -- A TURN
    pub tested_turn_comes : (s : State) → HoldsNumber s n x → Comes n z (tested_turn l before s)
    tested_turn_comes s there =
        kept_comes s (starts l before l.test s) (turn_if l before (gives Continued)) (starts_keep l.test test_keeps s) there turn_if_comes

-- `first + k * step`, once more
next_number : (first step : ℤ) (k : ℕ) → (first +ℤ step) +ℤ (pos k *ℤ step) ≡ first +ℤ (pos (suc k) *ℤ step)
next_number first step k = omega (arith, same_in, sum_is_lem, product_is)

zero_turns : (first step : ℤ) → first ≡ first +ℤ (pos 0 *ℤ step)
zero_turns first step = omega (arith, same_in, sum_is_lem, product_is)

step_alike : (kind : Kind) (first step : ℤ) → combined Add kind (converted kind first) step ≡ converted kind (first +ℤ step)
step_alike kind first step = combined_alike Add kind (converted kind first) first step step refl (same_converted kind first) (same_self (2 ^ width kind) step)

-- ALL TURNS
module _ (n : ℕ) (kind : Kind) (step : ℤ) (l : LoopParts) (before : Option ℕ) (test_keeps : Keeps n Any l.test) (body_keeps : Keeps n Any l.body)
    (step_adds : (x : ℤ) (s : State) → HoldsNumber s n x → Reaches n (combined Add kind x step) (l.step s)) where
  counted_on : (k : ℕ) (s t : State) (first : ℤ) → HoldsNumber s n (converted kind first) → IsBeforeTest l before k s t
      → HoldsNumber t n (converted kind (first +ℤ (pos k *ℤ step)))
  counted_on zero s t first there is =
      subst (λ (u : State). HoldsNumber u n (converted kind (first +ℤ (pos 0 *ℤ step)))) (sym is)
      (subst (λ (z : ℤ). HoldsNumber s n (converted kind z)) (zero_turns first step) there)
  counted_on (suc k) s t first there is =
      let u : State = is.0 in
      let once : Comes n (combined Add kind (converted kind first) step) (tested_turn l before s) =
      tested_turn_comes n (converted kind first) (combined Add kind (converted kind first) step) l before test_keeps body_keeps (step_adds (converted kind first)) s there in
      let here : HoldsNumber u n (combined Add kind (converted kind first) step) =
      subst (Comes n (combined Add kind (converted kind first) step)) is.1 once in
      subst (λ (z : ℤ). HoldsNumber t n (converted kind z)) (next_number first step k)
      (counted_on k u t (first +ℤ step) (subst (HoldsNumber u n) (step_alike kind first step) here) is.2)

  -- from any number that the variable holds before the first test
  pub counted_from : (k : ℕ) (s t : State) (x : ℤ) → HoldsNumber s n x → IsBeforeTest l before k s t → HoldsNumber t n (counted kind step x k)
  counted_from zero s t x there is = subst (λ (u : State). HoldsNumber u n x) (sym is) there
  counted_from (suc k) s t x there is =
      let once : Comes n (combined Add kind x step) (tested_turn l before s) =
      tested_turn_comes n x (combined Add kind x step) l before test_keeps body_keeps (step_adds x) s there in
      let here : HoldsNumber is.0 n (converted kind (x +ℤ step)) = subst (Comes n (combined Add kind x step)) is.1 once in
      subst (λ (z : ℤ). HoldsNumber t n (converted kind z)) (next_number x step k) (counted_on k is.0 t (x +ℤ step) here is.2)

pub counted_is_converted : CountedIsConverted
counted_is_converted kind step x zero held =
    sym (converted_held kind x held) ∙ ap (converted kind) (zero_turns x step)
counted_is_converted kind step x (suc k) held = refl
