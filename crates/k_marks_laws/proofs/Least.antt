-- INDUCTION: the number of turns of a counted loop that ended.
use Rattle.std.proofs.Common.{◌≡◌, ℕ, zero, ◌+◌, ◌<◌, ℤ, Option, Some, None, Bool, true, false, not, refl, sym, ◌∙◌, ap, subst}
use Rattle.k_num.specs.declared.numbers.Kind.{Kind}
use Rattle.k_optab.specs.declared.event.Event.TheVariants as event
use Rattle.k_types_meaning.specs.declared.tree.expression.TExpr.{TExpr}
use Rattle.k_types_meaning.specs.declared.tree.unit.TFunc.{TFunc}
use Rattle.k_world.specs.declared.value.Held.{Held}
use Rattle.k_world.specs.declared.value.Value.{Value}
use Rattle.k_world.specs.declared.value.Value.TheVariants.{Number, Pointer}
use Rattle.k_world.specs.Worlds.{World}
use Rattle.k_marks_meaning.specs.declared.uses.Read.{Read}
use Rattle.k_marks_meaning.specs.Contents.{inside}
use Rattle.k_marks_meaning.specs.Loops.{counter, bound_of, is_counted}
use Rattle.k_evaluation.specs.declared.flow.Flow.{Flow}
use Rattle.k_evaluation.specs.declared.flow.Flow.TheVariants.{Normal, Continued}
use Rattle.k_evaluation.specs.States.{Program, State, Outcome, Goes, Stops, follow, ◌>>=◌, gives, settles, exits, with_event}
use Rattle.k_evaluation.specs.Flows.{Within}
use Rattle.k_evaluation.specs.Meanings.{holds}
use Rattle.k_evaluation.specs.Loops.{LoopParts, starts, all_turns, loop, loop_region, stays_behind_loop}
use Rattle.k_evaluation.specs.Statements.{does}
use Rattle.k_evaluation.specs.Calls.{within, calls}
use Rattle.k_marks_laws.specs.Turns.{TLoop, marked, parts_of, tested_turn, IsBeforeTest, HoldsNumber}
use Rattle.k_marks_laws.specs.Counted.{step_of, IsOfKind, IsTypedLoop, HasValue, counted}
use Rattle.k_marks_laws.specs.Ended.{compared, at_loop, TurnsAreLeast}
use Rattle.k_marks_laws.proofs.Conditions.{Counts, counted_counts, both_true, not_true}
use Rattle.k_marks_laws.proofs.Flows.{MayJump, jumps_in, IsAllowed, Gives, region_gives, does_gives}
use Rattle.k_marks_laws.proofs.Tested.{at_goes}
use Rattle.k_marks_laws.proofs.Turning.{IsEnd, Ended, turns_end, passed, first_made, IsSo, WasTested, was_tested}
use Rattle.k_marks_laws.proofs.Induction.{variable_is_counted}
use Rattle.k_marks_laws.proofs.BoundLaw.{bound_is_same}
use Rattle.k_marks_laws.proofs.OnBoth.{tests_are_on_both}

-- A LOOP THAT ENDED: so did its turns
left_end : (stays : Bool) (before : Option ℕ) (f flow : Flow) (s t : State) → (settles stays before >>= λ done. gives f) s ≡ Goes flow t → f ≡ flow
left_end true before f flow s t is = ap or_else is
  where
    or_else : Outcome Flow → Flow
    or_else (Goes a u) = a
    or_else (Stops end w) = f
left_end false before f flow s t is = ap or_else is
  where
    or_else : Outcome Flow → Flow
    or_else (Goes a u) = a
    or_else (Stops end w) = f

loop_ends : (l : LoopParts) (number : ℕ) (s : State) (flow : Flow) (t : State) → loop l number true s ≡ Goes flow t
    → (u : State) × (all_turns l s.world.control (record s { world = with_event (event.Enter number) s.world }) ≡ Goes flow u)
loop_ends l number s flow t is = by (all_turns l s.world.control (record s { world = with_event (event.Enter number) s.world })) is
  where
    by : (o : Outcome Flow)
        → follow (follow o (λ a. exits >>= λ left. gives a)) (λ f. settles (stays_behind_loop l.counted l.jumps) s.world.control >>= λ done. gives f) ≡ Goes flow t
        → (u : State) × (o ≡ Goes flow u)
    by (Goes f u) h =
        (u, ap (λ (g : Flow). Goes g u) (left_end (stays_behind_loop l.counted l.jumps) s.world.control f flow (record u { world = with_event event.Exit u.world }) t h))
    by (Stops end w) h = absurd cc

-- a value in a state is one in that state with another world
in_world : (w : Within) (b : Option TExpr) (s : State) (world : World) (v : Value) → HasValue w b (record s { world = world }) v → HasValue w b s v
in_world w None s world v h = h
in_world w (Some e) s world v h = h

-- one number
same_number : (x y : ℤ) → Number x ≡ Number y → x ≡ y
same_number x y is = ap number_or is
  where
    number_or : Value → ℤ
    number_or (Number z) = z
    number_or (Pointer p) = x

module _ (program : Program) (depth number : ℕ) (f : TFunc) (l : TLoop) (i : Read) (kind : Kind) (is : is_counted f.variables (marked l) ≡ true) (step : counter l.step ≡ Some i)
    (of : IsOfKind f.variables i.variable kind) (typed : IsTypedLoop kind l) where
  abbrev w : Within
  w = within program (calls depth program) number f

  abbrev parts : LoopParts
  parts = parts_of w l

  abbrev jumps : MayJump
  jumps = jumps_in (inside l.body)

  counts : Counts f.variables (marked l) i
  counts = counted_counts f.variables (marked l) i is step

  through : (not jumps.breaks ≡ true) × (not jumps.returns ≡ true)
  through = both_true (not jumps.breaks) (not jumps.returns) counts.through

  allowed : Gives (IsAllowed jumps) parts.body
  allowed = region_gives (IsAllowed jumps) (does w l.body).does (does_gives w l.body) (loop_region w.function l.number + 1)

  -- each turn, by what its test found
  tested : (before : Option ℕ) (s : State) (flow : Flow) (t : State) → tested_turn parts before s ≡ Goes flow t → WasTested parts before s flow t
  tested before s flow t at_it =
      at_goes (WasTested parts before s) (tested_turn parts before s) flow t
      (was_tested parts before jumps allowed (not_true jumps.breaks through.0) (not_true jumps.returns through.1) s) at_it

  module _ (before : Option ℕ) (s : State) (x : ℤ) (there : HoldsNumber s i.variable x) where
    -- the test behind k turns
    abbrev Finds : ℕ → State → Held → Type 0
    Finds k v test = (y : ℤ) × HasValue w (bound_of i.variable l.test) v (Number y) × (holds test ≡ compared l.test (counted kind (step_of l.step) x k) y)

    finds : (k : ℕ) (v : State) → IsBeforeTest parts before k s v → (test : Held) (u : State) → starts parts before parts.test v ≡ Goes test u → Finds k v test
    finds k v turns test u made =
        tests_are_on_both program depth number f l i kind is step typed before v u (counted kind (step_of l.step) x k) test
        (variable_is_counted program depth number f l i kind is step of typed before k s v x there turns) made

    -- the bound, which is the same behind k turns
    module _ (y : ℤ) (value : HasValue w (bound_of i.variable l.test) s (Number y)) where
      found_on : (k : ℕ) (v : State) → IsBeforeTest parts before k s v → (test : Held) (u : State) → starts parts before parts.test v ≡ Goes test u
          → holds test ≡ compared l.test (counted kind (step_of l.step) x k) y
      found_on k v turns test u made =
          let found : Finds k v test = finds k v turns test u made in
          let same : y ≡ found.0 = same_number y found.0 (bound_is_same program depth number f l i kind is step typed before k s v (Number y) (Number found.0) turns value found.1) in
          found.2 ∙ ap (compared l.test (counted kind (step_of l.step) x k)) (sym same)

      -- a turn that went on was one for which the test is true
      so_true : (b : Bool) → IsSo b Continued → b ≡ true
      so_true true h = refl
      so_true false h = absurd cc

      so_false : (b : Bool) (flow : Flow) → IsEnd flow → IsSo b flow → (b ≡ false) × (flow ≡ Normal)
      so_false true flow end h = absurd (subst IsEnd h end)
      so_false false flow end h = (refl, h)

      passed_true : (k : ℕ) (last : State) → IsBeforeTest parts before k s last → (j : ℕ) → j < k → compared l.test (counted kind (step_of l.step) x j) y ≡ true
      passed_true k last turns j low =
          let at_it = passed parts before k s last turns j low in
          let turn : WasTested parts before at_it.0 Continued at_it.1 = tested before at_it.0 Continued at_it.1 at_it.3 in
          sym (found_on j at_it.0 at_it.2 turn.0 turn.1 turn.2) ∙ so_true (holds turn.0) turn.3

      last_false : (e_flow : Flow) (t : State) (k : ℕ) (last : State) → IsBeforeTest parts before k s last → tested_turn parts before last ≡ Goes e_flow t → IsEnd e_flow
          → (compared l.test (counted kind (step_of l.step) x k) y ≡ false) × (e_flow ≡ Normal)
      last_false flow t k last turns ended end =
          let turn : WasTested parts before last flow t = tested before last flow t ended in
          let so = so_false (holds turn.0) flow end turn.3 in
          (sym (found_on k last turns turn.0 turn.1 turn.2) ∙ so.0, so.1)

pub turns_are_least : TurnsAreLeast
turns_are_least program depth number f l i kind is step of typed s t flow x there ended =
    let w : Within = within program (calls depth program) number f in
    let before : Option ℕ = s.world.control in
    let begun : State = at_loop w l s in
    let inner = loop_ends (parts_of w l) (loop_region w.function l.number) s flow t ended in
    let e : Ended (parts_of w l) before begun flow inner.0 = turns_end (parts_of w l) before (begun.world.left + 1) begun flow inner.0 inner.1 in
    let made = first_made (parts_of w l) before e.count begun e.last flow inner.0 e.reached e.ended in
    let turn = tested program depth number f l i kind is step of typed before begun made.0 made.1 made.2 in
    let found = finds program depth number f l i kind is step of typed before begun x there zero begun refl turn.0 turn.1 turn.2 in
    let last = last_false program depth number f l i kind is step of typed before begun x there found.0 found.1 flow inner.0 e.count e.last e.reached e.ended e.is_end in (
      last.1,
      e.count,
      record {
        last = e.last;
        reached = e.reached;
        behind = inner.0;
        ended = e.ended ∙ ap (λ (g : Flow). Goes g inner.0) last.1;
        bound = found.0;
        has_bound = in_world w (bound_of i.variable l.test) s begun.world (Number found.0) found.1;
        least = record {
          is = last.0;
          below = λ j low is_false. differ (sym (passed_true program depth number f l i kind is step of typed before begun x there found.0 found.1 e.count e.last e.reached j low) ∙ is_false);
        };
      },
    )
  where
    differ : true ≡ false → ⊥
    differ h = cc
