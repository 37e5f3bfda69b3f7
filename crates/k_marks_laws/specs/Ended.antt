-- Believed with a public law.
-- INDUCTION: the tests of a counted loop, and how many turns one has that ended.
use Rattle.std.specs.Prelude.{ℕ, ◌<◌, Bool, true, false, not, ◌≡◌, ℤ, Option, Some, None, Result, Ok, Err}
use Rattle.k_num.specs.declared.numbers.Kind.{Kind}
use Rattle.k_num.specs.declared.numbers.NumTrap.{NumTrap}
use Rattle.k_num.specs.Arithmetic.{value, is_zero}
use Rattle.k_num.specs.Kind.{converted}
use Rattle.k_optab.specs.declared.event.Event.TheVariants as event
use Rattle.k_types_meaning.specs.declared.tree.expression.TExpr.{TExpr, out-TExpr}
use Rattle.k_types_meaning.specs.declared.tree.expression.TExpr.TheOpen.{TExpr-F}
use Rattle.k_types_meaning.specs.declared.tree.unit.TFunc.{TFunc}
use Rattle.k_marks_meaning.specs.declared.uses.Read.{Read}
use Rattle.k_marks_meaning.specs.Loops.{counter, bound_of, is_counted}
use Rattle.k_world.specs.declared.value.Held.{Held}
use Rattle.k_world.specs.declared.value.Value.TheVariants.{Number}
use Rattle.k_evaluation.specs.declared.flow.Flow.{Flow}
use Rattle.k_evaluation.specs.declared.flow.Flow.TheVariants.{Normal}
use Rattle.k_evaluation.specs.States.{Program, State, Goes, with_event}
use Rattle.k_evaluation.specs.Flows.{Within}
use Rattle.k_evaluation.specs.Meanings.{holds}
use Rattle.k_evaluation.specs.Loops.{starts, source_loop, loop_region}
use Rattle.k_evaluation.specs.Statements.{does}
use Rattle.k_evaluation.specs.Calls.{within, calls}
use Rattle.k_marks_laws.specs.Turns.{TLoop, marked, parts_of, tested_turn, IsBeforeTest, HoldsNumber}
use Rattle.k_marks_laws.specs.Counted.{step_of, IsOfKind, IsTypedLoop, HasValue, counted}

-- an operation gave a number other than 0
abbrev pub is_met : Result ℤ NumTrap → Bool
is_met (Ok z) = not (is_zero z)
is_met (Err trap) = false

-- a comparison of two numbers, in the kind in which it is made (C17 6.5.8p6, 6.5.9p3)
abbrev pub compared_at : TExpr-F TExpr → ℤ → ℤ → Bool
compared_at (TExpr-F.Binary node op kind left right) x y = is_met (value op kind (converted kind x) (converted kind y))
compared_at _ x y = false

-- THE TEST of a counted loop on two numbers
abbrev pub compared : Option TExpr → ℤ → ℤ → Bool
compared None x y = false
compared (Some e) x y = compared_at (out-TExpr e) x y

-- EACH TEST that a counted loop makes is one on what its variable holds and on its bound
abbrev pub TestsAreOnBoth : Type 0
TestsAreOnBoth =
    (program : Program) (depth number : ℕ) (f : TFunc) (l : TLoop) (i : Read) (kind : Kind)
    → is_counted f.variables (marked l) ≡ true
    → counter l.step ≡ Some i
    → IsTypedLoop kind l
    → (let w = within program (calls depth program) number f in
    (before : Option ℕ) (s t : State) (x : ℤ) (test : Held)
    → HoldsNumber s i.variable x
    → starts (parts_of w l) before (parts_of w l).test s ≡ Goes test t
    → (y : ℤ) × HasValue w (bound_of i.variable l.test) s (Number y) × (holds test ≡ compared l.test x y))

-- the least number of which this holds
pub record IsLeast (P : ℕ → Type 0) (k : ℕ) : Type 0 where
  pub is : P k
  pub below : (j : ℕ) → j < k → P j → ⊥

-- the state before the first test of a loop that begins in a state: its region was entered
abbrev pub at_loop : Within → TLoop → State → State
at_loop w l s = record s { world = with_event (event.Enter (loop_region w.function l.number)) s.world }

-- A COUNTED LOOP ENDED AFTER SO MANY TURNS: they lead from its first test to its last one, behind which it ends; and this is the least number
-- for which the test on variable and bound is false
pub record EndedAfter (w : Within) (l : TLoop) (i : Read) (kind : Kind) (x : ℤ) (s : State) (turns : ℕ) : Type 0 where
  pub last : State
  pub reached : IsBeforeTest (parts_of w l) s.world.control turns (at_loop w l s) last
  pub behind : State
  pub ended : tested_turn (parts_of w l) s.world.control last ≡ Goes Normal behind
  pub bound : ℤ
  pub has_bound : HasValue w (bound_of i.variable l.test) s (Number bound)
  pub least : IsLeast (λ k. compared l.test (counted kind (step_of l.step) x k) bound ≡ false) turns

-- so does each counted loop that ends, whose variable holds x before it
abbrev pub TurnsAreLeast : Type 0
TurnsAreLeast =
    (program : Program) (depth number : ℕ) (f : TFunc) (l : TLoop) (i : Read) (kind : Kind)
    → is_counted f.variables (marked l) ≡ true
    → counter l.step ≡ Some i
    → IsOfKind f.variables i.variable kind
    → IsTypedLoop kind l
    → (let w = within program (calls depth program) number f in
    (s t : State) (flow : Flow) (x : ℤ)
    → HoldsNumber s i.variable x
    → source_loop w l.spot l.number l.test l.step (does w l.body) true s ≡ Goes flow t
    → (flow ≡ Normal) × (turns : ℕ) × EndedAfter w l i kind x s turns)
