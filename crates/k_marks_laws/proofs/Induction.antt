-- INDUCTION, by the conditions of a counted loop, the frame and its step.
use Rattle.std.proofs.Common.{◌≡◌, ℕ, ◌+◌, ℤ, Option, Some, None, true, false}
use Rattle.k_num.specs.declared.numbers.Bin.TheVariants.{Add}
use Rattle.k_num.specs.declared.numbers.Kind.{Kind}
use Rattle.k_num.specs.Combining.{combined}
use Rattle.k_types_meaning.specs.declared.tree.expression.TExpr.{TExpr}
use Rattle.k_marks_meaning.specs.declared.uses.Read.{Read}
use Rattle.k_marks_meaning.specs.Uses.{option_uses}
use Rattle.k_marks_meaning.specs.Contents.{inside}
use Rattle.k_marks_meaning.specs.Loops.{counter}
use Rattle.k_evaluation.specs.declared.operand.Operand.{Operand}
use Rattle.k_evaluation.specs.States.{State, Outcome, Goes, Stops, follow, gives}
use Rattle.k_evaluation.specs.Flows.{Within, means}
use Rattle.k_evaluation.specs.Places.{is_register}
use Rattle.k_evaluation.specs.Loops.{loop_region, step_or_none}
use Rattle.k_evaluation.specs.Statements.{does}
use Rattle.k_evaluation.specs.Calls.{within, calls}
use Rattle.k_marks_laws.specs.Frames.{IsSpared}
use Rattle.k_marks_laws.specs.Turns.{TLoop, marked, parts_of, HoldsNumber}
use Rattle.k_marks_laws.specs.Counted.{step_of, IsTypedStep, IsNotDeclared, VariableIsCounted}
use Rattle.k_marks_laws.proofs.Parts.{Keeps, Any, region_kept}
use Rattle.k_marks_laws.proofs.Rows.{CallsKeep}
use Rattle.k_marks_laws.proofs.Executed.{test_keeps}
use Rattle.k_marks_laws.proofs.Bodies.{calls_keep, does_keeps}
use Rattle.k_marks_laws.proofs.Steps.{Reaches}
use Rattle.k_marks_laws.proofs.Stepped.{step_adds}
use Rattle.k_marks_laws.proofs.Counting.{counted_from}
use Rattle.k_marks_laws.proofs.Conditions.{Counts, counted_counts, register_of, spared_of, undeclared_option, test_named}

-- the value of the step is not used
dropped_reaches : (n : ℕ) (z : ℤ) (o : Outcome Operand) → Reaches n z o → Reaches n z (follow o (λ a. gives {A = Unit {0}} tt))
dropped_reaches n z (Goes a t) h = h
dropped_reaches n z (Stops end w) h = tt

module _ (w : Within) (i : Read) (kind : Kind) where
  -- the step of the loop
  step_reaches : (step : Option TExpr) → is_register w.vars i.variable ≡ true → counter step ≡ Some i → IsTypedStep kind step
      → (x : ℤ) (s : State) → HoldsNumber s i.variable x → Reaches i.variable (combined Add kind x (step_of step)) (step_or_none w step s)
  step_reaches None register is typed x s there = absurd cc
  step_reaches (Some e) register is typed x s there =
      dropped_reaches i.variable (combined Add kind x (step_of (Some e))) ((means w e).value false s)
      (step_adds w.program w.vars w.calls i kind register s x there e is typed)

-- what the frame says of the loop
module _ (n : ℕ) (w : Within) (calls_keep : CallsKeep n w.calls) (l : TLoop) where
  test_spared : IsSpared n (option_uses l.test) → Keeps n Any (parts_of w l).test
  test_spared h = test_keeps n w calls_keep l.spot.place l.test h

  body_spared : IsSpared n (inside l.body).uses → Keeps n Any (parts_of w l).body
  body_spared h = region_kept n (loop_region w.function l.number + 1) (does w l.body).does (does_keeps n w calls_keep l.body h)

pub variable_is_counted : VariableIsCounted
variable_is_counted program depth number f l i kind is step of typed before k s t x there turns =
    let w : Within = within program (calls depth program) number f in
    let n : ℕ = i.variable in
    let c : Counts f.variables (marked l) i = counted_counts f.variables (marked l) i is step in
    let undeclared_body : IsNotDeclared n (inside l.body).uses =
    test_named (λ m. IsNotDeclared m (inside l.body).uses) f.variables (marked l) n l.test c.bound typed.scopes in
    counted_from n kind (step_of l.step) (parts_of w l) before
    (test_spared n w (calls_keep n program depth) l (spared_of n (option_uses l.test) c.test (undeclared_option n l.test)))
    (body_spared n w (calls_keep n program depth) l (spared_of n (inside l.body).uses c.body undeclared_body))
    (step_reaches w i kind l.step (register_of f.variables n c.register) step typed.step)
    k s t x there turns
