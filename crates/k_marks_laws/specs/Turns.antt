-- Believed with a public law.
-- The loops of a function, and the state before each test of one.
use Rattle.std.specs.Prelude.{ℕ, zero, suc, ◌≡◌, ℤ, Option, Some}
use Rattle.k_types_meaning.specs.declared.tree.expression.TExpr.{TExpr}
use Rattle.k_types_meaning.specs.declared.tree.statement.Spot.{Spot}
use Rattle.k_types_meaning.specs.declared.tree.statement.TFirst.{TFirst}
use Rattle.k_types_meaning.specs.declared.tree.statement.TStmt.{TStmt}
use Rattle.k_marks_meaning.specs.Contents.{inside}
use Rattle.k_marks_meaning.specs.Loops.{Loop}
use Rattle.k_world.specs.declared.value.Value.TheVariants.{Number}
use Rattle.k_world.specs.Operands.{value_in}
use Rattle.k_evaluation.specs.declared.flow.Flow.{Flow}
use Rattle.k_evaluation.specs.declared.flow.Flow.TheVariants.{Continued}
use Rattle.k_evaluation.specs.States.{State, Goes, Part, ◌>>=◌, gives, held_in}
use Rattle.k_evaluation.specs.Flows.{Within}
use Rattle.k_evaluation.specs.Loops.{LoopParts, starts, turn_if, loop_parts}
use Rattle.k_evaluation.specs.Statements.{does}

-- A LOOP, by its number: `for (start test; step) body`. A `while` and a `do` have a test and a body, and neither start nor step
pub record TLoop : Type 0 where
  pub spot : Spot
  pub number : ℕ
  pub start : TFirst
  pub test : Option TExpr
  pub step : Option TExpr
  pub body : TStmt

-- the loop as the conditions of *Marks* see it
abbrev pub marked : TLoop → Loop
marked l = record {
  start = l.start;
  test = l.test;
  step = l.step;
  body_uses = (inside l.body).uses;
  body_jumps = (inside l.body).jumps;
}

-- the parts of which *Evaluation* makes it
abbrev pub parts_of : Within → TLoop → LoopParts
parts_of w l = loop_parts w l.spot.place l.number l.test l.step (does w l.body)

-- A TURN FROM ITS TEST ON: it gives `Continued` where the next test comes, and else how the loop ends
abbrev pub tested_turn : LoopParts → Option ℕ → Part Flow
tested_turn l before = starts l before l.test >>= turn_if l before (gives Continued)

-- THE STATE BEFORE THE K-TH TEST, from 0, of a loop whose first test comes in this state: k turns lead to it
abbrev pub IsBeforeTest : LoopParts → Option ℕ → ℕ → State → State → Type 0
IsBeforeTest l before zero s t = t ≡ s
IsBeforeTest l before (suc k) s t = (u : State) × (tested_turn l before s ≡ Goes Continued u) × IsBeforeTest l before k u t

-- a variable holds this number
abbrev pub HoldsNumber : State → ℕ → ℤ → Type 0
HoldsNumber s n z = value_in (held_in s n) ≡ Some (Number z)
