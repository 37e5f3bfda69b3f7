-- Believed with the theorem on the top call.
-- What a statement does, and how statements follow one another (C17 6.8).
use Rattle.std.specs.Prelude.{ℕ, false, List, [], ◌∷◌, true}
use Rattle.k_num.specs.declared.place.Place.{Place}
use Rattle.k_types_meaning.specs.declared.tree.expression.TExpr.{TExpr}
use Rattle.k_types_meaning.specs.declared.tree.unit.TVariable.{TVariable}
use Rattle.k_marks_meaning.specs.declared.jumps.Jumps.{Jumps}
use Rattle.k_marks_meaning.specs.Jumps.{no_jumps, jumps_of_both}
use Rattle.k_world.specs.declared.value.Held.{Held}
use Rattle.k_evaluation.specs.declared.flow.Flow.{Flow}
use Rattle.k_evaluation.specs.declared.flow.Flow.TheVariants.{Normal, Broke, Continued, Returned}
use Rattle.k_evaluation.specs.States.{Program, Part, ◌>>=◌, gives}
use Rattle.k_evaluation.specs.Meanings.{Meaning, tests}
use Rattle.k_evaluation.specs.Expressions.{Calls, eval}

-- What a statement does, and the jumps of its text that lead out of it.
pub record Doing : Type 0 where
  pub does : Part Flow
  pub jumps : Jumps

-- What lies around a statement: the program, the number and the variables of its function, and the calls.
pub record Within : Type 0 where
  pub program : Program
  pub function : ℕ
  pub vars : List TVariable
  pub calls : Calls

-- what an expression means here
abbrev pub means : Within → TExpr → Meaning
means w e = eval w.program w.vars w.calls e

-- an expression whose value is not used
abbrev pub drops : Within → TExpr → Part (Unit {0})
drops w e = (means w e).value false >>= λ a. gives tt

-- a condition, and its test at this place
abbrev pub tests_at : Within → Place → TExpr → Part Held
tests_at w place e = (means w e).value true >>= tests w.program place

-- the next statement follows a part
abbrev pub goes_on : Part (Unit {0}) → Part Flow
goes_on part = part >>= λ done. gives Normal

-- what stands behind a statement that ended so: a jump passes it over
abbrev pub unless_left : Part Flow → Flow → Part Flow
unless_left next Normal = next
unless_left next Broke = gives Broke
unless_left next Continued = gives Continued
unless_left next (Returned v) = gives (Returned v)

-- statements one behind the other
abbrev pub in_order : List Doing → Part Flow
in_order [] = gives Normal
in_order (s ∷ ss) = s.does >>= unless_left (in_order ss)

-- the jumps of several statements
abbrev pub jumps_of_all : List Doing → Jumps
jumps_of_all [] = no_jumps
jumps_of_all (s ∷ ss) = jumps_of_both s.jumps (jumps_of_all ss)
