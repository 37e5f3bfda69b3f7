-- Believed with a public law.
-- How the parts of a run end: expressions keep the control source, and statements end as the jumps of their text let them.
use Rattle.std.specs.Prelude.{ℕ, ◌≡◌, Bool, true, false, List}
use Rattle.k_types_meaning.specs.declared.tree.expression.TExpr.{TExpr}
use Rattle.k_types_meaning.specs.declared.tree.statement.TStmt.{TStmt}
use Rattle.k_types_meaning.specs.declared.tree.unit.TVariable.{TVariable}
use Rattle.k_marks_meaning.specs.declared.jumps.Jumps.{Jumps}
use Rattle.k_marks_meaning.specs.Jumps.{is_left}
use Rattle.k_mem.specs.Memory.{IsLaidOut}
use Rattle.k_world.specs.Worlds.{World, HasOrigins}
use Rattle.k_evaluation.specs.declared.flow.Flow.{Flow}
use Rattle.k_evaluation.specs.declared.flow.Flow.TheVariants.{Normal, Broke, Continued, Returned}
use Rattle.k_evaluation.specs.declared.operand.Operand.{Operand}
use Rattle.k_evaluation.specs.Calls.{calls}
use Rattle.k_evaluation.specs.Expressions.{eval}
use Rattle.k_evaluation.specs.Flows.{Within}
use Rattle.k_evaluation.specs.States.{Program, State, Goes}
use Rattle.k_evaluation.specs.Statements.{does}

-- a world whose objects are laid out, in which each live element has an origin and so many calls are live, as in each world of a run
pub record IsTidy (live : ℕ) (w : World) : Type 0 where
  pub laid : IsLaidOut w.memory
  pub origins : HasOrigins w
  pub calls : w.calls ≡ live

-- a text with these jumps may end so: by a jump only where it holds one
abbrev pub Allows : Jumps → Flow → Type 0
Allows j Normal = Unit {0}
Allows j Broke = j.breaks ≡ true
Allows j Continued = j.continues ≡ true
Allows j (Returned v) = j.returns ≡ true

-- where an expression has a value, the control source is as before it
abbrev pub ExpressionsKeepControl : Type 0
ExpressionsKeepControl =
    (program : Program) (vs : List TVariable) (deep live : ℕ) (e : TExpr) (used : Bool) (s t : State) (a : Operand)
    → IsTidy live s.world
    → (eval program vs (calls deep program) e).value used s ≡ Goes a t
    → t.world.control ≡ s.world.control

-- a statement ends by a jump only where its text holds one, and behind one whose text holds no jump that leaves it the control source is as
-- before it
abbrev pub StatementsEndAsTheirText : Type 0
StatementsEndAsTheirText =
    (w : Within) (deep live : ℕ) (st : TStmt) (s t : State) (flow : Flow)
    → w.calls ≡ calls deep w.program
    → IsTidy live s.world
    → (does w st).does s ≡ Goes flow t
    → Allows (does w st).jumps flow × (is_left (does w st).jumps ≡ false → t.world.control ≡ s.world.control)
