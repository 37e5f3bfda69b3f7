-- Believed with a public law.
-- THE FRAME: which variables of its function a part of a run may change.
use Rattle.std.specs.Prelude.{ℕ, nat_eq, Bool, false, ◌≡◌, List, [], ◌∷◌}
use Rattle.k_num.specs.declared.place.Place.{Place}
use Rattle.k_types_meaning.specs.declared.tree.expression.TExpr.{TExpr}
use Rattle.k_types_meaning.specs.declared.tree.statement.TStmt.{TStmt}
use Rattle.k_types_meaning.specs.declared.tree.unit.TFunc.{TFunc}
use Rattle.k_types_meaning.specs.declared.tree.unit.TVariable.{TVariable}
use Rattle.k_marks_meaning.specs.declared.uses.Use.{Use}
use Rattle.k_marks_meaning.specs.declared.uses.Use.TheVariants.{Names, Assigns, Declares, Reduces}
use Rattle.k_marks_meaning.specs.Uses.{uses_of}
use Rattle.k_marks_meaning.specs.Contents.{inside}
use Rattle.k_evaluation.specs.declared.operand.Operand.{Operand}
use Rattle.k_evaluation.specs.States.{Program, State, Goes, Part, held_in}
use Rattle.k_evaluation.specs.Expressions.{eval}
use Rattle.k_evaluation.specs.Statements.{does}
use Rattle.k_evaluation.specs.Calls.{within, calls}

-- what happens may change what this variable holds: an expression assigns it, a statement reduces it, or it is declared
abbrev pub changes : ℕ → Use → Bool
changes n (Names m) = false
changes n (Assigns m) = nat_eq m n
changes n (Declares m) = nat_eq m n
changes n (Reduces r) = nat_eq r.variable n

-- nothing of this may change it
abbrev pub IsSpared : ℕ → List Use → Type 0
IsSpared n [] = Unit {0}
IsSpared n (u ∷ us) = (changes n u ≡ false) × IsSpared n us

-- A PART LEAVES A VARIABLE: where it goes on, the variable holds what it held
abbrev pub Leaves : {A : Type 0} → ℕ → Part A → Type 0
Leaves {A = A} n part = (s t : State) (a : A) → part s ≡ Goes a t → held_in t n ≡ held_in s n

-- an expression leaves each variable of its function that its text does not change
abbrev pub ExpressionsLeave : Type 0
ExpressionsLeave =
    (program : Program) (vs : List TVariable) (depth : ℕ) (e : TExpr) (n : ℕ) → IsSpared n (uses_of e)
    → (used : Bool) → Leaves n ((eval program vs (calls depth program) e).value used)

-- so does a statement
abbrev pub StatementsLeave : Type 0
StatementsLeave =
    (program : Program) (depth number : ℕ) (f : TFunc) (s : TStmt) (n : ℕ) → IsSpared n (inside s).uses
    → Leaves n (does (within program (calls depth program) number f) s).does

-- a call leaves all variables of the function that calls
abbrev pub CallsLeave : Type 0
CallsLeave = (program : Program) (depth f : ℕ) (place : Place) (args : List Operand) (n : ℕ) → Leaves n (calls depth program f place args)
