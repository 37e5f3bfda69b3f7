-- Believed with a public law.
-- VALUES ARE OF THEIR KINDS in every run of a source that typing accepts.
use Rattle.std.specs.Prelude.{ℕ, Bool, ◌≡◌, IsTrue, List, [], ◌∷◌, take, Option, Some, None, slice_get, ℤ, ◌+ℤ◌, ◌*ℤ◌, pos}
use Rattle.k_num.specs.declared.numbers.Kind.{Kind}
use Rattle.k_num.specs.declared.numbers.Kind.TheVariants.{I32}
use Rattle.k_num.specs.Kind.{converted, is_held}
use Rattle.k_tree.specs.declared.tree.unit.Unit as source
use Rattle.k_tree.specs.Literals.{NumbersOfUnitAreHeld, StringsOfUnitFit}
use Rattle.k_tree.specs.Ranked.{RankedUnit}
use Rattle.k_types_meaning.specs.declared.tree.expression.TExpr.{TExpr}
use Rattle.k_types_meaning.specs.declared.tree.statement.TStmt.{TStmt}
use Rattle.k_types_meaning.specs.declared.tree.unit.TFunc.{TFunc}
use Rattle.k_types_meaning.specs.declared.tree.unit.TVariable.{TVariable}
use Rattle.k_types_meaning.specs.Bare.{IsTyped}
use Rattle.k_types_meaning.specs.Units.{faults}
use Rattle.k_mem.specs.Memory.{Object}
use Rattle.k_world.specs.declared.value.Held.{Held}
use Rattle.k_world.specs.WorldLaws.{AreBytes}
use Rattle.k_evaluation.specs.Calls.{calls, entered, runs, within}
use Rattle.k_evaluation.specs.Statements.{does}
use Rattle.k_evaluation.specs.Expressions.{eval}
use Rattle.k_evaluation.specs.Runs.{initial, starts_objects, starts_strings, whole}
use Rattle.k_evaluation.specs.declared.flow.Flow.{Flow}
use Rattle.k_evaluation.specs.declared.operand.Operand.{Operand}
use Rattle.k_evaluation.specs.declared.flow.Flow.TheVariants.{Normal, Broke, Continued, Returned}
use Rattle.k_evaluation.specs.States.{Goes, Outcome, Program, State, Stops, ◌>>=◌, read}
use Rattle.k_marks_meaning.specs.declared.uses.Read.{Read}
use Rattle.k_marks_laws.specs.Closed.{IsCountedOf}
use Rattle.k_marks_laws.specs.Counted.{IsOfKind, step_of}
use Rattle.k_marks_laws.specs.Turns.{HoldsNumber, IsBeforeTest, TLoop, parts_of}
use Rattle.k_evaluation_laws.specs.Kinds.{Sort, ANumber, Grows, IsRight, IsValue, sort_of, start_kinds}
use Rattle.k_evaluation_laws.specs.Ranges.{CharactersOfUnitAreHeld, ObjectsAreInRange}
use Rattle.k_evaluation_laws.specs.Standing.{IsExpressionOf, StandsInFunction}

-- The program is a source that the grammar gives, without faults, whose strings are within the limit; and the kinds of its integer constants hold these,
-- and int its character constants
pub record IsProgramOf (unit : source.Unit) (program : Program) : Type 0 where
  pub typed : IsTyped unit program.unit
  pub faultless : faults unit ≡ []
  pub strings : StringsOfUnitFit unit
  pub ranked : RankedUnit unit
  pub numbers : NumbersOfUnitAreHeld unit
  pub characters : CharactersOfUnitAreHeld unit

-- its function of this number, in a state whose variables and objects hold what their types say. These are the kinds of all objects that were made so far:
-- those with which the program starts, and more
pub record IsRightIn (program : Program) (number : ℕ) (f : TFunc) (kinds : List Kind) (s : State) : Type 0 where
  pub function : slice_get program.unit.functions number ≡ Some f
  pub started : Grows (start_kinds program.unit) kinds
  pub right : IsRight kinds f.variables s

-- WHERE A PART OF A RUN GOES ON, variables and objects hold again what their types say, and so does what the part gives. More objects may have been made
abbrev pub GoesOnRight : {A : Type 0} → List Kind → List TVariable → (List Kind → A → Type 0) → Outcome A → Type 0
GoesOnRight kinds vs Gives (Goes a t) = (more : List Kind) × Grows kinds more × IsRight more vs t × Gives more a
GoesOnRight kinds vs Gives (Stops end w) = Unit {0}

-- what a call gave, if anything, is of the sort of its result
abbrev pub IsResult : Sort → List Kind → Option Held → Type 0
IsResult s kinds None = Unit {0}
IsResult s kinds (Some held) = IsValue kinds s held.value

-- so is what a statement returned, if it did
abbrev pub IsReturned : Sort → List Kind → Flow → Type 0
IsReturned s kinds Normal = Unit {0}
IsReturned s kinds Broke = Unit {0}
IsReturned s kinds Continued = Unit {0}
IsReturned s kinds (Returned v) = IsResult s kinds v

-- THE SAME OF AN OPERAND: what it holds where it is read then, if anything, is of this sort
abbrev pub GoesOnRightTo : List Kind → List TVariable → Sort → Outcome Operand → Type 0
GoesOnRightTo kinds vs s (Goes a t) = (more : List Kind) × Grows kinds more × IsRight more vs t × IsResult s more (read t a).slot
GoesOnRightTo kinds vs s (Stops end w) = Unit {0}

-- THE LAWS speak of the programs for which `Is` holds. A run starts so: its file objects and strings are made, and hold numbers of their kinds
abbrev pub RunsStartRight : (source.Unit → Program → Type 0) → Type 0
RunsStartRight Is =
    (unit : source.Unit) (program : Program) (input : List ℕ) (budget : ℕ)
    → Is unit program
    → AreBytes input
    → GoesOnRight [] [] (λ more started. more ≡ start_kinds program.unit) ((starts_objects program.unit.objects >>= λ objects. starts_strings program.unit.strings) (initial input budget))

-- each file object of a program begins with numbers of its kind: what a constant expression comes to is of its type (C17 6.6, 6.7.9)
abbrev pub ObjectsBeginRight : (source.Unit → Program → Type 0) → Type 0
ObjectsBeginRight Is = (unit : source.Unit) (program : Program) → Is unit program → ObjectsAreInRange program.unit

-- each argument is of the type of its parameter
abbrev pub AreArguments : List Kind → List TVariable → List (Option Held) → Type 0
AreArguments kinds [] args = Unit {0}
AreArguments kinds (v ∷ vs) [] = Unit {0}
AreArguments kinds (v ∷ vs) (a ∷ args) = IsResult (sort_of v.of) kinds a × AreArguments kinds vs args

-- a function that is entered with arguments of its parameters' types begins so, too
abbrev pub FunctionsBeginRight : Type 0
FunctionsBeginRight =
    (kinds : List Kind) (vs : List TVariable) (f : TFunc) (args : List (Option Held)) (s : State)
    → IsRight kinds vs s
    → AreArguments kinds (take f.params f.variables) args
    → IsRight kinds f.variables (entered f args s)

-- each statement of a function keeps values of their kinds
abbrev pub StatementsKeepKinds : (source.Unit → Program → Type 0) → Type 0
StatementsKeepKinds Is =
    (unit : source.Unit) (program : Program) (depth number : ℕ) (f : TFunc) (part : TStmt) (kinds : List Kind) (s : State)
    → Is unit program
    → StandsInFunction part f
    → IsRightIn program number f kinds s
    → GoesOnRight kinds f.variables (IsReturned (sort_of f.result)) ((does (within program (calls depth program) number f) part).does s)

-- so does each expression, whether its value is used or not; and it gives a value of its type
abbrev pub ExpressionsGiveTheirTypes : (source.Unit → Program → Type 0) → Type 0
ExpressionsGiveTheirTypes Is =
    (unit : source.Unit) (program : Program) (depth number : ℕ) (f : TFunc) (e : TExpr) (used : Bool) (kinds : List Kind) (s : State)
    → Is unit program
    → IsExpressionOf e f
    → IsRightIn program number f kinds s
    → (let it = eval program f.variables (calls depth program) e in GoesOnRightTo kinds f.variables (sort_of it.node.of) (it.value used s))

-- so does each function, where its parameters hold arguments of their types; and it gives a value of the type of its result
abbrev pub FunctionsKeepKinds : (source.Unit → Program → Type 0) → Type 0
FunctionsKeepKinds Is =
    (unit : source.Unit) (program : Program) (depth number : ℕ) (f : TFunc) (kinds : List Kind) (s : State)
    → Is unit program
    → IsRightIn program number f kinds s
    → GoesOnRight kinds f.variables (IsResult (sort_of f.result)) (runs program (calls depth program) number f s)

-- C17 5.1.2.2.3p1: what main returned is an int
abbrev pub MainGivesAnInt : (source.Unit → Program → Type 0) → Type 0
MainGivesAnInt Is =
    (unit : source.Unit) (program : Program) (input : List ℕ) (budget : ℕ) (held : Held) (t : State)
    → Is unit program
    → AreBytes input
    → whole program (initial input budget) ≡ Goes (Some held) t
    → IsValue [] (ANumber I32) held.value

-- a variable of a kind holds a number that the kind holds
abbrev pub VariablesAreHeld : Type 0
VariablesAreHeld =
    (kinds : List Kind) (vs : List TVariable) (s : State) (n : ℕ) (kind : Kind) (z : ℤ)
    → IsRight kinds vs s
    → IsOfKind vs n kind
    → HoldsNumber s n z
    → IsTrue (is_held kind z)

-- so does each element of an object of a kind that is live
abbrev pub ElementsAreHeld : Type 0
ElementsAreHeld =
    (kinds : List Kind) (vs : List TVariable) (s : State) (m n : ℕ) (o : Object) (kind : Kind) (z : ℤ)
    → IsRight kinds vs s
    → slice_get s.world.memory.live m ≡ Some o
    → slice_get kinds o.number ≡ Some kind
    → slice_get o.elements n ≡ Some (Some z)
    → IsTrue (is_held kind z)

-- INDUCTION, from the first test on: the variable of a counted loop is `x + k * step` as a number of its kind before the k-th test
abbrev pub VariableIsConverted : Type 0
VariableIsConverted =
    (unit : source.Unit) (program : Program) (depth number : ℕ) (f : TFunc) (l : TLoop) (i : Read) (kind : Kind)
    → IsCountedOf unit program number f l i kind
    → (let w = within program (calls depth program) number f in
    (before : Option ℕ) (k : ℕ) (kinds : List Kind) (s t : State) (x : ℤ)
    → IsRight kinds f.variables s
    → HoldsNumber s i.variable x
    → IsBeforeTest (parts_of w l) before k s t
    → HoldsNumber t i.variable (converted kind (x +ℤ (pos k *ℤ step_of l.step))))
