-- Believed with a public law.
-- INDUCTION: what the variable of a counted loop holds, and its bound.
use Rattle.std.specs.Prelude.{ℕ, zero, suc, nat_eq, true, false, IsTrue, ◌≤◌, ◌≡◌, ℤ, pos, neg_ℤ, ◌+ℤ◌, ◌*ℤ◌, List, [], ◌∷◌, Option, Some, None}
use Rattle.k_num.specs.declared.numbers.Bin.{Bin}
use Rattle.k_num.specs.declared.numbers.Bin.TheVariants.{Sub}
use Rattle.k_num.specs.declared.numbers.Kind.{Kind}
use Rattle.k_num.specs.Kind.{width, is_held, converted}
use Rattle.k_types_meaning.specs.declared.types.TType.TheVariants as ttype
use Rattle.k_types_meaning.specs.declared.tree.expression.Change.{Change}
use Rattle.k_types_meaning.specs.declared.tree.expression.Change.TheVariants as change
use Rattle.k_types_meaning.specs.declared.tree.expression.Node.{Node}
use Rattle.k_types_meaning.specs.declared.tree.expression.TExpr.{TExpr, out-TExpr}
use Rattle.k_types_meaning.specs.declared.tree.expression.TExpr.TheOpen.{TExpr-F}
use Rattle.k_types_meaning.specs.declared.tree.unit.TFunc.{TFunc}
use Rattle.k_types_meaning.specs.declared.tree.unit.TVariable.{TVariable}
use Rattle.k_marks_meaning.specs.declared.uses.Read.{Read}
use Rattle.k_marks_meaning.specs.declared.uses.Use.{Use}
use Rattle.k_marks_meaning.specs.declared.uses.Use.TheVariants.{Names, Assigns, Declares, Reduces}
use Rattle.k_marks_meaning.specs.Uses.{option_uses}
use Rattle.k_marks_meaning.specs.Loops.{counter, bound_of, is_counted}
use Rattle.k_marks_meaning.specs.Contents.{inside}
use Rattle.k_world.specs.declared.value.Value.{Value}
use Rattle.k_world.specs.Operands.{value_in}
use Rattle.k_world.specs.Worlds.{World}
use Rattle.k_evaluation.specs.declared.operand.Operand.{Operand}
use Rattle.k_evaluation.specs.States.{Program, State, Goes, read}
use Rattle.k_evaluation.specs.Flows.{Within, means}
use Rattle.k_evaluation.specs.Calls.{within, calls}
use Rattle.std.specs.Prelude.{slice_get}
use Rattle.k_marks_laws.specs.Turns.{TLoop, marked, parts_of, IsBeforeTest, HoldsNumber}

-- the kind of a variable that is a number
abbrev pub IsOfKind : List TVariable → ℕ → Kind → Type 0
IsOfKind vs n kind = (v : TVariable) × (slice_get vs n ≡ Some v) × (v.of ≡ ttype.Number kind)

-- what an operator adds with a number: `-` the negated one
abbrev pub signed : Bin → ℤ → ℤ
signed Sub z = neg_ℤ z
signed op z = z

-- what a change adds with a number
abbrev pub added_by : Change → ℤ → ℤ
added_by (change.Number op kind) z = signed op z
added_by change.Forward z = z
added_by change.Back z = z

-- the value of a number
abbrev pub number_step : TExpr-F TExpr → ℤ
number_step (TExpr-F.Number node value) = value
number_step _ = pos 0

-- THE STEP of a counted loop as a number: 1 or -1, or the number that `+=` adds or `-=` takes away
abbrev pub step_at : TExpr-F TExpr → ℤ
step_at (TExpr-F.Post node by e) = added_by by (pos 1)
step_at (TExpr-F.Pre node by e) = added_by by (pos 1)
step_at (TExpr-F.AssignBy node by left right) = added_by by (number_step (out-TExpr right))
step_at _ = pos 0

-- the same of a step that may be left out
abbrev pub step_of : Option TExpr → ℤ
step_of None = pos 0
step_of (Some e) = step_at (out-TExpr e)

-- TYPING: a change of a number of a kind is made in a kind that is no narrower, and gives one of its kind
abbrev pub IsTypedChange : Kind → Node → Change → Type 0
IsTypedChange kind node (change.Number op wide) = (node.of ≡ ttype.Number kind) × (width kind ≤ width wide)
IsTypedChange kind node change.Forward = Unit {0}
IsTypedChange kind node change.Back = Unit {0}

-- TYPING: a step that changes a number of a kind
abbrev pub IsTypedStepAt : Kind → TExpr-F TExpr → Type 0
IsTypedStepAt kind (TExpr-F.Post node by e) = IsTypedChange kind node by
IsTypedStepAt kind (TExpr-F.Pre node by e) = IsTypedChange kind node by
IsTypedStepAt kind (TExpr-F.AssignBy node by left right) = IsTypedChange kind node by
IsTypedStepAt kind _ = Unit {0}

-- the same of a step that may be left out
abbrev pub IsTypedStep : Kind → Option TExpr → Type 0
IsTypedStep kind None = Unit {0}
IsTypedStep kind (Some e) = IsTypedStepAt kind (out-TExpr e)

-- TYPING: an operand is converted to the kind of its operation, where it is converted
abbrev pub IsTypedSide : Kind → TExpr-F TExpr → Type 0
IsTypedSide wide (TExpr-F.Convert node e) = node.of ≡ ttype.Number wide
IsTypedSide wide _ = Unit {0}

-- TYPING: the left side of a test
abbrev pub IsTypedTestAt : TExpr-F TExpr → Type 0
IsTypedTestAt (TExpr-F.Binary node op kind left right) = IsTypedSide kind (out-TExpr left)
IsTypedTestAt _ = Unit {0}

-- the same of a test that may be left out
abbrev pub IsTypedTest : Option TExpr → Type 0
IsTypedTest None = Unit {0}
IsTypedTest (Some e) = IsTypedTestAt (out-TExpr e)

-- SCOPES: none of this declares the variable
abbrev pub IsNotDeclared : ℕ → List Use → Type 0
IsNotDeclared n [] = Unit {0}
IsNotDeclared n (Names m ∷ us) = IsNotDeclared n us
IsNotDeclared n (Assigns m ∷ us) = IsNotDeclared n us
IsNotDeclared n (Declares m ∷ us) = (nat_eq m n ≡ false) × IsNotDeclared n us
IsNotDeclared n (Reduces r ∷ us) = IsNotDeclared n us

-- each variable that is named here is like this
abbrev pub EachNamed : (ℕ → Type 0) → List Use → Type 0
EachNamed P [] = Unit {0}
EachNamed P (Names m ∷ us) = P m × EachNamed P us
EachNamed P (Assigns m ∷ us) = EachNamed P us
EachNamed P (Declares m ∷ us) = EachNamed P us
EachNamed P (Reduces r ∷ us) = EachNamed P us

-- what typing says of a loop with a variable of this kind: of its step and of its test; and the body declares no variable that the test names, since these
-- are declared outside of it (C17 6.2.1p4), and each declarator has a number of its own. It is a premise, which `k_marks_laws` shows of each source that has a typed tree
pub record IsTypedLoop (kind : Kind) (l : TLoop) : Type 0 where
  pub step : IsTypedStep kind l.step
  pub test : IsTypedTest l.test
  pub scopes : EachNamed (λ n. IsNotDeclared n (inside l.body).uses) (option_uses l.test)

-- AN EXPRESSION HAS A VALUE in a state: its evaluation gives this where it goes on. It may have any world beside the variables of the state: a
-- bound looks at variables alone, and only where the budget is used up does its evaluation not go on
abbrev pub HasValue : Within → Option TExpr → State → Value → Type 0
HasValue w None s v = ⊥
HasValue w (Some e) s v = (world : World) × (a : Operand) × (t : State) × ((means w e).value true (record s { world = world }) ≡ Goes a t) × (value_in (read t a).slot ≡ Some v)

-- What the variable of a counted loop holds before the k-th test, where it holds x before the 0-th: `x + k * step` as a number of its kind,
-- once a step has changed it
abbrev pub counted : Kind → ℤ → ℤ → ℕ → ℤ
counted kind step x zero = x
counted kind step x (suc k) = converted kind (x +ℤ (pos (suc k) *ℤ step))

-- so it is `x + k * step` as a number of its kind before each test, where x is a number of its kind
abbrev pub CountedIsConverted : Type 0
CountedIsConverted = (kind : Kind) (step x : ℤ) (k : ℕ) → IsTrue (is_held kind x) → counted kind step x k ≡ converted kind (x +ℤ (pos k *ℤ step))

-- INDUCTION: the variable of a counted loop holds that before the k-th test
abbrev pub VariableIsCounted : Type 0
VariableIsCounted =
    (program : Program) (depth number : ℕ) (f : TFunc) (l : TLoop) (i : Read) (kind : Kind)
    → is_counted f.variables (marked l) ≡ true
    → counter l.step ≡ Some i
    → IsOfKind f.variables i.variable kind
    → IsTypedLoop kind l
    → (let w = within program (calls depth program) number f in
    (before : Option ℕ) (k : ℕ) (s t : State) (x : ℤ)
    → HoldsNumber s i.variable x
    → IsBeforeTest (parts_of w l) before k s t
    → HoldsNumber t i.variable (counted kind (step_of l.step) x k))

-- and the bound has the same value before each test where it has one
abbrev pub BoundIsSame : Type 0
BoundIsSame =
    (program : Program) (depth number : ℕ) (f : TFunc) (l : TLoop) (i : Read) (kind : Kind)
    → is_counted f.variables (marked l) ≡ true
    → counter l.step ≡ Some i
    → IsTypedLoop kind l
    → (let w = within program (calls depth program) number f in
    (before : Option ℕ) (k : ℕ) (s t : State) (x y : Value)
    → IsBeforeTest (parts_of w l) before k s t
    → HasValue w (bound_of i.variable l.test) s x
    → HasValue w (bound_of i.variable l.test) t y
    → x ≡ y)
