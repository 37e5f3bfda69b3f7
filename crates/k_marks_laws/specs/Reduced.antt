-- Believed with a public law.
-- REDUCTION: what a variable that a loop reduces holds behind the loop.
use Rattle.std.specs.Prelude.{ℕ, Bool, true, ◌≤◌, ◌≡◌, ℤ, List, [], ◌∷◌, ◌++◌, IsSome, Option, Some, None}
use Rattle.std.specs.List.{flat_map, fold}
use Rattle.std.specs.List.Sorted.{IsPermutation}
use Rattle.k_num.specs.declared.numbers.Bin.{Bin}
use Rattle.k_num.specs.declared.numbers.Bin.TheVariants.{Add, Mul, And, Or, Xor}
use Rattle.k_num.specs.declared.numbers.Kind.{Kind}
use Rattle.k_num.specs.Combining.{combined}
use Rattle.k_num.specs.Kind.{width}
use Rattle.k_types_meaning.specs.declared.types.TType.TheVariants as ttype
use Rattle.k_types_meaning.specs.declared.tree.expression.TExpr.{TExpr, out-TExpr}
use Rattle.k_types_meaning.specs.declared.tree.expression.TExpr.TheOpen.{TExpr-F}
use Rattle.k_types_meaning.specs.declared.tree.statement.TStmt.{TStmt, fold-TStmt}
use Rattle.k_types_meaning.specs.declared.tree.statement.TPart.TheOpen.{TPart-F, TStmt-F}
use Rattle.k_types_meaning.specs.declared.tree.unit.TFunc.{TFunc}
use Rattle.k_marks_meaning.specs.declared.uses.Group.{Group}
use Rattle.k_marks_meaning.specs.declared.uses.Group.TheVariants.{Sums, Products, Ands, Ors, Xors}
use Rattle.k_marks_meaning.specs.Loops.{is_reduced}
use Rattle.k_evaluation.specs.declared.flow.Flow.{Flow}
use Rattle.k_evaluation.specs.States.{Program, State, Goes}
use Rattle.k_evaluation.specs.Loops.{source_loop}
use Rattle.k_evaluation.specs.Statements.{does}
use Rattle.k_evaluation.specs.Calls.{within, calls}
use Rattle.k_marks_laws.specs.Turns.{TLoop, marked, HoldsNumber}
use Rattle.k_marks_laws.specs.Counted.{IsOfKind, IsTypedChange, IsTypedSide}
use Rattle.k_marks_laws.specs.Contributions.{reducing_step, adds_loop, giving}

-- the operator that combines what the operators of a group contribute
abbrev pub combining : Group → Bin
combining Sums = Add
combining Products = Mul
combining Ands = And
combining Ors = Or
combining Xors = Xor

-- TYPING: the operation of `s = s op e` with s of this kind is made in a kind that is no narrower
abbrev pub IsTypedOperation : Kind → TExpr-F TExpr → Type 0
IsTypedOperation kind (TExpr-F.Binary node op wide left right) = (width kind ≤ width wide) × IsTypedSide wide (out-TExpr left)
IsTypedOperation kind _ = Unit {0}

-- TYPING: its result is converted to the kind of s, or is made in it
abbrev pub IsTypedRight : Kind → TExpr-F TExpr → Type 0
IsTypedRight kind (TExpr-F.Convert node e) = (node.of ≡ ttype.Number kind) × IsTypedOperation kind (out-TExpr e)
IsTypedRight kind (TExpr-F.Binary node op wide left right) = (wide ≡ kind) × IsTypedSide wide (out-TExpr left)
IsTypedRight kind _ = Unit {0}

-- TYPING: an assignment to a variable of this kind
abbrev pub IsTypedAssignment : Kind → TExpr-F TExpr → Type 0
IsTypedAssignment kind (TExpr-F.AssignBy node by left right) = IsTypedChange kind node by
IsTypedAssignment kind (TExpr-F.Assign node left right) = IsTypedRight kind (out-TExpr right)
IsTypedAssignment kind _ = Unit {0}

-- several lists, one behind another
abbrev pub joined : List (List TExpr) → List TExpr
joined parts = flat_map (λ part. part) parts

-- a list that may not be there
abbrev pub if_listed : Option (List TExpr) → List TExpr
if_listed None = []
if_listed (Some xs) = xs

-- the expression statements in a statement
abbrev pub expressions_step : TStmt-F (List TExpr) (List TExpr) → List TExpr
expressions_step (TStmt-F.Expr spot e) = e ∷ []
expressions_step (TStmt-F.Block spot parts) = joined parts
expressions_step (TStmt-F.If spot test a b) = a ++ if_listed b
expressions_step (TStmt-F.While spot number test a) = a
expressions_step (TStmt-F.DoWhile spot number a test) = a
expressions_step (TStmt-F.For spot number start test step a) = a
expressions_step (TStmt-F.Switch spot kind on parts) = joined parts
expressions_step _ = []

-- those in a part of a switch
abbrev pub part_expressions : TPart-F (List TExpr) (List TExpr) → List TExpr
part_expressions (TPart-F.Does place xs) = xs
part_expressions _ = []

-- the expression statements in a statement
abbrev pub expressions_in : TStmt → List TExpr
expressions_in = fold-TStmt (List TExpr) (List TExpr) part_expressions expressions_step

-- TYPING: each of these that reduces this variable assigns to it as to one of this kind, as the rules of typing give it. It is a premise of
-- the law, which `k_marks_laws` shows of each source that has a typed tree
abbrev pub AreTyped : Kind → ℕ → List TExpr → Type 0
AreTyped kind n [] = Unit {0}
AreTyped kind n (e ∷ es) = (IsSome (reducing_step n (out-TExpr e)) → IsTypedAssignment kind (out-TExpr e)) × AreTyped kind n es

-- REDUCTION: where a variable of a kind, which the loop reduces by operators of a group, holds x before the loop, it holds behind it x
-- combined in the kind with what the body contributes, in any order
abbrev pub ReductionsCombine : Type 0
ReductionsCombine =
    (program : Program) (depth number : ℕ) (f : TFunc) (l : TLoop) (n : ℕ) (group : Group) (kind : Kind)
    → is_reduced f.variables (marked l) n group ≡ true
    → IsOfKind f.variables n kind
    → AreTyped kind n (expressions_in l.body)
    → (let w = within program (calls depth program) number f in
    (tested : Bool) (s t : State) (flow : Flow) (x : ℤ)
    → HoldsNumber s n x
    → source_loop w l.spot l.number l.test l.step (does w l.body) tested s ≡ Goes flow t
    → (zs : List ℤ) → IsPermutation (adds_loop w l.spot l.number l.test l.step (giving w n l.body) tested s) zs
    → HoldsNumber t n (fold (combined (combining group) kind) x zs))
