-- Believed with a public law.
-- What holds of the size of lowered code.
use Rattle.std.specs.Prelude.{ℕ, ◌≡◌, ◌+◌, ◌*◌, ◌≤◌, Bool, max, List, [], length, map, sum, slice_get, Some}
use Rattle.k_num.specs.declared.place.Place.{Place}
use Rattle.k_tree.specs.declared.tree.unit.Unit as source
use Rattle.k_tree.specs.Count.{unit_count}
use Rattle.k_types_meaning.specs.declared.tree.declaration.TDeclarator.{TDeclarator}
use Rattle.k_types_meaning.specs.declared.tree.expression.TExpr.{TExpr}
use Rattle.k_types_meaning.specs.declared.tree.statement.TFirst.{TFirst}
use Rattle.k_types_meaning.specs.declared.tree.statement.TStmt.{TStmt}
use Rattle.k_types_meaning.specs.declared.tree.unit.TFunc.{TFunc}
use Rattle.k_types_meaning.specs.declared.tree.unit.TUnit.{TUnit}
use Rattle.k_types_meaning.specs.declared.tree.unit.TVariable.{TVariable}
use Rattle.k_types_meaning.specs.Bare.{IsTyped}
use Rattle.k_types_meaning.specs.Units.{faults}
use Rattle.k_evaluation.specs.States.{Program}
use Rattle.k_lower_code.specs.Functions.{function, function_code, registers_of, serves}
use Rattle.k_lower_code.specs.Declarations.{declares_all, starts_with}
use Rattle.k_lower_code.specs.Expressions.{lowered as lowered_expr}
use Rattle.k_lower_code.specs.Statements.{lowered}
use Rattle.k_lower_code.specs.Stretches.{Inside, Stretch}
use Rattle.k_lower_fits.specs.Costs.{expr_cost, stmt_cost}
use Rattle.k_lower_sizes.specs.Named.{objects_of}

-- THE CODE OF A FUNCTION IS SMALL, that of this number of a program: its registers and the numbers of the objects of a call that it speaks of,
-- wherever its instructions stand, and these
pub record StaysSmall (program : Program) (number : ℕ) (f : TFunc) : Type 0 where
  pub registers : (first : ℕ) → max f.params (registers_of (function_code program number f first)) ≤ 2 * f.nodes
  pub instructions : (function program number f).size ≤ 512 * f.nodes
  pub objects : (first : ℕ) → objects_of (function_code program number f first) ≤ 512 * f.nodes

-- so is that of each function of a source without faults
abbrev pub FunctionsStaySmall : Type 0
FunctionsStaySmall =
    (unit : source.Unit) (program : Program) (number : ℕ) (f : TFunc)
    → IsTyped unit program.unit → faults unit ≡ [] → slice_get program.unit.functions number ≡ Some f → StaysSmall program number f

-- A STRETCH OPENS FEW: it makes no more objects that live on behind it than it has instructions
abbrev pub OpensFew : Stretch → Type 0
OpensFew s = s.opens ≤ s.size

-- so do parameters, declarations, the first part of a `for`, and each statement
pub record AllOpenFew : Type 0 where
  pub parameters : (program : Program) (r : ℕ) (close : Place) (n count : ℕ) (vs : List TVariable) → OpensFew (serves program r close n count vs)
  pub declarations : (w : Inside) (place : Place) (ds : List TDeclarator) → OpensFew (declares_all w place ds)
  pub first_parts : (w : Inside) (place : Place) (f : TFirst) → OpensFew (starts_with w place f)
  pub statements : (w : Inside) (s : TStmt) → OpensFew (lowered w s)

-- an expression, wherever its temporaries stand, and a statement have at most as many instructions as their constructs cost
pub record TakeTheirCost : Type 0 where
  pub values : (program : Program) (vs : List TVariable) (e : TExpr) (used : Bool) (r : ℕ) → ((lowered_expr program vs e).value used r).size ≤ (expr_cost e).instructions
  pub places : (program : Program) (vs : List TVariable) (e : TExpr) (r : ℕ) → ((lowered_expr program vs e).place r).size ≤ (expr_cost e).instructions
  pub statements : (w : Inside) (s : TStmt) → (lowered w s).size ≤ (stmt_cost s).instructions

-- how many nodes the definitions of functions have
abbrev pub nodes_of : List TFunc → ℕ
nodes_of fs = sum (map (λ (f : TFunc). f.nodes) fs)

-- the definitions of all functions of a source, and its file objects, are among its nodes
abbrev pub NodesAddUp : Type 0
NodesAddUp = (unit : source.Unit) (typed : TUnit) → IsTyped unit typed → length typed.objects + nodes_of typed.functions ≤ unit_count unit

-- each string of a source without faults is paid for by 16 of the instructions that its function may have
abbrev pub StringsAreFew : Type 0
StringsAreFew = (unit : source.Unit) (typed : TUnit) → IsTyped unit typed → faults unit ≡ [] → length typed.strings ≤ 32 * nodes_of typed.functions
