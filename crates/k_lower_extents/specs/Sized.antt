-- For contracts between crates: nobody has to believe it.
-- How many instructions the code of an expression has, wherever its temporaries stand.
use Rattle.std.specs.Prelude.{ℕ, ◌≡◌, Bool, true, false, List}
use Rattle.k_types_meaning.specs.declared.tree.expression.TExpr.{TExpr}
use Rattle.k_types_meaning.specs.declared.tree.unit.TVariable.{TVariable}
use Rattle.k_evaluation.specs.States.{Program}
use Rattle.k_lower_code.specs.Expressions.{lowered}
use Rattle.k_lower_code.specs.Lowered.{Lowered, Designated, InRegister, InMemory}
use Rattle.k_lower_extents.specs.declared.expression.ExpressionExtent.{ExpressionExtent}

-- a place is a register
abbrev pub stands_in_register : Designated → Bool
stands_in_register (InRegister n broken) = true
stands_in_register (InMemory address) = false

-- THIS IS THE EXTENT of an expression that is lowered so, with temporaries from any register on
pub record IsExtent (l : Lowered) (x : ExpressionExtent) : Type 0 where
  pub used : (r : ℕ) → (l.value true r).size ≡ x.used
  pub unused : (r : ℕ) → (l.value false r).size ≡ x.unused
  pub place : (r : ℕ) → (l.place r).size ≡ x.place
  pub in_register : (r : ℕ) → stands_in_register (l.place r).gives ≡ x.in_register
  pub of : l.node.of ≡ x.of

-- this is the extent of an expression in a function with these variables, in any program
abbrev pub HasExtent : List TVariable → TExpr → ExpressionExtent → Type 0
HasExtent vs e x = (program : Program) → IsExtent (lowered program vs e) x
