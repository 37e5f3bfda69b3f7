-- Believed with a public law.
-- What it is for the code of an expression to do what the expression means.
use Rattle.std.specs.Prelude.{ℕ, ◌≡◌, ◌+◌, ◌<◌, ◌≤◌, Bool, true, false, ℤ, List, [], ◌∷◌, Some, None}
use Rattle.k_types_meaning.specs.declared.tree.expression.Node.{Node}
use Rattle.k_world.specs.declared.value.Held.{Held}
use Rattle.k_world.specs.declared.value.Value.{Value}
use Rattle.k_world.specs.declared.value.Value.TheVariants as value
use Rattle.k_code.specs.declared.code.Code.{Code}
use Rattle.k_code.specs.declared.instruction.Arg.{Arg}
use Rattle.k_code.specs.declared.instruction.Arg.TheVariants.{Number, Reg}
use Rattle.k_evaluation.specs.Expressions.{Calls}
use Rattle.k_evaluation.specs.Meanings.{Meaning}
use Rattle.k_evaluation.specs.States.{Program}
use Rattle.k_evaluation.specs.declared.operand.Operand.{Operand}
use Rattle.k_evaluation.specs.declared.operand.Operand.TheVariants.{Constant, Holding, Register}
use Rattle.k_evaluation.specs.declared.operand.Target.{Target}
use Rattle.k_evaluation.specs.declared.operand.Target.TheVariants as target
use Rattle.k_lower_code.specs.Library.{calls_with}
use Rattle.k_lower_code.specs.Lowered.{Designated, InMemory, InRegister, Lowered}
use Rattle.k_lower_code.specs.Pieces.{IsSized}
use Rattle.k_lower_runs.specs.Following.{Follows, Registers}

-- AN OPERAND AND AN ARGUMENT READ THE SAME, now and as long as the temporaries from one to another are kept, in one of which it is where it is
-- neither a number nor a variable.
pub data Within (count low high : ℕ) (registers : Registers) : Operand → Arg → Type 0 where
  number : (z : ℤ) → Within count low high registers (Constant (value.Number z)) (Number z)
  variable : (n : ℕ) (broken : Bool) → n < count → Within count low high registers (Register n broken) (Reg n broken)
  held : (h : Held) (q : ℕ) → low ≤ q → q ≤ high → registers q ≡ Some h → Within count low high registers (Holding h) (Reg q false)
  constant : (v : Value) (q : ℕ) → low ≤ q → q ≤ high → registers q ≡ Some (record { value = v; source = None }) → Within count low high registers (Constant v) (Reg q false)

-- the same where that is one temporary
abbrev pub Same : ℕ → ℕ → Registers → Operand → Arg → Type 0
Same count r registers o a = Within count r r registers o a

-- what an expression and its code designate is the same
pub data SamePlace (count r : ℕ) (registers : Registers) : Target → Designated → Type 0 where
  in_register : (n : ℕ) (broken : Bool) → n < count → SamePlace count r registers (target.InRegister n broken) (InRegister n broken)
  in_memory : (o : Operand) (a : Arg) → Same count r registers o a → SamePlace count r registers (target.InMemory o) (InMemory a)

-- several operands and arguments read the same, each as long as the registers from this one on are kept
abbrev pub AllSame : ℕ → ℕ → Registers → List Operand → List Arg → Type 0
AllSame count r registers [] [] = Unit {0}
AllSame count r registers (o ∷ os) [] = ⊥
AllSame count r registers [] (a ∷ args) = ⊥
AllSame count r registers (o ∷ os) (a ∷ args) = Same count r registers o a × AllSame count (r + 1) registers os args

-- an operand that is used reads the same
abbrev pub IfUsed : Bool → ℕ → ℕ → Operand → Arg → Registers → Type 0
IfUsed used count r o a registers = used ≡ true → Same count r registers o a

-- what no register says
abbrev pub Always : Registers → Type 0
Always registers = Unit {0}

module _ (code : Code) (deep count : ℕ) where
  -- AN EXPRESSION'S CODE DOES WHAT IT MEANS, as a value and as a place
  pub record Does (m : Meaning) (e : Lowered) : Type 0 where
    pub value : (used : Bool) (r : ℕ) → count ≤ r → Follows code deep count r Always (m.value used) (e.value used r) (λ o a new. IfUsed used count r o a new)
    pub place : (r : ℕ) → count ≤ r → Follows code deep count r Always m.place (e.place r) (λ t d new. SamePlace count r new t d)
    pub value_sized : (used : Bool) (r : ℕ) → IsSized (e.value used r)
    pub place_sized : (r : ℕ) → IsSized (e.place r)
    pub node : m.node ≡ e.node
    pub text : m.text ≡ e.text

  -- a call's code does what the calls say, behind its arguments
  abbrev pub CallFollows : Program → Calls → Node → ℕ → Type 0
  CallFollows program calls node f = (used : Bool) (r : ℕ) → count ≤ r → (os : List Operand) (args : List Arg)
      → Follows code deep count r (λ new. AllSame count r new os args) (calls f node.place os) (calls_with program node f used r args)
      (λ v b new. IfUsed used count r v b new)
