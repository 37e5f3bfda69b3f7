-- Believed with a public law.
-- Pieces of flat code: how one stands behind another, and what an instruction is.
use Rattle.std.specs.Prelude.{ℕ, ◌≡◌, length, ◌+◌, Bool, true, false, pos, List, [], ◌∷◌, ◌++◌, Option, Some, None}
use Rattle.k_num.specs.declared.place.Place.{Place}
use Rattle.k_optab.specs.declared.class.Class.{Class}
use Rattle.k_optab.specs.Latencies.{latency}
use Rattle.k_world.specs.declared.act.Act.{Act}
use Rattle.k_code.specs.declared.instruction.Arg.{Arg}
use Rattle.k_code.specs.declared.instruction.Arg.TheVariants.{Number, Reg}
use Rattle.k_code.specs.declared.instruction.Do.{Do}
use Rattle.k_code.specs.declared.instruction.Do.TheVariants.{Save, Back}
use Rattle.k_code.specs.declared.instruction.Instr.{Instr}
use Rattle.k_code.specs.Steps.{operation_of}
use Rattle.k_evaluation.specs.States.{Program}

-- A piece of code: how many instructions it has; what they are, where the first of them has this number; and what it gives to the pieces
-- behind it.
pub record Piece (A : Type 0) : Type 0 where
  pub size : ℕ
  pub code : ℕ → List Instr
  pub gives : A

-- a piece has as many instructions as it says, wherever it stands
abbrev pub IsSized : {A : Type 0} → Piece A → Type 0
IsSized piece = (first : ℕ) → length (piece.code first) ≡ piece.size

-- no instruction, and this is given
abbrev pub only : {A : Type 0} → A → Piece A
only a = record { size = 0; code = λ first. []; gives = a }

infixl 10 ◌>>>◌
-- one piece behind another, of which it has to know what it gives
abbrev pub ◌>>>◌ : {A B : Type 0} → Piece A → (A → Piece B) → Piece B
(piece >>> next) = record {
  size = piece.size + (next piece.gives).size;
  code = λ first. piece.code first ++ (next piece.gives).code (first + piece.size);
  gives = (next piece.gives).gives;
}

-- the latency of an operation, by its class; of what is no operation it is 0
abbrev pub latency_by : List ℕ → Option (Class × Act) → ℕ
latency_by latencies None = 0
latency_by latencies (Some operation) = latency latencies operation.0

-- an instruction that does this at this place
abbrev pub instruction : Program → Place → Do → Instr
instruction program place act = record { place = place; latency = latency_by program.latencies (operation_of act); act = act }

-- the piece that is this one instruction
abbrev pub does : Program → Place → Do → Piece (Unit {0})
does program place act = record { size = 1; code = λ first. instruction program place act ∷ []; gives = tt }

-- an instruction that sets this register, which is then an operand
abbrev pub sets : Program → Place → (ℕ → Do) → ℕ → Piece Arg
sets program place act to = does program place (act to) >>> λ done. only (Reg to false)

-- the operand of what has no value that is used
abbrev pub nothing : Arg
nothing = Number (pos 0)

-- the register to which a value goes, where it is used
abbrev pub if_used : Bool → ℕ → Option ℕ
if_used false to = None
if_used true to = Some to

-- a piece behind which the control source is as before it
abbrev pub settled : {A : Type 0} → Program → Place → Piece A → Piece A
settled program place piece = does program place Save >>> λ saved. piece >>> λ a. does program place Back >>> λ back. only a

-- the same where it doesn't stay as the piece leaves it
abbrev pub settled_unless : {A : Type 0} → Bool → Program → Place → Piece A → Piece A
settled_unless true program place piece = piece
settled_unless false program place piece = settled program place piece
