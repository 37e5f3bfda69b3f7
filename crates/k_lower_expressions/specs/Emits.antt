-- For contracts between crates: nobody has to believe it.
-- What a call emits: the instructions of a piece of code, behind those that were there.
use Rattle.std.specs.Prelude.{◌≡◌, ◌+◌, List, ◌++◌, length, Result, Ok, Err}
use Rattle.k_num.specs.declared.memory.NoMemory.{NoMemory}
use Rattle.k_code.specs.declared.instruction.Instr.{Instr}
use Rattle.k_lower_code.specs.Lowered.{Designated}
use Rattle.k_lower_code.specs.Pieces.{Piece}
use Rattle.k_lower_expressions.specs.Arounds.{designates}
use Rattle.k_lower_expressions.specs.declared.designated.Designated as emitted

-- A PIECE WAS EMITTED: this is what it gives, and its instructions, as many as it says, stand behind those that were there.
pub record Emitted {A : Type 0} (a : A) (piece : Piece A) (old new : List Instr) : Type 0 where
  pub gives : a ≡ piece.gives
  pub code : new ≡ old ++ piece.code (length old)
  pub size : length new ≡ length old + piece.size

-- a call emitted a piece and answers what it gives, unless it found no memory
abbrev pub Emits : {A : Type 0} → Result A NoMemory → Piece A → List Instr → List Instr → Type 0
Emits (Ok a) piece old new = Emitted a piece old new
Emits (Err e) piece old new = Unit {0}

-- the same of a call that answers a place
abbrev pub EmitsPlace : Result emitted.Designated NoMemory → Piece Designated → List Instr → List Instr → Type 0
EmitsPlace (Ok d) piece old new = Emitted (designates d) piece old new
EmitsPlace (Err e) piece old new = Unit {0}
