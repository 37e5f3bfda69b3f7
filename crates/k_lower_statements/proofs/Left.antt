-- What is left of a piece, behind what was emitted of it so far.
use Rattle.std.proofs.Common.{◌≡◌, ◌+◌, List, ◌++◌, length}
use Rattle.k_code.specs.declared.instruction.Instr.{Instr}
use Rattle.k_lower_code.specs.Pieces.{Piece}

-- WHAT IS LEFT OF A PIECE comes to the whole.
pub record IsLeft {A : Type 0} (rest whole : Piece A) (old now : List Instr) : Type 0 where
  pub gives : rest.gives ≡ whole.gives
  pub code : now ++ rest.code (length now) ≡ old ++ whole.code (length old)
  pub size : length now + rest.size ≡ length old + whole.size
