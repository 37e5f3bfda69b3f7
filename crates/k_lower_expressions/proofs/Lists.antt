-- Lists of operands that are emitted one behind the other.
use Rattle.std.proofs.Common.{◌≡◌, ◌+◌, List, ◌++◌, length}
use Rattle.k_code.specs.declared.instruction.Arg.{Arg}
use Rattle.k_code.specs.declared.instruction.Instr.{Instr}
use Rattle.k_lower_code.specs.Pieces.{Piece}

-- WHAT IS LEFT OF A PIECE: behind what was given and emitted so far it comes to the whole.
pub record Comes (given : List Arg) (rest whole : Piece (List Arg)) (old now : List Instr) : Type 0 where
  pub gives : given ++ rest.gives ≡ whole.gives
  pub code : now ++ rest.code (length now) ≡ old ++ whole.code (length old)
  pub size : length now + rest.size ≡ length old + whole.size
