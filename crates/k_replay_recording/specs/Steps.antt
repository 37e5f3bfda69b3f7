-- Believed with a public law.
-- The step of a record that an operation comes to: what it does, and where its operands come from.
use Rattle.std.specs.Prelude.{ℕ, ◌+◌, List, [], ◌∷◌, ◌++◌, map, Option, Some, None}
use Rattle.k_world.specs.declared.act.Act.{Act}
use Rattle.k_world.specs.declared.act.Act.TheVariants as does
use Rattle.k_world.specs.declared.act.Chunk.{Chunk}
use Rattle.k_world.specs.declared.act.Chunk.TheVariants as chunk
use Rattle.k_world.specs.declared.act.Out.{Out}
use Rattle.k_world.specs.declared.act.Out.TheVariants as out
use Rattle.k_world.specs.declared.value.Held.{Held}
use Rattle.k_world.specs.declared.value.Read.{Read}
use Rattle.k_world.specs.declared.value.Value.{Value}
use Rattle.k_world.specs.declared.value.Value.TheVariants as value
use Rattle.k_world.specs.Values.{int_of}
use Rattle.k_replay_record.specs.declared.record.Act.{Act as Recorded}
use Rattle.k_replay_record.specs.declared.record.Act.TheVariants as act
use Rattle.k_replay_record.specs.declared.record.Datum.{Datum}
use Rattle.k_replay_record.specs.declared.record.Datum.TheVariants as datum
use Rattle.k_replay_record.specs.declared.record.Operand.{Operand}
use Rattle.k_replay_record.specs.declared.record.Operand.TheVariants.{Fixed, From}
use Rattle.k_replay_record.specs.declared.record.Piece.{Piece}
use Rattle.k_replay_record.specs.declared.record.Piece.TheVariants as piece
use Rattle.k_replay_record.specs.declared.record.Step.{Step}

-- a value, as a record has it
abbrev pub datum_of : Value → Datum
datum_of (value.Number n) = datum.Number n
datum_of (value.Pointer p) = datum.At p

-- an operand that the operation of this number gave, or that none gave and is this
abbrev pub given_by : Option ℕ → Datum → Operand
given_by None d = Fixed d
given_by (Some number) d = From number

-- an operand by what it holds
abbrev pub operand_of : Option Held → Operand
operand_of None = Fixed datum.Nothing
operand_of (Some held) = given_by held.source (datum_of held.value)

-- the operand that the construct does not write, if there is one: the element that is loaded, or the cell IN or OUT
abbrev pub hidden_operands : Act → Option ℕ → Value → List Operand
hidden_operands does.Load hidden v = given_by hidden (datum_of v) ∷ []
hidden_operands does.Input hidden v = given_by hidden datum.Nothing ∷ []
hidden_operands (does.Output what) hidden v = given_by hidden datum.Nothing ∷ []
hidden_operands _ hidden v = []

-- the operands of an operation that gave this value: those that are read, the hidden one, and last the control source
abbrev pub operands_of : Act → List Read → Option ℕ → Option ℕ → Value → List Operand
operands_of what reads hidden control v =
    map (λ (r : Read). operand_of r.slot) reads ++ hidden_operands what hidden v ++ given_by control datum.Nothing ∷ []

-- the operand that comes next behind a part of a format
abbrev pub operand_behind : Chunk → ℕ → ℕ
operand_behind (chunk.Bytes bytes) n = n
operand_behind _ n = n + 1

-- a part of a format, where this operand is next
abbrev pub piece_of : ℕ → Chunk → Piece
piece_of n (chunk.Bytes bytes) = piece.Bytes bytes
piece_of n chunk.Byte = piece.Byte n
piece_of n chunk.Decimal = piece.Decimal n
piece_of n chunk.Hex = piece.Hex n

-- the parts of a format, of which each conversion takes the next operand, from this one on
abbrev pub pieces : ℕ → List Chunk → List Piece
pieces n [] = []
pieces n (c ∷ chunks) = piece_of n c ∷ pieces (operand_behind c n) chunks

-- what an output does
abbrev pub output_of : Out → Recorded
output_of out.Byte = act.Put
output_of (out.Line bytes) = act.Puts (bytes ++ 10 ∷ [])
output_of (out.Format chunks) = act.Print (pieces 0 chunks)

-- what an act does that gave this value
unfoldable pub recorded : Act → Value → Recorded
recorded (does.Binary op kind) v = act.Binary op kind
recorded (does.Unary op kind) v = act.Unary op kind
recorded (does.Convert kind) v = act.Convert kind
recorded does.Move v = act.Same 0
recorded (does.Offset minus scale) v = act.Offset minus scale
recorded (does.PtrCompare op) v = act.PtrCompare op
recorded (does.PtrDistance scale) v = act.Distance scale
recorded does.Load v = act.Same 1
recorded does.Store v = act.Same 1
recorded does.Input v = act.Input (int_of v)
recorded (does.Output what) v = output_of what
recorded does.Test v = act.Truth
recorded does.Call v = act.Call

-- the step of an operation that was made with these operands and gave this value
abbrev pub step_of : Act → List Read → Option ℕ → Option ℕ → Value → Step
step_of what reads hidden control v = record { act = recorded what v; operands = operands_of what reads hidden control v }
