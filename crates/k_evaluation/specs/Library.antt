-- Believed with the theorem on the top call.
-- The rows of the library's functions (C17 7.21).
use Rattle.std.specs.Prelude.{List, [], ◌∷◌, map}
use Rattle.k_num.specs.declared.place.Place.{Place}
use Rattle.k_optab.specs.declared.class.Class.TheVariants as class
use Rattle.k_types_meaning.specs.declared.tree.expression.Node.{Node}
use Rattle.k_types_meaning.specs.declared.tree.expression.Piece.{Piece}
use Rattle.k_types_meaning.specs.declared.tree.expression.Piece.TheVariants as piece
use Rattle.k_types_meaning.specs.declared.tree.expression.Written.{Written}
use Rattle.k_types_meaning.specs.declared.tree.expression.Written.TheVariants as written
use Rattle.k_world.specs.declared.act.Act.TheVariants as act
use Rattle.k_world.specs.declared.act.Chunk.{Chunk}
use Rattle.k_world.specs.declared.act.Chunk.TheVariants as chunk
use Rattle.k_world.specs.declared.act.Out.{Out}
use Rattle.k_world.specs.declared.act.Out.TheVariants as out
use Rattle.k_evaluation.specs.declared.operand.Operand.{Operand}
use Rattle.k_evaluation.specs.States.{Program, Part, ◌>>=◌, computes}
use Rattle.k_evaluation.specs.Meanings.{Meaning, only_value, on_one, in_turn}

-- AN OUTPUT of these arguments: the operands are the arguments and the cell OUT
abbrev pub outputs : Program → Place → Out → List Operand → Part Operand
outputs program place what args = computes program class.Output place (act.Output what) args

-- `getchar()`: the operand is the cell IN (C17 7.21.7.6)
unfoldable pub getchar : Program → Node → Meaning
getchar program node = only_value node (λ used. computes program class.Input node.place act.Input [])

-- an output of one argument as a byte
abbrev pub puts_byte : Program → Place → Operand → Part Operand
puts_byte program place a = outputs program place out.Byte (a ∷ [])

-- `putchar(e)` (C17 7.21.7.8)
unfoldable pub putchar : Program → Node → Meaning → Meaning
putchar program node e = on_one node e (puts_byte program node.place)

-- `puts(e)` of a string (C17 7.21.7.9)
unfoldable pub puts : Program → Node → Meaning → Meaning
puts program node e = only_value node (λ used. outputs program node.place (out.Line e.text) [])

-- how an argument is written
abbrev pub conversion_of : Written → Chunk
conversion_of written.Byte = chunk.Byte
conversion_of written.Decimal = chunk.Decimal
conversion_of written.Hex = chunk.Hex

-- a piece of a format, as it is written
abbrev pub chunk_of : Piece → Chunk
chunk_of (piece.Bytes bytes) = chunk.Bytes bytes
chunk_of (piece.Argument how) = conversion_of how

-- `printf(format, args)`: the arguments, then the output (C17 7.21.6.3)
unfoldable pub printf : Program → Node → List Piece → List Meaning → Meaning
printf program node format args =
    only_value node (λ used. in_turn args >>= outputs program node.place (out.Format (map chunk_of format)))
