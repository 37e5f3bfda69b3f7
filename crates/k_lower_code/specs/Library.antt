-- Believed with a public law.
-- The rows of calls: of the library's functions and of those of the source.
use Rattle.std.specs.Prelude.{ℕ, Bool, false, List, [], ◌∷◌, map, Option, None}
use Rattle.k_num.specs.declared.place.Place.{Place}
use Rattle.k_types_meaning.specs.declared.types.TType.{TType}
use Rattle.k_types_meaning.specs.declared.types.TType.TheVariants as ttype
use Rattle.k_types_meaning.specs.declared.tree.expression.Node.{Node}
use Rattle.k_types_meaning.specs.declared.tree.expression.Piece.{Piece as Written}
use Rattle.k_world.specs.declared.act.Out.{Out}
use Rattle.k_world.specs.declared.act.Out.TheVariants as out
use Rattle.k_code.specs.declared.instruction.Arg.{Arg}
use Rattle.k_code.specs.declared.instruction.Arg.TheVariants.{Reg}
use Rattle.k_code.specs.declared.instruction.Do.TheVariants.{Input, Output, Call}
use Rattle.k_evaluation.specs.Library.{chunk_of}
use Rattle.k_evaluation.specs.States.{Program}
use Rattle.k_lower_code.specs.Lowered.{Lowered, only_value, on_one, in_turn}
use Rattle.k_lower_code.specs.Pieces.{Piece, only, ◌>>>◌, does, sets, settled, if_used, nothing}

-- an output of these arguments
abbrev pub outputs : Program → Place → Out → ℕ → List Arg → Piece Arg
outputs program place what r args = sets program place (Output what args) r

-- `getchar()`
unfoldable pub getchar : Program → Node → Lowered
getchar program node = only_value node (λ used r. sets program node.place Input r)

-- an output of one argument as a byte
abbrev pub puts_byte : Program → Place → ℕ → Arg → Piece Arg
puts_byte program place r a = outputs program place out.Byte r (a ∷ [])

-- `putchar(e)`
unfoldable pub putchar : Program → Node → Lowered → Lowered
putchar program node e = on_one node e (puts_byte program node.place)

-- `puts(e)` of a string
unfoldable pub puts : Program → Node → Lowered → Lowered
puts program node e = only_value node (λ used r. outputs program node.place (out.Line e.text) r [])

-- `printf(format, args)`
unfoldable pub printf : Program → Node → List Written → List Lowered → Lowered
printf program node format args =
    only_value node (λ used r. in_turn args r >>> outputs program node.place (out.Format (map chunk_of format)) r)

-- the register to which what a call returns goes: of void there is none
abbrev pub returned_to : TType → Bool → ℕ → Option ℕ
returned_to ttype.Void used r = None
returned_to (ttype.Number kind) used r = if_used used r
returned_to (ttype.Pointer target) used r = if_used used r

-- the value of a call: of void there is none
abbrev pub value_returned : TType → ℕ → Arg
value_returned ttype.Void r = nothing
value_returned (ttype.Number kind) r = Reg r false
value_returned (ttype.Pointer target) r = Reg r false

-- a call behind its arguments: the caller gets its control source back
abbrev pub calls_with : Program → Node → ℕ → Bool → ℕ → List Arg → Piece Arg
calls_with program node f used r args =
    settled program node.place (does program node.place (Call f args (returned_to node.of used r)) >>> λ done. only (value_returned node.of r))

-- a call of a function of the source
unfoldable pub call : Program → Node → ℕ → List Lowered → Lowered
call program node f args = only_value node (λ used r. in_turn args r >>> calls_with program node f used r)
