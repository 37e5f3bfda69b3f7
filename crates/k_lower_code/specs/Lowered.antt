-- Believed with a public law.
-- How an expression is lowered: the code of its value, used or not, and of its place. Temporaries are a stack of registers behind the
-- variables: what an operand needs stands in the first free one, and those of the operands behind it in the next.
use Rattle.std.specs.Prelude.{ℕ, ◌+◌, Bool, true, false, List, [], ◌∷◌}
use Rattle.k_num.specs.declared.place.Place.{Place}
use Rattle.k_types_meaning.specs.declared.types.TType.{TType}
use Rattle.k_types_meaning.specs.declared.types.TType.TheVariants as ttype
use Rattle.k_types_meaning.specs.declared.tree.expression.Node.{Node}
use Rattle.k_code.specs.declared.instruction.Arg.{Arg}
use Rattle.k_code.specs.declared.instruction.Arg.TheVariants.{Reg}
use Rattle.k_code.specs.declared.instruction.Do.TheVariants.{Load}
use Rattle.k_evaluation.specs.States.{Program}
use Rattle.k_lower_code.specs.Pieces.{Piece, only, ◌>>>◌, sets, nothing}

-- what an expression designates: a register, and whether the read of it is broken, or the element at an address
pub data Designated : Type 0 where
  InRegister : ℕ → Bool → Designated
  InMemory : Arg → Designated

-- How an expression is lowered, with temporaries from a register on.
pub record Lowered : Type 0 where
  -- its value, used or not
  pub value : Bool → ℕ → Piece Arg
  -- the place that it designates
  pub place : ℕ → Piece Designated
  -- what its text tells: its node, and its bytes where it is a string
  pub node : Node
  pub text : List ℕ

-- an expression that is no place
abbrev pub only_value : Node → (Bool → ℕ → Piece Arg) → Lowered
only_value node v = record { value = v; place = λ r. only (InMemory nothing); node = node; text = [] }

-- an element is loaded where its value is used
abbrev pub loads : Program → Place → Bool → ℕ → Arg → Piece Arg
loads program place false r address = only nothing
loads program place true r address = sets program place (Load address) r

-- the value of what stands in memory, by its type
abbrev pub value_in_memory : Program → Place → TType → Bool → ℕ → Arg → Piece Arg
value_in_memory program place ttype.Void used r address = only nothing
value_in_memory program place (ttype.Number kind) used r address = loads program place used r address
value_in_memory program place (ttype.Pointer target) used r address = only address

-- the value of a place: a register is read by the operation that uses it
abbrev pub value_at : Program → Node → Bool → ℕ → Designated → Piece Arg
value_at program node used r (InRegister n broken) = only (Reg n broken)
value_at program node used r (InMemory address) = value_in_memory program node.place node.of used r address

-- an expression that is a place
abbrev pub at_place : Program → Node → (ℕ → Piece Designated) → Lowered
at_place program node place =
    record { value = λ used r. place r >>> value_at program node used r; place = place; node = node; text = [] }

-- an operand, and then what is done with it
abbrev pub on_one : Node → Lowered → (ℕ → Arg → Piece Arg) → Lowered
on_one node e operation = only_value node (λ used r. e.value true r >>> operation r)

-- a second operand behind the first, and then what is done with both
abbrev pub behind_one : Lowered → (ℕ → Arg → Arg → Piece Arg) → ℕ → Arg → Piece Arg
behind_one right operation r a = right.value true (r + 1) >>> operation r a

-- two operands from left to right, and then what is done with both
abbrev pub on_two : Node → Lowered → Lowered → (ℕ → Arg → Arg → Piece Arg) → Lowered
on_two node left right operation = on_one node left (behind_one right operation)

-- operands from left to right, each in a register of its own
abbrev pub in_turn : List Lowered → ℕ → Piece (List Arg)
in_turn [] r = only []
in_turn (e ∷ es) r = e.value true r >>> λ a. in_turn es (r + 1) >>> λ rest. only (a ∷ rest)
