-- Believed with a public law.
-- The rows of constants and places: numbers, strings, variables, elements and addresses.
use Rattle.std.specs.Prelude.{ℕ, ◌+◌, Bool, true, false, ℤ, List}
use Rattle.k_num.specs.declared.place.Place.{Place}
use Rattle.k_types_meaning.specs.declared.tree.expression.Node.{Node}
use Rattle.k_types_meaning.specs.declared.tree.unit.TVariable.{TVariable}
use Rattle.k_code.specs.declared.instruction.Arg.{Arg}
use Rattle.k_code.specs.declared.instruction.Arg.TheVariants.{Number, Reg}
use Rattle.k_code.specs.declared.instruction.Do.TheVariants.{Offset, Address}
use Rattle.k_code.specs.declared.instruction.Home.TheVariants.{File}
use Rattle.k_evaluation.specs.States.{Program}
use Rattle.k_evaluation.specs.Meanings.{scale_of}
use Rattle.k_evaluation.specs.Places.{string_number, is_register, is_broken}
use Rattle.k_lower_code.specs.Lowered.{Lowered, Designated, InRegister, InMemory, only_value, at_place, on_two}
use Rattle.k_lower_code.specs.Pieces.{Piece, only, ◌>>>◌, sets, nothing}

-- a number, `sizeof`
unfoldable pub number : Node → ℤ → Lowered
number node z = only_value node (λ used r. only (Number z))

-- the address of the first element of the program's object of this number
abbrev pub address_of : Program → Place → ℕ → ℕ → Piece Arg
address_of program place object r = sets program place (Address (File object) 0) r

-- a string's address, where it is used
abbrev pub string_value : Program → Place → ℕ → Bool → ℕ → Piece Arg
string_value program place object false r = only nothing
string_value program place object true r = address_of program place object r

-- a string
unfoldable pub string : Program → Node → ℕ → List ℕ → Lowered
string program node n bytes = record {
  value = string_value program node.place (string_number program n);
  place = λ r. only (InMemory nothing);
  node = node;
  text = bytes;
}

-- a file object
unfoldable pub object : Program → Node → ℕ → Lowered
object program node n = at_place program node (λ r. address_of program node.place n r >>> λ address. only (InMemory address))

-- a variable as a place, by whether it is a register: one that is memory has its register too, which holds its object's address
abbrev pub variable_place : Program → Node → ℕ → Bool → Designated
variable_place program node n true = InRegister n (is_broken program node.number)
variable_place program node n false = InMemory (Reg n false)

-- a variable
unfoldable pub variable : Program → List TVariable → Node → ℕ → Lowered
variable program vs node n = at_place program node (λ r. only (variable_place program node n (is_register vs n)))

-- the address of an element, by a pointer and a number
abbrev pub offset : Program → Place → Bool → ℕ → ℕ → Arg → Arg → Piece Arg
offset program place minus scale r pointer by = sets program place (Offset minus scale pointer by) r

-- the element behind a pointer, as a place
abbrev pub element_at : Program → Place → ℕ → ℕ → Arg → Arg → Piece Designated
element_at program place scale r pointer by = offset program place false scale r pointer by >>> λ address. only (InMemory address)

-- an index behind its base
abbrev pub behind_base : Program → Place → ℕ → Lowered → ℕ → Arg → Piece Designated
behind_base program place scale by r pointer = by.value true (r + 1) >>> element_at program place scale r pointer

-- `base[by]`
unfoldable pub index : Program → Node → Lowered → Lowered → Lowered
index program node base by =
    at_place program node (λ r. base.value true r >>> behind_base program node.place (scale_of base.node.of) by r)

-- `*e`
unfoldable pub deref : Program → Node → Lowered → Lowered
deref program node e = at_place program node (λ r. e.value true r >>> λ pointer. only (InMemory pointer))

-- the address that a place has
abbrev pub address_at : Designated → Arg
address_at (InRegister n broken) = nothing
address_at (InMemory address) = address

-- `&place`
unfoldable pub address : Node → Lowered → Lowered
address node e = only_value node (λ used r. e.place r >>> λ target. only (address_at target))

-- `p + i`
unfoldable pub forward : Program → Node → Lowered → Lowered → Lowered
forward program node pointer by = on_two node pointer by (offset program node.place false (scale_of node.of))

-- `p - i`
unfoldable pub back : Program → Node → Lowered → Lowered → Lowered
back program node pointer by = on_two node pointer by (offset program node.place true (scale_of node.of))

-- the operands of `i + p` are the pointer and then the number
abbrev pub offset_onto : Program → Place → ℕ → ℕ → Arg → Arg → Piece Arg
offset_onto program place scale r by pointer = offset program place false scale r pointer by

-- `i + p`
unfoldable pub onto : Program → Node → Lowered → Lowered → Lowered
onto program node by pointer = on_two node by pointer (offset_onto program node.place (scale_of node.of))
