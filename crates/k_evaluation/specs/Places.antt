-- Believed with the theorem on the top call.
-- The rows of constants and places: numbers, strings, variables, elements and addresses (C17 6.5.1, 6.5.2.1, 6.5.3.2).
use Rattle.std.specs.Prelude.{ℕ, ◌+◌, nat_eq, Bool, true, false, ℤ, List, [], ◌∷◌, length, slice_get, Option, Some, None}
use Rattle.k_num.specs.declared.place.Place.{Place}
use Rattle.k_optab.specs.declared.class.Class.TheVariants as class
use Rattle.k_types_meaning.specs.declared.tree.expression.Node.{Node}
use Rattle.k_types_meaning.specs.declared.tree.unit.TVariable.{TVariable}
use Rattle.k_world.specs.declared.act.Act.TheVariants as act
use Rattle.k_world.specs.declared.value.Value.TheVariants as value
use Rattle.k_evaluation.specs.declared.operand.Operand.{Operand}
use Rattle.k_evaluation.specs.declared.operand.Operand.TheVariants.{Constant, Register}
use Rattle.k_evaluation.specs.declared.operand.Target.{Target}
use Rattle.k_evaluation.specs.declared.operand.Target.TheVariants.{InRegister, InMemory}
use Rattle.k_evaluation.specs.States.{Program, Part, ◌>>=◌, gives, computes}
use Rattle.k_world.specs.Values.{pointer_to}
use Rattle.k_evaluation.specs.Meanings.{Meaning, nothing, only_value, at_place, on_two, scale_of, flag}

-- NUMBER, `sizeof`: no operation
unfoldable pub number : Node → ℤ → Meaning
number node z = only_value node (λ used. gives (Constant (value.Number z)))

-- the address of the first element of an object
abbrev pub address_of : ℕ → Operand
address_of object = Constant (pointer_to object 0).value

-- the number of the object of a string: strings are made behind the file objects
abbrev pub string_number : Program → ℕ → ℕ
string_number program n = length program.unit.objects + n

-- STRING: its address, without an operation
unfoldable pub string : Program → Node → ℕ → List ℕ → Meaning
string program node n bytes = record {
  value = λ used. gives (address_of (string_number program n));
  place = gives (InMemory nothing);
  node = node;
  text = bytes;
}

-- FILE OBJECT: a place; the objects of a file have its numbers
unfoldable pub object : Program → Node → ℕ → Meaning
object program node n = at_place program node (gives (InMemory (address_of n)))

-- a variable without an object is a register
abbrev pub has_register : Option TVariable → Bool
has_register None = true
has_register (Some v) = nat_eq v.elements 0

-- the variable of this number is a register
abbrev pub is_register : List TVariable → ℕ → Bool
is_register vs n = has_register (slice_get vs n)

-- the read at the node of this number is broken
abbrev pub is_broken : Program → ℕ → Bool
is_broken program n = flag (slice_get program.marks.broken n)

-- A variable as a place, by whether it is a register. The address of one that is memory is what the variable holds, which is read by the
-- operation that uses it: before its declaration that is not set.
abbrev pub variable_place : Program → Node → ℕ → Bool → Part Target
variable_place program node n true = gives (InRegister n (is_broken program node.number))
variable_place program node n false = gives (InMemory (Register n false))

-- VARIABLE: a place
unfoldable pub variable : Program → List TVariable → Node → ℕ → Meaning
variable program vs node n = at_place program node (variable_place program node n (is_register vs n))

-- the address of an element: an operation on a pointer and a number (C17 6.5.6p8)
abbrev pub offset : Program → Place → Bool → ℕ → Operand → Operand → Part Operand
offset program place minus scale pointer by = computes program class.Simple place (act.Offset minus scale) (pointer ∷ by ∷ [])

-- the element behind a pointer, as a place
abbrev pub element_at : Program → Place → ℕ → Operand → Operand → Part Target
element_at program place scale pointer by = offset program place false scale pointer by >>= λ address. gives (InMemory address)

-- an index behind its base
abbrev pub behind_base : Program → Place → ℕ → Meaning → Operand → Part Target
behind_base program place scale by pointer = by.value true >>= element_at program place scale pointer

-- INDEX `base[by]`: the base, the index, the address; and the load where its value is used (C17 6.5.2.1p2)
unfoldable pub index : Program → Node → Meaning → Meaning → Meaning
index program node base by =
    at_place program node (base.value true >>= behind_base program node.place (scale_of base.node.of) by)

-- `*e`: the value is the address of the place (C17 6.5.3.2p4)
unfoldable pub deref : Program → Node → Meaning → Meaning
deref program node e = at_place program node (e.value true >>= λ pointer. gives (InMemory pointer))

-- the address that a place has
abbrev pub address_at : Target → Operand
address_at (InRegister n broken) = nothing
address_at (InMemory address) = address

-- `&place`: its address, without an operation (C17 6.5.3.2p3)
unfoldable pub address : Node → Meaning → Meaning
address node e = only_value node (λ used. e.place >>= λ target. gives (address_at target))

-- `p + i`: the pointer, the number, the address
unfoldable pub forward : Program → Node → Meaning → Meaning → Meaning
forward program node pointer by = on_two node pointer by (offset program node.place false (scale_of node.of))

-- `p - i`: the pointer, the number, the address
unfoldable pub back : Program → Node → Meaning → Meaning → Meaning
back program node pointer by = on_two node pointer by (offset program node.place true (scale_of node.of))

-- the operands of `i + p` are the pointer and then the number
abbrev pub offset_onto : Program → Place → ℕ → Operand → Operand → Part Operand
offset_onto program place scale by pointer = offset program place false scale pointer by

-- `i + p`: the number, the pointer, the address
unfoldable pub onto : Program → Node → Meaning → Meaning → Meaning
onto program node by pointer = on_two node by pointer (offset_onto program node.place (scale_of node.of))
