-- Believed with the theorem on the top call.
-- What an expression means: what it does, and what it gives as a value that is used or not, and as a place.
use Rattle.std.specs.Prelude.{ℕ, Bool, true, false, pos, List, [], ◌∷◌, Option, Some, None}
use Rattle.k_num.specs.declared.place.Place.{Place}
use Rattle.k_num.specs.declared.numbers.Kind.{Kind}
use Rattle.k_optab.specs.declared.class.Class.TheVariants as class
use Rattle.k_types_meaning.specs.declared.types.TType.{TType}
use Rattle.k_types_meaning.specs.declared.types.TType.TheVariants as ttype
use Rattle.k_types_meaning.specs.declared.tree.expression.Node.{Node}
use Rattle.k_world.specs.declared.act.Act.TheVariants as act
use Rattle.k_world.specs.declared.value.Held.{Held}
use Rattle.k_world.specs.declared.value.Value.TheVariants as value
pub use Rattle.k_world.specs.Values.{is_true}
use Rattle.k_evaluation.specs.declared.operand.Operand.{Operand}
use Rattle.k_evaluation.specs.declared.operand.Operand.TheVariants.{Constant, Register}
use Rattle.k_evaluation.specs.declared.operand.Target.{Target}
use Rattle.k_evaluation.specs.declared.operand.Target.TheVariants.{InRegister, InMemory}
use Rattle.k_evaluation.specs.States.{Program, Part, ◌>>=◌, gives, makes, computes}

-- What an expression means. Its value is evaluated as one that is used, or as one that is not: nothing reads that.
pub record Meaning : Type 0 where
  -- its value
  pub value : Bool → Part Operand
  -- the place that it designates
  pub place : Part Target
  -- what its text tells: its node, and its bytes where it is a string
  pub node : Node
  pub text : List ℕ

-- the value of what has none that is used
abbrev pub nothing : Operand
nothing = Constant (value.Number (pos 0))

-- an expression that is no place
abbrev pub only_value : Node → (Bool → Part Operand) → Meaning
only_value node v = record { value = v; place = gives (InMemory nothing); node = node; text = [] }

-- C17 6.3.2.1p2: an element is loaded where its value is used: the operands are the address and the element
abbrev pub loads : Program → Place → Bool → Operand → Part Operand
loads program place false address = gives nothing
loads program place true address = computes program class.Load place act.Load (address ∷ [])

-- C17 6.3.2.1p2, p3: the value of what stands in memory, by its type: an element is loaded, and an array gives its address
abbrev pub value_in_memory : Program → Place → TType → Bool → Operand → Part Operand
value_in_memory program place ttype.Void used address = gives nothing
value_in_memory program place (ttype.Number kind) used address = loads program place used address
value_in_memory program place (ttype.Pointer target) used address = gives address

-- the value of a place: a register is read by the operation that uses it
abbrev pub value_at : Program → Node → Bool → Target → Part Operand
value_at program node used (InRegister n broken) = gives (Register n broken)
value_at program node used (InMemory address) = value_in_memory program node.place node.of used address

-- an expression that is a place
abbrev pub at_place : Program → Node → Part Target → Meaning
at_place program node place = record { value = λ used. place >>= value_at program node used; place = place; node = node; text = [] }

-- an operand, and then what is done with it
abbrev pub on_one : Node → Meaning → (Operand → Part Operand) → Meaning
on_one node e operation = only_value node (λ used. e.value true >>= operation)

-- a second operand behind the first, and then what is done with both
abbrev pub behind_one : Meaning → (Operand → Operand → Part Operand) → Operand → Part Operand
behind_one right operation a = right.value true >>= operation a

-- two operands from left to right, and then what is done with both
abbrev pub on_two : Node → Meaning → Meaning → (Operand → Operand → Part Operand) → Meaning
on_two node left right operation = on_one node left (behind_one right operation)

-- operands from left to right
abbrev pub in_turn : List Meaning → Part (List Operand)
in_turn [] = gives []
in_turn (e ∷ es) = e.value true >>= λ a. in_turn es >>= λ rest. gives (a ∷ rest)

-- the kind of a number's type
abbrev pub kind_of : TType → Option Kind
kind_of ttype.Void = None
kind_of (ttype.Number kind) = Some kind
kind_of (ttype.Pointer target) = None

-- the numbers that one element of a pointer has
abbrev pub scale_of : TType → ℕ
scale_of ttype.Void = 1
scale_of (ttype.Number kind) = 1
scale_of (ttype.Pointer target) = target.elements

-- a mark that may not be there
abbrev pub flag : Option Bool → Bool
flag None = false
flag (Some b) = b

-- THE TEST of a condition, which is not promoted: it is the control source from then on
abbrev pub tests : Program → Place → Operand → Part Held
tests program place a = makes program class.Test place act.Test (a ∷ [])

-- a test found a number other than 0
abbrev pub holds : Held → Bool
holds test = is_true test.value
