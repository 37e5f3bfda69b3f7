-- Believed with the theorem on the top call.
-- What each act does with the values of its operands: its value or its trap, its effect, and the operands that the construct does not
-- write.
use Rattle.std.specs.Prelude.{ℕ, zero, suc, Bool, true, false, not, ℤ, pos, neg_ℤ, ◌*ℤ◌, int_lt, int_le, int_div, List, [], ◌∷◌, ◌++◌, length, slice_get, slice_set, Option, Some, None, Result, Ok, Err}
use Rattle.std.specs.Fmt.{digits, signed_decimal}
use Rattle.std.specs.Ordering.{int_eq}
use Rattle.k_num.specs.declared.numbers.Kind.{Kind}
use Rattle.k_num.specs.declared.numbers.Kind.TheVariants.{U8, I64, U64}
use Rattle.k_num.specs.declared.numbers.Bin.{Bin}
use Rattle.k_num.specs.declared.numbers.Bin.TheVariants.{Shl, Shr, Lt, Le, Gt, Ge, Ne}
use Rattle.k_num.specs.declared.numbers.Un.{Un}
use Rattle.k_num.specs.Arithmetic.{value, unary_value, truth, is_zero}
use Rattle.k_num.specs.Kind.{converted, remainder}
use Rattle.k_mem.specs.declared.pointer.Pointer.{Pointer}
use Rattle.k_mem.specs.declared.fault.MemTrap.{MemTrap}
use Rattle.k_mem.specs.declared.fault.MemTrap.TheVariants as mem
use Rattle.k_mem.specs.Memory.{Memory}
use Rattle.k_mem.specs.Calls.{load_of, store_of, stored, shift_of, order_of, same_of}
use Rattle.k_ending.specs.declared.ending.Trap.{Trap}
use Rattle.k_ending.specs.declared.ending.Trap.TheVariants as trap
use Rattle.k_ending.specs.Traps.{trap_of}
use Rattle.k_world.specs.declared.act.Act.{Act}
use Rattle.k_world.specs.declared.act.Act.TheVariants as act
use Rattle.k_world.specs.declared.act.Chunk.{Chunk}
use Rattle.k_world.specs.declared.act.Chunk.TheVariants as chunk
use Rattle.k_world.specs.declared.act.Out.{Out}
use Rattle.k_world.specs.declared.act.Out.TheVariants as out
use Rattle.k_world.specs.declared.value.Value.{Value}
use Rattle.k_world.specs.declared.value.Value.TheVariants as held
use Rattle.k_world.specs.Worlds.{World}

-- what work gives: a value, or a trap
abbrev pub Given : Type 0
Given = Result Value Trap

-- an operand that is not set, or of the wrong sort
abbrev pub unset : {A : Type 0} → Result A Trap
unset = Err trap.Uninit

-- the trap of a call on the objects
abbrev pub trap_of_memory : MemTrap → Trap
trap_of_memory mem.Uninit = trap.Uninit
trap_of_memory mem.OutOfBounds = trap.OutOfBounds
trap_of_memory mem.PointerRange = trap.PointerRange
trap_of_memory mem.PointerOrder = trap.PointerOrder
trap_of_memory mem.Dangling = trap.Dangling
trap_of_memory mem.ReadOnly = trap.ReadOnly

-- what comes of a result, or its trap
abbrev pub then_given : {A B E : Type 0} → (E → Trap) → (A → B) → Result A E → Result B Trap
then_given trap_from f (Ok a) = Ok (f a)
then_given trap_from f (Err e) = Err (trap_from e)

-- the number that a value is
abbrev pub number_of : Value → Option ℤ
number_of (held.Number a) = Some a
number_of (held.Pointer p) = None

-- the pointer that a value is
abbrev pub pointer_of : Value → Option Pointer
pointer_of (held.Number a) = None
pointer_of (held.Pointer p) = Some p

-- the value, where there is one
abbrev pub one_value : List Value → Option Value
one_value (a ∷ []) = Some a
one_value _ = None

-- the values, where there are two
abbrev pub two_values : List Value → Option (Value × Value)
two_values (a ∷ b ∷ []) = Some (a, b)
two_values _ = None

-- both, where both are there
abbrev pub both : {A B : Type 0} → Option A → Option B → Option (A × B)
both None second = None
both (Some a) None = None
both (Some a) (Some b) = Some (a, b)

-- what f finds in a value that may not be there
abbrev pub in_one : {A : Type 0} → (Value → Option A) → Option Value → Option A
in_one f None = None
in_one f (Some a) = f a

-- what f and g find in two values that may not be there
abbrev pub in_two : {A B : Type 0} → (Value → Option A) → (Value → Option B) → Option (Value × Value) → Option (A × B)
in_two f g None = None
in_two f g (Some v) = both (f v.0) (g v.1)

-- the number, where the values are one number
abbrev pub one_number : List Value → Option ℤ
one_number values = in_one number_of (one_value values)

-- the numbers, where the values are two numbers
abbrev pub two_numbers : List Value → Option (ℤ × ℤ)
two_numbers values = in_two number_of number_of (two_values values)

-- the pointer, where the values are one pointer
abbrev pub one_pointer : List Value → Option Pointer
one_pointer values = in_one pointer_of (one_value values)

-- the pointer and the number, where the values are these
abbrev pub pointer_and_number : List Value → Option (Pointer × ℤ)
pointer_and_number values = in_two pointer_of number_of (two_values values)

-- the pointers, where the values are two pointers
abbrev pub two_pointers : List Value → Option (Pointer × Pointer)
two_pointers values = in_two pointer_of pointer_of (two_values values)

-- work on operands of the right sorts; others count as not set
abbrev pub given_by : {A : Type 0} → (A → Given) → Option A → Given
given_by f None = unset
given_by f (Some a) = f a

-- the kind to which the right operand of an operation is converted
abbrev pub right_kind : Bin → Kind → Kind
right_kind Shl kind = I64
right_kind Shr kind = I64
right_kind op kind = kind

-- a binary operation on numbers (C17 6.5.5 to 6.5.14)
abbrev pub binary_work : Bin → Kind → ℤ → ℤ → Given
binary_work op kind a b = then_given trap_of held.Number (value op kind (converted kind a) (converted (right_kind op kind) b))

-- a unary operation on a number (C17 6.5.3.3)
abbrev pub unary_work : Un → Kind → ℤ → Given
unary_work op kind a = then_given trap_of held.Number (unary_value op kind (converted kind a))

-- so many numbers are one element; 0 counts as 1
abbrev pub at_least_one : ℕ → ℕ
at_least_one zero = 1
at_least_one (suc n) = suc n

-- the numbers by which a pointer is moved
abbrev pub distance : Bool → ℕ → ℤ → ℤ
distance false scale n = n *ℤ pos (at_least_one scale)
distance true scale n = neg_ℤ (n *ℤ pos (at_least_one scale))

-- a pointer is moved (C17 6.5.6p8)
abbrev pub offset_work : Bool → ℕ → Memory → Pointer → ℤ → Given
offset_work minus scale m p n = then_given trap_of_memory held.Pointer (shift_of m p (distance minus scale n))

-- how two offsets compare (C17 6.5.8p5, 6.5.9p6)
abbrev pub compared : Bin → ℤ → Value
compared Lt d = held.Number (truth (int_lt d (pos 0)))
compared Le d = held.Number (truth (int_le d (pos 0)))
compared Gt d = held.Number (truth (int_lt (pos 0) d))
compared Ge d = held.Number (truth (int_le (pos 0) d))
compared op d = held.Number (truth (int_eq d (pos 0)))

-- two pointers are compared: for equality pointers to any two objects, by order those to one; another operator counts as `==`
abbrev pub compare_work : Bin → Memory → Pointer → Pointer → Given
compare_work Lt m p q = then_given trap_of_memory (compared Lt) (order_of m p q)
compare_work Le m p q = then_given trap_of_memory (compared Le) (order_of m p q)
compare_work Gt m p q = then_given trap_of_memory (compared Gt) (order_of m p q)
compare_work Ge m p q = then_given trap_of_memory (compared Ge) (order_of m p q)
compare_work Ne m p q = then_given trap_of_memory (λ same. held.Number (truth (not same))) (same_of m p q)
compare_work op m p q = then_given trap_of_memory (λ same. held.Number (truth same)) (same_of m p q)

-- the elements between two pointers (C17 6.5.6p9)
abbrev pub distance_work : ℕ → Memory → Pointer → Pointer → Given
distance_work scale m p q = then_given trap_of_memory (λ d. held.Number (int_div d (pos (at_least_one scale)))) (order_of m p q)

-- an element is read (C17 6.3.2.1p2)
abbrev pub load_work : Memory → Pointer → Given
load_work m p = then_given trap_of_memory (λ found. held.Number found.0) (load_of m p)

-- an element is set to a number
abbrev pub store_work : Memory → Pointer → ℤ → Given
store_work m p n = then_given trap_of_memory (λ element. held.Number n) (store_of m p)

-- C17 7.21.7.6: the next byte of the input, or -1 at its end
abbrev pub next_byte : List ℕ → Value
next_byte [] = held.Number (neg_ℤ (pos 1))
next_byte (b ∷ input) = held.Number (pos b)

-- the bytes of an argument, and those of what follows it
abbrev pub bytes_before : List ℕ → Result (List ℕ) Trap → Result (List ℕ) Trap
bytes_before bytes rest = then_given (λ t. t) (λ more. bytes ++ more) rest

-- the bytes that a conversion writes for a number
abbrev pub conversion_bytes : Chunk → ℤ → List ℕ
conversion_bytes (chunk.Bytes bytes) a = bytes
conversion_bytes chunk.Byte a = remainder U8 a ∷ []
conversion_bytes chunk.Decimal a = signed_decimal a
conversion_bytes chunk.Hex a = digits 16 false (remainder U64 a)

-- the bytes that a conversion writes for the next argument, which may be missing or no number, before those of the rest
abbrev pub argument_before : Chunk → Option ℤ → Result (List ℕ) Trap → Result (List ℕ) Trap
argument_before conversion None rest = unset
argument_before conversion (Some a) rest = bytes_before (conversion_bytes conversion a) rest

-- the first value
abbrev pub first_value : List Value → Option Value
first_value [] = None
first_value (v ∷ values) = Some v

-- the number that the first value is
abbrev pub first_number : List Value → Option ℤ
first_number values = in_one number_of (first_value values)

-- the values behind the first
abbrev pub behind_value : List Value → List Value
behind_value [] = []
behind_value (v ∷ values) = values

-- C17 7.21.6.1: the bytes of a format with its arguments, of which each conversion takes the next; an argument that is missing, or no
-- number, is not set
abbrev pub formatted : List Chunk → List Value → Result (List ℕ) Trap
formatted [] values = Ok []
formatted (chunk.Bytes bytes ∷ chunks) values = bytes_before bytes (formatted chunks values)
formatted (conversion ∷ chunks) values = argument_before conversion (first_number values) (formatted chunks (behind_value values))

-- the bytes that an output writes
abbrev pub written : Out → List Value → Result (List ℕ) Trap
written out.Byte values = argument_before chunk.Byte (first_number values) (Ok [])
written (out.Line bytes) values = Ok (bytes ++ 10 ∷ [])
written (out.Format chunks) values = formatted chunks values

-- the value of an output, by the bytes that it writes: the byte, 0, or their count (C17 7.21.6.1p14, 7.21.7.8p3, 7.21.7.9p3)
abbrev pub output_value : Out → List ℕ → Value
output_value out.Byte [] = held.Number (pos 0)
output_value out.Byte (b ∷ bytes) = held.Number (pos b)
output_value (out.Line line) bytes = held.Number (pos 0)
output_value (out.Format chunks) bytes = held.Number (pos (length bytes))

-- whether a number is other than 0
abbrev pub test_work : ℤ → Given
test_work a = Ok (held.Number (truth (not (is_zero a))))

-- the value of an act on the values of its operands, or its trap
unfoldable pub work : Act → List Value → World → Given
work (act.Binary op kind) values w = given_by (λ n. binary_work op kind n.0 n.1) (two_numbers values)
work (act.Unary op kind) values w = given_by (unary_work op kind) (one_number values)
work (act.Convert kind) values w = given_by (λ a. Ok (held.Number (converted kind a))) (one_number values)
work act.Move values w = given_by (λ v. Ok v) (one_value values)
work (act.Offset minus scale) values w = given_by (λ n. offset_work minus scale w.memory n.0 n.1) (pointer_and_number values)
work (act.PtrCompare op) values w = given_by (λ p. compare_work op w.memory p.0 p.1) (two_pointers values)
work (act.PtrDistance scale) values w = given_by (λ p. distance_work scale w.memory p.0 p.1) (two_pointers values)
work act.Load values w = given_by (load_work w.memory) (one_pointer values)
work act.Store values w = given_by (λ n. store_work w.memory n.0 n.1) (pointer_and_number values)
work act.Input values w = Ok (next_byte w.input)
work (act.Output what) values w = then_given (λ t. t) (output_value what) (written what values)
work act.Test values w = given_by test_work (one_number values)
work act.Call values w = Ok (held.Number (pos 0))

-- the element whose value was found
abbrev pub element_found : Result (ℤ × ℕ) MemTrap → Option ℕ
element_found (Ok found) = Some found.1
element_found (Err t) = None

-- the element that an access is to
abbrev pub element_or_none : Result ℕ MemTrap → Option ℕ
element_or_none (Ok element) = Some element
element_or_none (Err t) = None

-- the element that a load reads
abbrev pub element_read : Memory → Option Pointer → Option ℕ
element_read m None = None
element_read m (Some p) = element_found (load_of m p)

-- the element that a store writes
abbrev pub element_written : Memory → Option (Pointer × ℤ) → Option ℕ
element_written m None = None
element_written m (Some s) = element_or_none (store_of m s.0)

-- the element that an act reads or writes
unfoldable pub touched : Act → List Value → Memory → Option ℕ
touched act.Load values m = element_read m (one_pointer values)
touched act.Store values m = element_written m (pointer_and_number values)
touched _ values m = None

-- the rest of the input behind its next byte
abbrev pub behind_byte : List ℕ → List ℕ
behind_byte [] = []
behind_byte (b ∷ input) = input

-- an element's value came from this operation
abbrev pub with_origin : Option ℕ → ℕ → List (Option ℕ) → List (Option ℕ)
with_origin None number origins = origins
with_origin (Some element) number origins = slice_set origins element (Some number)

-- an element is set by the operation of this number
abbrev pub store_effect : ℕ → Option (Pointer × ℤ) → World → World
store_effect number None w = w
store_effect number (Some s) w = record w {
  memory = stored w.memory s.0 s.1;
  origins = with_origin (element_written w.memory (Some s)) number w.origins;
}

-- bytes are written
abbrev pub output_effect : ℕ → Result (List ℕ) Trap → World → World
output_effect number (Ok bytes) w = record w { out_cell = Some number; output = w.output ++ bytes }
output_effect number (Err t) w = w

-- what an act that has a value changes, as the operation of this number
unfoldable pub effect : Act → ℕ → List Value → World → World
effect (act.Binary op kind) number values w = w
effect (act.Unary op kind) number values w = w
effect (act.Convert kind) number values w = w
effect act.Move number values w = w
effect (act.Offset minus scale) number values w = w
effect (act.PtrCompare op) number values w = w
effect (act.PtrDistance scale) number values w = w
effect act.Load number values w = w
effect act.Store number values w = store_effect number (pointer_and_number values) w
effect act.Input number values w = record w { in_cell = Some number; input = behind_byte w.input }
effect (act.Output what) number values w = output_effect number (written what values) w
effect act.Test number values w = record w { control = Some number }
effect act.Call number values w = w

-- an entry that may not be there
abbrev pub origin_or_none : Option (Option ℕ) → Option ℕ
origin_or_none None = None
origin_or_none (Some origin) = origin

-- where the value of an element came from
abbrev pub origin_of : Option ℕ → List (Option ℕ) → Option ℕ
origin_of None origins = None
origin_of (Some element) origins = origin_or_none (slice_get origins element)

-- the source of the operand that the construct does not write, if it has one: of the element that is loaded, or of the cell IN or OUT
unfoldable pub hidden : Act → List Value → World → Option ℕ
hidden act.Load values w = origin_of (element_read w.memory (one_pointer values)) w.origins
hidden act.Input values w = w.in_cell
hidden (act.Output what) values w = w.out_cell
hidden _ values w = None
