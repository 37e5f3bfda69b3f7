-- Believed with the theorem on the top call.
-- What the calls on a program's objects answer, and the memory that they leave.
use Rattle.std.specs.Prelude.{ℕ, ⊤, ◌≡◌, ◌+◌, ◌^◌, ◌==◌, ◌&&◌, ◌||◌, nat_lt, nat_le, Bool, true, false, if◌then◌else◌, List, [], ◌∷◌, ◌++◌, length, take, map, replicate, slice_get, slice_set, Option, Some, None, Result, Ok, Err, ℤ, pos, negsuc, ◌+ℤ◌, ◌-ℤ◌}
use Rattle.std.specs.Int.{w8, cast_signed}
use Rattle.k_mem.specs.declared.pointer.Pointer.{Pointer}
use Rattle.k_mem.specs.declared.fault.MemTrap.{MemTrap}
use Rattle.k_mem.specs.declared.fault.MemTrap.TheVariants.{Uninit, OutOfBounds, PointerRange, PointerOrder, Dangling, ReadOnly}
use Rattle.k_mem.specs.declared.start.Start.{Start}
use Rattle.k_mem.specs.declared.start.Start.TheVariants.{Unset, Zero, Literal}
use Rattle.k_mem.specs.Memory.{Object, Memory, object_of, live_elements}

-- the answer of a live object; a pointer into a dead one dangles (C17 6.2.4p2)
abbrev pub where_live : {O A : Type 0} → Option O → (O → Result A MemTrap) → Result A MemTrap
where_live None answer = Err Dangling
where_live (Some o) answer = answer o

-- the answer at the offset of one of `len` elements (C17 6.5.6p8: the place one past the last isn't accessed)
abbrev pub where_within : {A : Type 0} → ℕ → ℕ → Result A MemTrap → Result A MemTrap
where_within len offset answer = if nat_lt offset len then answer else Err OutOfBounds

-- the number of the element pointed to, set or unset
abbrev pub element_of : Memory → Pointer → Result ℕ MemTrap
element_of m at =
    where_live (object_of m at.object) (λ o. where_within (length o.elements) at.offset (Ok (o.first + at.offset)))

-- what stands at an offset, read: the value and the element's number (C17 6.2.4p6, 6.7.9p10: an unset element has no value)
abbrev pub value_read : Option (Option ℤ) → ℕ → Result (ℤ × ℕ) MemTrap
value_read None element = Err OutOfBounds
value_read (Some None) element = Err Uninit
value_read (Some (Some v)) element = Ok (v, element)

-- the value of the element pointed to, and its number
abbrev pub load_of : Memory → Pointer → Result (ℤ × ℕ) MemTrap
load_of m at =
    where_live (object_of m at.object) (λ o. value_read (slice_get o.elements at.offset) (o.first + at.offset))

-- a write answers the element's number (C17 6.4.5p7: a literal's object isn't written)
abbrev pub store_of : Memory → Pointer → Result ℕ MemTrap
store_of m at = where_live (object_of m at.object) (λ o. where_within (length o.elements) at.offset
    (if o.writable then Ok (o.first + at.offset) else Err ReadOnly))

-- the object, with the elements that f makes of its own where it has that number
abbrev pub rewritten : (List (Option ℤ) → List (Option ℤ)) → ℕ → Object → Object
rewritten f number o = if o.number == number then record o { elements = f o.elements } else o

-- the memory with that object rewritten, in which nothing else has changed
abbrev pub with_rewritten : (List (Option ℤ) → List (Option ℤ)) → ℕ → Memory → Memory
with_rewritten f number m = record m { live = map (rewritten f number) m.live }

-- the elements with that value at that offset
abbrev pub with_value : ℕ → ℤ → List (Option ℤ) → List (Option ℤ)
with_value offset v elements = slice_set elements offset (Some v)

-- the memory after a write: the element pointed to has that value, and nothing else has changed
abbrev pub stored : Memory → Pointer → ℤ → Memory
stored m at v = with_rewritten (with_value at.offset v) at.object m

-- as many elements, set to the values and to 0 beyond them (C17 6.7.9p21); values past the last element are left out
abbrev pub with_values : List ℤ → List (Option ℤ) → List (Option ℤ)
with_values values elements = take (length elements) (map (λ v. Some v) values ++ replicate (length elements) (Some (pos 0)))

-- the elements of an object may be set, where it isn't a literal's
abbrev pub fill_of : Memory → ℕ → Result ⊤ MemTrap
fill_of m number = where_live (object_of m number) (λ o. if o.writable then Ok tt else Err ReadOnly)

-- the memory after that: the object's elements are set, and nothing else has changed
abbrev pub filled : Memory → ℕ → List ℤ → Memory
filled m number values = with_rewritten (with_values values) number m

-- the number of an object's first element, or that which it would have
abbrev pub first_of : Memory → ℕ → Result ℕ MemTrap
first_of m number = where_live (object_of m number) (λ o. Ok o.first)

-- how many elements an object has
abbrev pub length_of : Memory → ℕ → Result ℕ MemTrap
length_of m number = where_live (object_of m number) (λ o. Ok (length o.elements))

-- an offset of 0 to `len`, one past the last element
abbrev pub offset_within : ℕ → ℤ → Option ℕ
offset_within len (pos n) = if nat_le n len then Some n else None
offset_within len (negsuc n) = None

-- the pointer to that offset of that object
abbrev pub pointer_to : ℕ → Option ℕ → Result Pointer MemTrap
pointer_to object None = Err PointerRange
pointer_to object (Some offset) = Ok (record { object = object; offset = offset })

-- a pointer and a number of elements (C17 6.5.6p8)
abbrev pub shift_of : Memory → Pointer → ℤ → Result Pointer MemTrap
shift_of m at by = where_live (object_of m at.object)
    (λ o. pointer_to at.object (offset_within (length o.elements) (pos at.offset +ℤ by)))

-- the answer of two live objects
abbrev pub where_both_live : {O A : Type 0} → Option O → Option O → Result A MemTrap → Result A MemTrap
where_both_live a b answer = where_live a (λ _. where_live b (λ _. answer))

-- how many elements a lies after b, in one object
abbrev pub difference : Pointer → Pointer → Result ℤ MemTrap
difference a b = if a.object == b.object then Ok (pos a.offset -ℤ pos b.offset) else Err PointerOrder

-- the difference of two pointers (C17 6.5.6p9, 6.5.8p5)
abbrev pub order_of : Memory → Pointer → Pointer → Result ℤ MemTrap
order_of m a b = where_both_live (object_of m a.object) (object_of m b.object) (difference a b)

-- whether two pointers have one object and one offset
abbrev pub is_same : Pointer → Pointer → Bool
is_same a b = (a.object == b.object) && (a.offset == b.offset)

-- the comparison of two pointers (C17 6.5.9p6)
abbrev pub same_of : Memory → Pointer → Pointer → Result Bool MemTrap
same_of m a b = where_both_live (object_of m a.object) (object_of m b.object) (Ok (is_same a b))

-- the elements of a new object: a literal's are its bytes as signed 8-bit numbers
abbrev pub elements_at : Start → ℕ → List (Option ℤ)
elements_at Unset n = replicate n None
elements_at Zero n = replicate n (Some (pos 0))
elements_at (Literal bytes) n = map (λ byte. Some (cast_signed w8 byte)) bytes.now

-- a literal's object alone can't be written
abbrev pub is_writable : Start → Bool
is_writable Unset = true
is_writable Zero = true
is_writable (Literal bytes) = false

-- a literal has that many bytes
abbrev pub HasLength : Start → ℕ → Type 0
HasLength Unset n = Unit {0}
HasLength Zero n = Unit {0}
HasLength (Literal bytes) n = length bytes.now ≡ n

-- the object that is made next
abbrev pub next_object : Memory → Start → ℕ → Object
next_object m start n = record {
  number = m.made;
  first = live_elements m;
  writable = is_writable start;
  elements = elements_at start n;
}

-- whether n elements beside the live ones are too many, or as many objects were made as there are numbers for
abbrev pub is_over_limit : ℕ → ℕ → ℕ → Bool
is_over_limit live n made = nat_lt 4194304 (live + n) || nat_le (2 ^ 62) made

-- the memory with a new object of n elements; None past the limit
abbrev pub push_of : Memory → Start → ℕ → Option Memory
push_of m start n =
    if is_over_limit (live_elements m) n m.made then None
    else Some (record { live = m.live ++ next_object m start n ∷ []; made = m.made + 1 })

-- the memory with the oldest objects alone
abbrev pub popped : Memory → ℕ → Memory
popped m keep = record m { live = take keep m.live }
