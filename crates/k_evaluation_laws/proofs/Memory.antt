-- Objects hold numbers of their kinds behind each call on the memory.
use Rattle.std.proofs.Common.{◌≡◌, ℕ, zero, suc, ◌+◌, ◌≤◌, ◌<◌, ℤ, pos, negsuc, IsTrue, IfOk, FitsSigned, w64, Bool, true, false, if◌then◌else◌, List, [], ◌∷◌, ◌++◌, length, map, take, drop, replicate, slice_get, slice_set, Option, Some, None, Ok, Err, refl, sym, ◌∙◌, ap, subst, arith, inl, inr, ◌⊎◌, length-append}
use Rattle.std.specs.Prelude.{◌==◌, ◌+ℤ◌, ◌-ℤ◌, ◌<ℤ◌, int_div, nat_le}
use Rattle.std.specs.Int.{w8, cast_signed}
use Rattle.std.specs.List.{fold}
use Rattle.std.proofs.lemmas.Bool.{eqb-true}
use Rattle.std.proofs.lemmas.Bool.Decides.{eqb_tells, leb_tells}
use Rattle.std.proofs.lemmas.Int.{ints, quot_fits}
use Rattle.std.proofs.lemmas.List.{take-append-drop, length-map}
use Rattle.std.proofs.lemmas.Option.{same_Some}
use Rattle.k_num.specs.declared.initial.Initial.{Initial}
use Rattle.k_num.specs.declared.numbers.Kind.{Kind}
use Rattle.k_num.specs.declared.numbers.Kind.TheVariants.{I8, I64}
use Rattle.k_num.specs.Kind.{is_held}
use Rattle.k_num.proofs.KindLaws.{zero_held}
use Rattle.k_mem.specs.declared.fault.MemTrap.TheVariants.{PointerOrder}
use Rattle.k_mem.specs.declared.pointer.Pointer.{Pointer}
use Rattle.k_mem.specs.declared.start.Start.{Start}
use Rattle.k_mem.specs.declared.start.Start.TheVariants.{Unset, Zero, Literal}
use Rattle.k_mem.specs.Memory.{Object, Memory, object_of, live_elements}
use Rattle.k_mem.specs.Calls.{where_live, where_both_live, value_read, load_of, rewritten, with_value, with_values, stored, filled, pointer_to, offset_within, shift_of, difference, order_of, elements_at, is_over_limit, next_object}
use Rattle.k_mem.proofs.Found.{with_number, found_number}
use Rattle.k_mem.proofs.Grown.{length_made, within_limits}
use Rattle.k_mem.proofs.Numbers.{length_with_value, length_with_values}
use Rattle.k_world.specs.Acts.{at_least_one}
use Rattle.k_world.specs.Changes.{with_elements, object_made, string_object, string_made, item_stored, object_filled, objects_kept}
use Rattle.k_world.specs.WorldLaws.{AreBytes}
use Rattle.k_world.specs.Worlds.{World}
use Rattle.k_evaluation_laws.specs.Kinds.{PointsInto, AreNumbersOf, IsObjectOf, AreObjectsOf, IsRightWorld}
use Rattle.k_evaluation_laws.proofs.Slots.{grows_by, last_there, objects_later}

-- NUMBERS OF A KIND
pub numbers_set : (kind : Kind) (es : List (Option ℤ)) (n : ℕ) (z : ℤ) → IsTrue (is_held kind z) → AreNumbersOf kind es → AreNumbersOf kind (slice_set es n (Some z))
numbers_set kind [] n z one h = tt
numbers_set kind (None ∷ es) zero z one h = (one, h)
numbers_set kind (Some y ∷ es) zero z one h = (one, h.1)
numbers_set kind (None ∷ es) (suc n) z one h = numbers_set kind es n z one h
numbers_set kind (Some y ∷ es) (suc n) z one h = (h.0, numbers_set kind es n z one h.1)

numbers_read : (kind : Kind) (es : List (Option ℤ)) (n element : ℕ) → AreNumbersOf kind es → IfOk (value_read (slice_get es n) element) (λ found. IsTrue (is_held kind found.0))
numbers_read kind [] n element h = tt
numbers_read kind (None ∷ es) zero element h = tt
numbers_read kind (Some y ∷ es) zero element h = h.0
numbers_read kind (None ∷ es) (suc n) element h = numbers_read kind es n element h
numbers_read kind (Some y ∷ es) (suc n) element h = numbers_read kind es n element h.1

numbers_front : (kind : Kind) (xs ys : List (Option ℤ)) → AreNumbersOf kind (xs ++ ys) → AreNumbersOf kind xs
numbers_front kind [] ys h = tt
numbers_front kind (None ∷ xs) ys h = numbers_front kind xs ys h
numbers_front kind (Some z ∷ xs) ys h = (h.0, numbers_front kind xs ys h.1)

numbers_taken : (kind : Kind) (n : ℕ) (xs : List (Option ℤ)) → AreNumbersOf kind xs → AreNumbersOf kind (take n xs)
numbers_taken kind n xs h = numbers_front kind (take n xs) (drop n xs) (subst (AreNumbersOf kind) (sym (take-append-drop n xs)) h)

numbers_unset : (kind : Kind) (n : ℕ) → AreNumbersOf kind (replicate n None)
numbers_unset kind zero = tt
numbers_unset kind (suc n) = numbers_unset kind n

numbers_zero : (kind : Kind) (n : ℕ) → AreNumbersOf kind (replicate n (Some (pos 0)))
numbers_zero kind zero = tt
numbers_zero kind (suc n) = (zero_held kind, numbers_zero kind n)

char_held : (byte : ℕ) → IsTrue (is_held I8 (cast_signed w8 byte))
char_held byte = grind (arith, ints)

numbers_of_string : (bytes : List ℕ) → AreNumbersOf I8 (map (λ byte. Some (cast_signed w8 byte)) bytes)
numbers_of_string [] = tt
numbers_of_string (b ∷ bytes) = (char_held b, numbers_of_string bytes)

-- AN OBJECT THAT IS FOUND
found_object : (kinds : List Kind) (objects : List Object) (number : ℕ) (o : Object) → AreObjectsOf kinds objects → with_number objects number ≡ Some o → IsObjectOf kinds o
found_object kinds [] number o h found = absurd cc
found_object kinds (x ∷ objects) number o h found = elim (eqb_tells x.number number) [
  | inl same ↦
      let here = rw same.0 at found in
      let is : x ≡ o = cc here in
      subst (IsObjectOf kinds) is h.0
  | inr other ↦ found_object kinds objects number o h.1 (rw other.0 at found)
]

-- its kind is the one that its number has
kind_found : (kinds : List Kind) (o : Object) (number : ℕ) (kind : Kind) (h : IsObjectOf kinds o) → o.number ≡ number → slice_get kinds number ≡ Some kind → h.kind ≡ kind
kind_found kinds o number kind h same known = same_Some h.kind kind (sym h.known ∙ ap (slice_get kinds) same ∙ known)

-- a load reads a number of the kind
pub load_right : (kinds : List Kind) (m : Memory) (p : Pointer) (kind : Kind) → AreObjectsOf kinds m.live → slice_get kinds p.object ≡ Some kind
    → IfOk (load_of m p) (λ found. IsTrue (is_held kind found.0))
load_right kinds m p kind h known = by (object_of m p.object) refl
  where
    by : (o : Option Object) → object_of m p.object ≡ o → IfOk (where_live o (λ o. value_read (slice_get o.elements p.offset) (o.first + p.offset))) (λ found. IsTrue (is_held kind found.0))
    by None is = tt
    by (Some o) is =
        let here : IsObjectOf kinds o = found_object kinds m.live p.object o h is in
        subst (λ (k : Kind). IfOk (value_read (slice_get o.elements p.offset) (o.first + p.offset)) (λ found. IsTrue (is_held k found.0)))
        (kind_found kinds o p.object kind here (found_number m.live p.object o is) known) (numbers_read here.kind o.elements p.offset (o.first + p.offset) here.numbers)

-- a pointer that is moved is one into the same object
within_object : (kinds : List Kind) (object : ℕ) (kind : Kind) (len : ℕ) (z : ℤ) → slice_get kinds object ≡ Some kind → len ≤ 4194304
    → IfOk (pointer_to object (offset_within len z)) (PointsInto kinds kind)
within_object kinds object kind len (negsuc n) known small = tt
within_object kinds object kind len (pos n) known small = by (nat_le n len) (leb_tells n len)
  where
    by : (b : Bool) → ((b ≡ true) × (n ≤ len)) ⊎ ((b ≡ false) × (len < n)) → IfOk (pointer_to object (if b then Some n else None)) (PointsInto kinds kind)
    by true (inl h) = let below : n ≤ len = h.1 in (known, omega (arith, below, small))
    by true (inr h) = absurd (cc h.0)
    by false h = tt

pub shift_right : (kinds : List Kind) (m : Memory) (p : Pointer) (d : ℤ) (kind : Kind) → AreObjectsOf kinds m.live → slice_get kinds p.object ≡ Some kind
    → IfOk (shift_of m p d) (PointsInto kinds kind)
shift_right kinds m p d kind h known = by (object_of m p.object) refl
  where
    by : (o : Option Object) → object_of m p.object ≡ o
        → IfOk (where_live o (λ o. pointer_to p.object (offset_within (length o.elements) (pos p.offset +ℤ d)))) (PointsInto kinds kind)
    by None is = tt
    by (Some o) is = within_object kinds p.object kind (length o.elements) (pos p.offset +ℤ d) known (found_object kinds m.live p.object o h is).small

-- the elements between two pointers are a 64-bit number
long_held : (z : ℤ) → FitsSigned w64 z → IsTrue (is_held I64 z)
long_held z fits = grind (arith, ints)

scaled : (scale : ℕ) → pos 0 <ℤ pos (at_least_one scale)
scaled zero = grind (arith, ints)
scaled (suc n) = grind (arith, ints)

difference_held : (a b scale : ℕ) → a ≤ 4194304 → b ≤ 4194304 → IsTrue (is_held I64 (int_div (pos a -ℤ pos b) (pos (at_least_one scale))))
difference_held a b scale first second =
    let fits : FitsSigned w64 (pos a -ℤ pos b) = grind (arith, ints) in
    long_held (int_div (pos a -ℤ pos b) (pos (at_least_one scale))) (quot_fits w64 (pos a -ℤ pos b) (pos (at_least_one scale)) fits (scaled scale))

pub order_right : (m : Memory) (p q : Pointer) (scale : ℕ) → p.offset ≤ 4194304 → q.offset ≤ 4194304
    → IfOk (order_of m p q) (λ d. IsTrue (is_held I64 (int_div d (pos (at_least_one scale)))))
order_right m p q scale first second = live (object_of m p.object) (object_of m q.object)
  where
    by : (b : Bool) → IfOk (if b then Ok (pos p.offset -ℤ pos q.offset) else Err PointerOrder) (λ d. IsTrue (is_held I64 (int_div d (pos (at_least_one scale)))))
    by true = difference_held p.offset q.offset scale first second
    by false = tt

    live : (a b : Option Object) → IfOk (where_both_live a b (difference p q)) (λ d. IsTrue (is_held I64 (int_div d (pos (at_least_one scale)))))
    live None b = tt
    live (Some a) None = tt
    live (Some a) (Some b) = by (p.object == q.object)

-- OBJECTS THAT ARE REWRITTEN
rewritten_one : (kinds : List Kind) (f : List (Option ℤ) → List (Option ℤ)) (number : ℕ) (kind : Kind) (o : Object) → slice_get kinds number ≡ Some kind
    → ((es : List (Option ℤ)) → AreNumbersOf kind es → AreNumbersOf kind (f es)) → ((es : List (Option ℤ)) → length (f es) ≡ length es)
    → IsObjectOf kinds o → IsObjectOf kinds (rewritten f number o)
rewritten_one kinds f number kind o known each long h = by (o.number == number) refl
  where
    by : (b : Bool) → (o.number == number) ≡ b → IsObjectOf kinds (if b then record o { elements = f o.elements } else o)
    by true is =
        let same : h.kind ≡ kind = kind_found kinds o number kind h (eqb-true o.number number is) known in
        record {
          kind = h.kind;
          known = h.known;
          numbers = subst (λ (k : Kind). AreNumbersOf k (f o.elements)) (sym same) (each o.elements (subst (λ (k : Kind). AreNumbersOf k o.elements) same h.numbers));
          small = subst (λ (n : ℕ). n ≤ 4194304) (sym (long o.elements)) h.small;
        }
    by false is = h

pub rewritten_right : (kinds : List Kind) (f : List (Option ℤ) → List (Option ℤ)) (number : ℕ) (kind : Kind) (objects : List Object) → slice_get kinds number ≡ Some kind
    → ((es : List (Option ℤ)) → AreNumbersOf kind es → AreNumbersOf kind (f es)) → ((es : List (Option ℤ)) → length (f es) ≡ length es)
    → AreObjectsOf kinds objects → AreObjectsOf kinds (map (rewritten f number) objects)
rewritten_right kinds f number kind [] known each long h = tt
rewritten_right kinds f number kind (o ∷ objects) known each long h =
    (rewritten_one kinds f number kind o known each long h.0, rewritten_right kinds f number kind objects known each long h.1)

-- a store of a number of the kind
pub store_right : (kinds : List Kind) (m : Memory) (p : Pointer) (z : ℤ) (kind : Kind) → AreObjectsOf kinds m.live → slice_get kinds p.object ≡ Some kind → IsTrue (is_held kind z)
    → AreObjectsOf kinds (stored m p z).live
store_right kinds m p z kind h known held =
    rewritten_right kinds (with_value p.offset z) p.object kind m.live known (λ es numbers. numbers_set kind es p.offset z held numbers) (length_with_value p.offset z) h

-- ITEMS of a kind
abbrev pub AreItemsOf : Kind → List Initial → Type 0
AreItemsOf kind [] = Unit {0}
AreItemsOf kind (i ∷ items) = IsTrue (is_held kind i.number) × AreItemsOf kind items

items_right : (kinds : List Kind) (object : ℕ) (kind : Kind) (m : Memory) (items : List Initial) → AreObjectsOf kinds m.live → slice_get kinds object ≡ Some kind → AreItemsOf kind items
    → AreObjectsOf kinds (fold (item_stored object) m items).live
items_right kinds object kind m [] h known held = h
items_right kinds object kind m (i ∷ items) h known held =
    items_right kinds object kind (item_stored object m i) items (store_right kinds m (record { object = object; offset = i.element }) i.number kind h known held.0) known held.1

items_made : (object : ℕ) (m : Memory) (items : List Initial) → (fold (item_stored object) m items).made ≡ m.made
items_made object m [] = refl
items_made object m (i ∷ items) = items_made object (item_stored object m i) items

pub filled_right : (kinds : List Kind) (w : World) (object : ℕ) (kind : Kind) (items : List Initial) → IsRightWorld kinds w → slice_get kinds object ≡ Some kind → AreItemsOf kind items
    → IsRightWorld kinds (object_filled w object items)
filled_right kinds w object kind items h known held = record {
  objects = items_right kinds object kind (filled w.memory object []) items
      (rewritten_right kinds (with_values []) object kind w.memory.live known (λ es numbers. numbers_taken kind (length es) (replicate (length es) (Some (pos 0))) (numbers_zero kind (length es)))
      (length_with_values []) h.objects)
      known held;
  made = h.made ∙ sym (items_made object (filled w.memory object []) items);
  input = h.input;
}

-- OBJECTS THAT ARE MADE
pub objects_both : (kinds : List Kind) (xs ys : List Object) → AreObjectsOf kinds xs → AreObjectsOf kinds ys → AreObjectsOf kinds (xs ++ ys)
objects_both kinds [] ys h k = k
objects_both kinds (x ∷ xs) ys h k = (h.0, objects_both kinds xs ys h.1 k)

objects_front : (kinds : List Kind) (xs ys : List Object) → AreObjectsOf kinds (xs ++ ys) → AreObjectsOf kinds xs
objects_front kinds [] ys h = tt
objects_front kinds (x ∷ xs) ys h = (h.0, objects_front kinds xs ys h.1)

-- this, where a world is there
abbrev pub IfMade : (World → Type 0) → Option World → Type 0
IfMade P None = Unit {0}
IfMade P (Some w) = P w

-- an object begins unset or with zeros
abbrev pub IsPlain : Start → Type 0
IsPlain Unset = Unit {0}
IsPlain Zero = Unit {0}
IsPlain (Literal bytes) = ⊥

start_numbers : (kind : Kind) (start : Start) (n : ℕ) → IsPlain start → AreNumbersOf kind (elements_at start n)
start_numbers kind Unset n plain = numbers_unset kind n
start_numbers kind Zero n plain = numbers_zero kind n
start_numbers kind (Literal bytes) n plain = absurd plain

start_length : (start : Start) (n : ℕ) → IsPlain start → length (elements_at start n) ≡ n
start_length Unset n plain = length_made Unset n tt
start_length Zero n plain = length_made Zero n tt
start_length (Literal bytes) n plain = absurd plain

-- a world with one object more, whose kind is known from now on
one_more : (kinds : List Kind) (w : World) (kind : Kind) (o : Object) (after : World) → IsRightWorld kinds w → o.number ≡ w.memory.made → AreNumbersOf kind o.elements
    → length o.elements ≤ 4194304 → after.memory.live ≡ w.memory.live ++ o ∷ [] → after.memory.made ≡ w.memory.made + 1 → after.input ≡ w.input
    → IsRightWorld (kinds ++ kind ∷ []) after
one_more kinds w kind o after h numbered numbers small lives counts same =
    let known : slice_get (kinds ++ kind ∷ []) o.number ≡ Some kind = ap (slice_get (kinds ++ kind ∷ [])) (numbered ∙ sym h.made) ∙ last_there kinds kind in
    let one : IsObjectOf (kinds ++ kind ∷ []) o = record { kind = kind; known = known; numbers = numbers; small = small } in
    let len : length (kinds ++ kind ∷ []) ≡ length kinds + 1 = length-append kinds (kind ∷ []) in
    let before : length kinds ≡ w.memory.made = h.made in
    record {
      objects = subst (AreObjectsOf (kinds ++ kind ∷ [])) (sym lives)
          (objects_both (kinds ++ kind ∷ []) w.memory.live (o ∷ []) (objects_later kinds (kinds ++ kind ∷ []) w.memory.live (grows_by kinds (kind ∷ [])) h.objects) (one, tt));
      made = omega (arith, len, before, counts);
      input = subst AreBytes (sym same) h.input;
    }

pub object_right : (kinds : List Kind) (w : World) (start : Start) (count : ℕ) (kind : Kind) → IsPlain start → IsRightWorld kinds w
    → IfMade (IsRightWorld (kinds ++ kind ∷ [])) (object_made w start count)
object_right kinds w start count kind plain h = by (is_over_limit (live_elements w.memory) count w.memory.made) refl
  where
    by : (b : Bool) → is_over_limit (live_elements w.memory) count w.memory.made ≡ b
        → IfMade (IsRightWorld (kinds ++ kind ∷ [])) (with_elements count w (if b then None else Some (record { live = w.memory.live ++ next_object w.memory start count ∷ []; made = w.memory.made + 1 })))
    by true is = tt
    by false is =
        let few : live_elements w.memory + count ≤ 4194304 = (within_limits (live_elements w.memory) count w.memory.made is).0 in
        let len : length (elements_at start count) ≡ count = start_length start count plain in
        one_more kinds w kind (next_object w.memory start count) _ h refl (start_numbers kind start count plain) (omega (arith, few, len)) refl refl refl

pub string_right : (kinds : List Kind) (w : World) (bytes : List ℕ) → IsRightWorld kinds w → IfMade (IsRightWorld (kinds ++ I8 ∷ [])) (string_made w bytes)
string_right kinds w bytes h = by (is_over_limit (live_elements w.memory) (length bytes) w.memory.made) refl
  where
    by : (b : Bool) → is_over_limit (live_elements w.memory) (length bytes) w.memory.made ≡ b
        → IfMade (IsRightWorld (kinds ++ I8 ∷ []))
        (with_elements (length bytes) w (if b then None else Some (record { live = w.memory.live ++ string_object w.memory bytes ∷ []; made = w.memory.made + 1 })))
    by true is = tt
    by false is =
        let few : live_elements w.memory + length bytes ≤ 4194304 = (within_limits (live_elements w.memory) (length bytes) w.memory.made is).0 in
        let len : length (map (λ byte. Some (cast_signed w8 byte)) bytes) ≡ length bytes = length-map bytes (λ byte. Some (cast_signed w8 byte)) in
        one_more kinds w I8 (string_object w.memory bytes) _ h refl (numbers_of_string bytes) (omega (arith, few, len)) refl refl refl

-- OBJECTS THAT DIE
pub kept_right : (kinds : List Kind) (w : World) (keep : ℕ) → IsRightWorld kinds w → IsRightWorld kinds (objects_kept w keep)
kept_right kinds w keep h = record {
  objects = objects_front kinds (take keep w.memory.live) (drop keep w.memory.live) (subst (AreObjectsOf kinds) (sym (take-append-drop keep w.memory.live)) h.objects);
  made = h.made;
  input = h.input;
}
