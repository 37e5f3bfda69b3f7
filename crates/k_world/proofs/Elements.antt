-- The elements of an object are live ones, and how many are live behind each change.
use Rattle.std.proofs.Common.{ℕ, ◌≡◌, ◌+◌, ◌<◌, ◌≤◌, ℤ, List, [], ◌∷◌, length, sum_by, slice_get, Option, Some, None, Ok, arith, refl, ap, subst, ◌∙◌}
use Rattle.std.specs.List.{fold}
use Rattle.std.proofs.lemmas.List.Sums.{sum_by-take-le, sum_by_push}
use Rattle.std.proofs.lemmas.Option.{slice_get_within}
use Rattle.k_num.specs.declared.initial.Initial.{Initial}
use Rattle.k_mem.specs.declared.pointer.Pointer.{Pointer}
use Rattle.k_mem.specs.declared.start.Start.{Start}
use Rattle.k_mem.specs.Memory.{Object, Memory, IsLaidOut, object_of, live_elements}
use Rattle.k_mem.specs.Calls.{HasLength, first_of, length_of, where_live, value_read, load_of, store_of, stored, filled, with_values, next_object, popped, push_of}
use Rattle.k_mem.proofs.Found.{pushed_is, where_live_is}
use Rattle.k_mem.proofs.Grown.{length_made}
use Rattle.k_mem.proofs.LaidOut.{size_rewritten}
use Rattle.k_mem.proofs.Numbers.{size, objects_lie_within, length_with_values}
use Rattle.k_mem.proofs.Values.{loads_last_stored}
use Rattle.k_world.specs.Changes.{item_stored, memory_filled}
use Rattle.k_world.proofs.Effects.{live_stored}

-- the same of an object that was looked for
within : (m : Memory) (number first count : ℕ) (found : Option Object) → IsLaidOut m → object_of m number ≡ found
    → where_live found (λ o. Ok o.first) ≡ Ok first → where_live found (λ o. Ok (length o.elements)) ≡ Ok count
    → first + count ≤ live_elements m
within m number first count None laid is at long = absurd (cc at)
within m number first count (Some o) laid is at long =
    let here : o.first ≡ first = cc at in
    let size : length o.elements ≡ count = cc long in
    let live : o.first + length o.elements ≤ live_elements m = objects_lie_within m number o laid is in
    omega (arith, here, size, live)

-- an object's elements end among the live ones
pub elements_within : (m : Memory) (number first count : ℕ) → IsLaidOut m → first_of m number ≡ Ok first → length_of m number ≡ Ok count
    → first + count ≤ live_elements m
elements_within m number first count laid at long = within m number first count (object_of m number) laid refl at long

-- a value that was read stands in that element
read_is : (slot : Option (Option ℤ)) (element : ℕ) (v : ℤ) (n : ℕ) → value_read slot element ≡ Ok (v, n) → (slot ≡ Some (Some v)) × (element ≡ n)
read_is None element v n is = absurd (cc is)
read_is (Some None) element v n is = absurd (cc is)
read_is (Some (Some x)) element v n is =
    let both : (x, element) ≡ (v, n) = cc is in
    (ap (λ (pair : ℤ × ℕ). Some (Some pair.0)) both, ap (λ (pair : ℤ × ℕ). pair.1) both)

-- an element that is loaded is a live one
pub loaded_within : (m : Memory) (at : Pointer) (v : ℤ) (n : ℕ) → IsLaidOut m → load_of m at ≡ Ok (v, n) → n < live_elements m
loaded_within m at v n laid loaded =
    let live = where_live_is (object_of m at.object) (λ o. value_read (slice_get o.elements at.offset) (o.first + at.offset)) (v, n) loaded in
    let read = read_is (slice_get live.0.elements at.offset) (live.0.first + at.offset) v n live.2 in
    let below : at.offset < length live.0.elements = slice_get_within live.0.elements at.offset (Some v) read.0 in
    let end : live.0.first + length live.0.elements ≤ live_elements m = objects_lie_within m at.object live.0 laid live.1 in
    omega (arith, read.1, below, end)

-- and so is one that is stored, and as many are live as before
pub stored_within : (m new : Memory) (at : Pointer) (v : ℤ) (n : ℕ) → IsLaidOut new → new ≡ stored m at v → store_of m at ≡ Ok n
    → (n < live_elements m) × (live_elements new ≡ live_elements m)
stored_within m new at v n laid is answer =
    let as_many = live_stored m at v in
    let loaded = loaded_within (stored m at v) at v n (subst IsLaidOut is laid) (loads_last_stored m at v n answer) in
    (omega (arith, loaded, as_many), ap (λ (after : Memory). live_elements after) is ∙ as_many)

-- where items are stored there are as many elements
items_live : (object : ℕ) (m : Memory) (items : List Initial) → live_elements (fold (item_stored object) m items) ≡ live_elements m
items_live object m [] = refl
items_live object m (i ∷ items) =
    items_live object (item_stored object m i) items ∙ live_stored m (record { object = object; offset = i.element }) i.number

-- and where an object is filled
pub live_filled : (m : Memory) (object : ℕ) (items : List Initial) → live_elements (memory_filled m object items) ≡ live_elements m
live_filled m object items =
    items_live object (filled m object []) items ∙ size_rewritten (with_values []) object (length_with_values []) m.live

-- a new object has so many more
pub live_pushed : (m new : Memory) (start : Start) (count : ℕ) → HasLength start count → push_of m start count ≡ Some new
    → live_elements new ≡ live_elements m + count
live_pushed m new start count long is =
    ap (λ (objects : List Object). sum_by size objects) (pushed_is m new start count is).0
    ∙ sum_by_push size m.live (next_object m start count)
    ∙ ap (λ (more : ℕ). live_elements m + more) (length_made start count long)

-- where objects die there are no more
pub live_popped : (m : Memory) (keep : ℕ) → live_elements (popped m keep) ≤ live_elements m
live_popped m keep = sum_by-take-le size m.live keep
