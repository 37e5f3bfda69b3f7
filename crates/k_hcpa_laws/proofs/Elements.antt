-- The elements of live objects by their numbers: what a load reads, what is stored, filled, made and kept.
use Rattle.std.proofs.Common.{ℕ, zero, suc, ◌≡◌, ◌≢◌, ◌+◌, ◌-◌, ◌<◌, ◌≤◌, ◌⊎◌, ℤ, List, [], ◌∷◌, ◌++◌, length, map, take, replicate, sum_by, slice_get, Option, Some, None, Ok, Err, arith, refl, sym, ap, inl, inr, ◌∙◌}
use Rattle.std.specs.List.{fold}
use Rattle.std.specs.Option.{option_map}
use Rattle.std.specs.Prelude.{if◌then◌else◌}
use Rattle.std.proofs.lemmas.Bool.{cases_lt}
use Rattle.std.proofs.lemmas.Bool.Decides.{eqb_tells}
use Rattle.std.proofs.lemmas.List.{append_assoc, append-nil, length-append}
use Rattle.std.proofs.lemmas.List.Sums.{sum_by-cons}
use Rattle.std.proofs.lemmas.Option.{slice_get_within}
use Rattle.k_num.specs.declared.initial.Initial.{Initial}
use Rattle.k_mem.specs.declared.fault.MemTrap.TheVariants.{ReadOnly}
use Rattle.k_mem.specs.declared.pointer.Pointer.{Pointer}
use Rattle.k_mem.specs.declared.start.Start.TheVariants.{Unset}
use Rattle.k_mem.specs.Memory.{Object, Memory, FollowOn, IsLaidOut, Rise, object_of}
use Rattle.k_mem.specs.Calls.{first_of, filled, length_of, load_of, push_of, rewritten, store_of, stored, value_read, where_live, where_within, with_rewritten, with_value, with_values, next_object}
use Rattle.k_mem.proofs.Found.{found_rewritten, pushed_is, rewritten_here, rewritten_other, where_live_is, with_number, write_is}
use Rattle.k_mem.proofs.LaidOut.{laid_rewritten}
use Rattle.k_mem.proofs.Numbers.{first_rewritten, length_rewritten, length_with_value, length_with_values, size}
use Rattle.k_world.specs.Changes.{item_stored, memory_filled}
use Rattle.k_code.proofs.Kept.{get_first}
use Rattle.k_hcpa_meaning.specs.Locations.{elements_in}
use Rattle.k_hcpa_laws.proofs.Lists.{get_behind}

-- as many elements as the objects have
pub length-elements_in : (objects : List Object) → length (elements_in objects) ≡ sum_by size objects
length-elements_in [] = refl
length-elements_in (o ∷ objects) =
    omega (arith, length-append o.elements (elements_in objects), length-elements_in objects, sum_by-cons size o objects)

pub elements_in-append : (objects others : List Object) → elements_in (objects ++ others) ≡ elements_in objects ++ elements_in others
elements_in-append [] others = refl
elements_in-append (o ∷ objects) others =
    ap (λ (rest : List (Option ℤ)). o.elements ++ rest) (elements_in-append objects others)
    ∙ sym (append_assoc o.elements (elements_in objects) (elements_in others))

-- objects that follow on from here begin here or later
found_from : (objects : List Object) (start number : ℕ) (o : Object) → FollowOn start objects → with_number objects number ≡ Some o → start ≤ o.first
found_from [] start number o follow found = absurd (cc found)
found_from (x ∷ objects) start number o follow found = elim (eqb_tells x.number number) [
  | inl same ↦
      let here = rw same.0 at found in
      let is : x ≡ o = cc here in
      omega (arith, ap (λ (y : Object). y.first) is, follow.0)
  | inr other ↦
      let rest : start + length x.elements ≤ o.first = found_from objects (start + length x.elements) number o follow.1 (rw other.0 at found) in
      omega (arith, rest)
]

-- an element of an object stands among all elements, from its first on
pub element_stands : (objects : List Object) (start number : ℕ) (o : Object) (k i : ℕ) → FollowOn start objects → with_number objects number ≡ Some o
    → i < length o.elements → start + k ≡ o.first + i → slice_get (elements_in objects) k ≡ slice_get o.elements i
element_stands [] start number o k i follow found below at = absurd (cc found)
element_stands (x ∷ objects) start number o k i follow found below at = elim (eqb_tells x.number number) [
  | inl same ↦
      let here = rw same.0 at found in
      let is : x ≡ o = cc here in
      let number_is : k ≡ i = omega (arith, ap (λ (y : Object). y.first) is, follow.0, at) in
      let within : k < length x.elements = omega (arith, ap size is, below, number_is) in
      get_first x.elements (elements_in objects) k within
      ∙ ap (λ (n : ℕ). slice_get x.elements n) number_is
      ∙ ap (λ (y : Object). slice_get y.elements i) is
  | inr other ↦
      let from : start + length x.elements ≤ o.first = found_from objects (start + length x.elements) number o follow.1 (rw other.0 at found) in
      let rest : slice_get (elements_in objects) (k - length x.elements) ≡ slice_get o.elements i =
      element_stands objects (start + length x.elements) number o (k - length x.elements) i follow.1 (rw other.0 at found) below (omega arith) in
      get_behind x.elements (elements_in objects) k (k - length x.elements) (omega arith) ∙ rest
]

-- what was read
read_is : (slot : Option (Option ℤ)) (element : ℕ) (v : ℤ) (n : ℕ) → value_read slot element ≡ Ok (v, n) → (slot ≡ Some (Some v)) × (element ≡ n)
read_is None element v n is = absurd (cc is)
read_is (Some None) element v n is = absurd (cc is)
read_is (Some (Some x)) element v n is =
    let both : (x, element) ≡ (v, n) = cc is in
    (ap (λ (pair : ℤ × ℕ). Some (Some pair.0)) both, ap (λ (pair : ℤ × ℕ). pair.1) both)

-- an element that is loaded is set
pub loaded_stands : (m : Memory) (at : Pointer) (v : ℤ) (n : ℕ) → IsLaidOut m → load_of m at ≡ Ok (v, n)
    → slice_get (elements_in m.live) n ≡ Some (Some v)
loaded_stands m at v n laid loaded =
    let live = where_live_is (object_of m at.object) (λ (o : Object). value_read (slice_get o.elements at.offset) (o.first + at.offset)) (v, n) loaded in
    let read = read_is (slice_get live.0.elements at.offset) (live.0.first + at.offset) v n live.2 in
    let below : at.offset < length live.0.elements = slice_get_within live.0.elements at.offset (Some v) read.0 in
    element_stands m.live 0 at.object live.0 n at.offset laid.follow_on live.1 below (omega (arith, read.1)) ∙ read.0

module _ (f : List (Option ℤ) → List (Option ℤ)) (to : ℕ) (long : (xs : List (Option ℤ)) → length (f xs) ≡ length xs) where
  -- objects of higher numbers are left as they are
  above : (objects : List Object) (low made : ℕ) → to < low → Rise low objects made → map (rewritten f to) objects ≡ objects
  above [] low made less rise = refl
  above (x ∷ objects) low made less rise =
      let other : x.number ≢ to = λ same. omega (arith, rise.0) in
      λ i. rewritten_other f to x other i ∷ above objects (x.number + 1) made (omega (arith, rise.0)) rise.1 i

  -- where an object is rewritten, an element stays that f leaves, and that of each other object
  pub element_kept : (objects : List Object) (start low made : ℕ) (o : Object) (k : ℕ) → FollowOn start objects → Rise low objects made
      → with_number objects to ≡ Some o
      → ((i : ℕ) → start + k ≡ o.first + i → i < length o.elements → slice_get (f o.elements) i ≡ slice_get o.elements i)
      → slice_get (elements_in (map (rewritten f to) objects)) k ≡ slice_get (elements_in objects) k
  element_kept [] start low made o k follow rise found same = refl
  element_kept (x ∷ objects) start low made o k follow rise found same = elim (eqb_tells x.number to) [
    | inl here ↦
        let at = rw here.0 at found in
        let is : x ≡ o = cc at in
        let first : x.first ≡ o.first = ap (λ (y : Object). y.first) is in
        let head : (rewritten f to x).elements ≡ f x.elements = ap (λ (y : Object). y.elements) (rewritten_here f to x here.1) in
        let tail : map (rewritten f to) objects ≡ objects = above objects (x.number + 1) made (omega (arith, here.1)) rise.1 in
        ap (λ (xs : List (Option ℤ)). slice_get (xs ++ elements_in (map (rewritten f to) objects)) k) head
        ∙ ap (λ (ys : List Object). slice_get (f x.elements ++ elements_in ys) k) tail
        ∙ in_found x is first follow.0 (cases_lt k (length x.elements))
    | inr other ↦
        let head : rewritten f to x ≡ x = rewritten_other f to x other.1 in
        ap (λ (y : Object). slice_get (y.elements ++ elements_in (map (rewritten f to) objects)) k) head
        ∙ elim (cases_lt k (length x.elements)) [
          | inl before ↦
              get_first x.elements (elements_in (map (rewritten f to) objects)) k before ∙ sym (get_first x.elements (elements_in objects) k before)
          | inr behind ↦
              let rest : slice_get (elements_in (map (rewritten f to) objects)) (k - length x.elements) ≡ slice_get (elements_in objects) (k - length x.elements) =
              element_kept objects (start + length x.elements) (x.number + 1) made o (k - length x.elements) follow.1 rise.1 (rw other.0 at found)
              (λ i at_i. same i (omega arith)) in
              get_behind x.elements (elements_in (map (rewritten f to) objects)) k (k - length x.elements) (omega arith)
              ∙ rest
              ∙ sym (get_behind x.elements (elements_in objects) k (k - length x.elements) (omega arith))
        ]
  ]
    where
      in_found : (y : Object) → y ≡ o → y.first ≡ o.first → y.first ≡ start → (k < length y.elements) ⊎ (length y.elements ≤ k)
          → slice_get (f y.elements ++ elements_in objects) k ≡ slice_get (y.elements ++ elements_in objects) k
      in_found y is first at (inl before) =
          let below : k < length o.elements = omega (arith, ap size is, before) in
          get_first (f y.elements) (elements_in objects) k (omega (arith, long y.elements, before))
          ∙ ap (λ (z : Object). slice_get (f z.elements) k) is
          ∙ same k (omega (arith, first, at)) below
          ∙ sym (ap (λ (z : Object). slice_get z.elements k) is)
          ∙ sym (get_first y.elements (elements_in objects) k before)
      in_found y is first at (inr behind) =
          get_behind (f y.elements) (elements_in objects) k (k - length y.elements) (omega (arith, long y.elements))
          ∙ sym (get_behind y.elements (elements_in objects) k (k - length y.elements) (omega arith))

-- the element at an offset of an object in which another was set
set_other : (elements : List (Option ℤ)) (offset i : ℕ) (v : ℤ) → i ≢ offset → slice_get (with_value offset v elements) i ≡ slice_get elements i
set_other [] offset i v differs = refl
set_other (x ∷ elements) zero zero v differs = absurd (differs refl)
set_other (x ∷ elements) zero (suc i) v differs = refl
set_other (x ∷ elements) (suc offset) zero v differs = refl
set_other (x ∷ elements) (suc offset) (suc i) v differs = set_other elements offset i v (λ same. differs (omega (arith, same)))

-- a store leaves each other element as it is
pub stored_other : (m : Memory) (at : Pointer) (v : ℤ) (element k : ℕ) → IsLaidOut m → store_of m at ≡ Ok element → k ≢ element
    → slice_get (elements_in (stored m at v).live) k ≡ slice_get (elements_in m.live) k
stored_other m at v element k laid answer differs =
    let live = where_live_is (object_of m at.object) (λ (o : Object). where_within (length o.elements) at.offset (if o.writable then Ok (o.first + at.offset) else Err ReadOnly)) element answer in
    let number : live.0.first + at.offset ≡ element = (write_is live.0.writable (length live.0.elements) at.offset (live.0.first + at.offset) element live.2).1 in
    element_kept (with_value at.offset v) at.object (length_with_value at.offset v) m.live 0 0 m.made live.0 k laid.follow_on laid.rise live.1
    (λ i at_i below. set_other live.0.elements at.offset i v (λ same. differs (omega (arith, at_i, same, number))))

-- the object of a number lies there
pub record LiesAt (m : Memory) (object first count : ℕ) : Type 0 where
  pub laid : IsLaidOut m
  pub found : Object
  pub is : object_of m object ≡ Some found
  pub first_is : found.first ≡ first
  pub count_is : length found.elements ≡ count

-- and still where it is rewritten, which leaves each element outside it
pub rewritten_lies : (f : List (Option ℤ) → List (Option ℤ)) (long : (xs : List (Option ℤ)) → length (f xs) ≡ length xs)
    (m : Memory) (object first count : ℕ) → LiesAt m object first count → LiesAt (with_rewritten f object m) object first count
rewritten_lies f long m object first count lies = record {
  laid = laid_rewritten f object long m lies.laid;
  found = rewritten f object lies.found;
  is = found_rewritten f object m.live object ∙ ap (λ (o : Option Object). option_map (rewritten f object) o) lies.is;
  first_is = first_rewritten f object lies.found ∙ lies.first_is;
  count_is = length_rewritten f object lies.found long ∙ lies.count_is;
}

-- an element that is none of these
abbrev pub IsOutside : ℕ → ℕ → ℕ → Type 0
IsOutside first count k = (k < first) ⊎ (first + count ≤ k)

pub rewritten_outside : (f : List (Option ℤ) → List (Option ℤ)) (long : (xs : List (Option ℤ)) → length (f xs) ≡ length xs)
    (m : Memory) (object first count k : ℕ) → LiesAt m object first count → IsOutside first count k
    → slice_get (elements_in (with_rewritten f object m).live) k ≡ slice_get (elements_in m.live) k
rewritten_outside f long m object first count k lies outside =
    element_kept f object long m.live 0 0 m.made lies.found k lies.laid.follow_on lies.laid.rise lies.is
    (λ i at_i below. absurd (never i at_i below outside))
  where
    never : (i : ℕ) → 0 + k ≡ lies.found.first + i → i < length lies.found.elements → IsOutside first count k → ⊥
    never i at_i below (inl before) = omega (arith, lies.first_is)
    never i at_i below (inr behind) = omega (arith, lies.first_is, lies.count_is)

-- so does each item that is stored
items_outside : (object first count k : ℕ) (items : List Initial) (m : Memory) → LiesAt m object first count → IsOutside first count k
    → slice_get (elements_in (fold (item_stored object) m items).live) k ≡ slice_get (elements_in m.live) k
items_outside object first count k [] m lies outside = refl
items_outside object first count k (i ∷ items) m lies outside =
    items_outside object first count k items (item_stored object m i)
    (rewritten_lies (with_value i.element i.number) (length_with_value i.element i.number) m object first count lies) outside
    ∙ rewritten_outside (with_value i.element i.number) (length_with_value i.element i.number) m object first count k lies outside

-- where an object is filled, each element outside it stays
pub filled_outside : (m : Memory) (object first count k : ℕ) (items : List Initial) → LiesAt m object first count → IsOutside first count k
    → slice_get (elements_in (memory_filled m object items).live) k ≡ slice_get (elements_in m.live) k
filled_outside m object first count k items lies outside =
    items_outside object first count k items (filled m object [])
    (rewritten_lies (with_values []) (length_with_values []) m object first count lies) outside
    ∙ rewritten_outside (with_values []) (length_with_values []) m object first count k lies outside

-- an object whose first element and whose length are told lies there
pub lies_at : (m : Memory) (object first count : ℕ) → IsLaidOut m → first_of m object ≡ Ok first → length_of m object ≡ Ok count → LiesAt m object first count
lies_at m object first count laid from long =
    let live = where_live_is (object_of m object) (λ (o : Object). Ok o.first) first from in
    let same : Ok (length live.0.elements) ≡ Ok count = sym (ap (λ (found : Option Object). where_live found (λ o. Ok (length o.elements))) live.1) ∙ long in
    record { laid = laid; found = live.0; is = live.1; first_is = cc live.2; count_is = cc same }

-- a new object without values
pub pushed_elements : (m new : Memory) (count : ℕ) → push_of m Unset count ≡ Some new
    → elements_in new.live ≡ elements_in m.live ++ replicate count None
pushed_elements m new count pushed =
    ap (λ (objects : List Object). elements_in objects) (pushed_is m new Unset count pushed).0
    ∙ elements_in-append m.live (next_object m Unset count ∷ [])
    ∙ ap (λ (more : List (Option ℤ)). elements_in m.live ++ more) (append-nil (replicate count None))

-- the oldest objects have the first elements
pub popped_elements : (objects : List Object) (keep k : ℕ) (x : Option ℤ) → slice_get (elements_in (take keep objects)) k ≡ Some x
    → slice_get (elements_in objects) k ≡ Some x
popped_elements objects zero k x is = absurd (cc is)
popped_elements [] (suc keep) k x is = is
popped_elements (o ∷ objects) (suc keep) k x is = elim (cases_lt k (length o.elements)) [
  | inl before ↦ get_first o.elements (elements_in objects) k before ∙ sym (get_first o.elements (elements_in (take keep objects)) k before) ∙ is
  | inr behind ↦
      let rest : slice_get (elements_in objects) (k - length o.elements) ≡ Some x =
      popped_elements objects keep (k - length o.elements) x
      (sym (get_behind o.elements (elements_in (take keep objects)) k (k - length o.elements) (omega arith)) ∙ is) in
      get_behind o.elements (elements_in objects) k (k - length o.elements) (omega arith) ∙ rest
]
