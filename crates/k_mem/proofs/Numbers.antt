-- The laws on element numbers, over one call.
use Rattle.std.proofs.Common.{ℕ, ◌≡◌, ◌+◌, ◌<◌, ◌≤◌, List, [], ◌∷◌, ◌++◌, length, take, replicate, map, sum_by, Option, Some, None, Result, Ok, Err, ℤ, pos, refl, arith, sym, ap, inl, inr, ◌∙◌, eqb, cond, true, false}
use Rattle.std.specs.Option.{option_map}
use Rattle.std.proofs.Math.ListN.{length-set}
use Rattle.std.proofs.lemmas.Bool.Decides.{eqb_tells}
use Rattle.std.proofs.lemmas.List.{length-append, length-replicate, length-take-le}
use Rattle.std.proofs.lemmas.List.Sums.{sum_by-cons}
use Rattle.k_mem.specs.declared.fault.MemTrap.{MemTrap}
use Rattle.k_mem.specs.declared.pointer.Pointer.{Pointer}
use Rattle.k_mem.specs.Memory.{Object, Memory, object_of, live_elements, FollowOn}
use Rattle.k_mem.specs.Calls.{where_live, where_within, rewritten, with_rewritten, with_value, with_values, element_of, next_object}
use Rattle.k_mem.specs.Laws.{ElementsAreLive, ObjectsLieWithin, ElementsDiffer, KeepsOverPush, KeepsOverStore, KeepsOverFill, KeepsOverPop}
use Rattle.k_mem.proofs.Found.{with_number, where_live_is, within_is, found_before, found_oldest, found_rewritten, pushed_is}

-- how many elements an object has
abbrev pub size : Object → ℕ
size o = length o.elements

-- the element at an offset of the object of a number
abbrev element_at : List Object → ℕ → ℕ → Result ℕ MemTrap
element_at objects number offset = where_live (with_number objects number) (λ o. where_within (length o.elements) offset (Ok (o.first + offset)))

-- an object that is found among others that follow on lies among them
found_within : (objects : List Object) (start number : ℕ) (o : Object) → FollowOn start objects → with_number objects number ≡ Some o
    → (start ≤ o.first) × (o.first + length o.elements ≤ start + sum_by size objects)
found_within [] start number o follow found = absurd (cc)
found_within (x ∷ objects) start number o follow found =
    let total = sum_by-cons size x objects in
    elim (eqb_tells x.number number) [
      | inl same ↦
          let here = rw same.0 at found in
          let is : x ≡ o = cc here in
          let first : x.first ≡ o.first = ap (λ (y : Object). y.first) is in
          let len : length x.elements ≡ length o.elements = ap size is in
          (omega (arith, first, follow.0), omega (arith, first, len, follow.0, total))
      | inr other ↦
          let rest = found_within objects (start + length x.elements) number o follow.1 (rw other.0 at found) in
          (omega (arith, rest.0), omega (arith, rest.1, total))
    ]

-- all elements of an object are live ones
pub objects_lie_within : ObjectsLieWithin
objects_lie_within m number o laid found = omega (arith, (found_within m.live 0 number o laid.follow_on found).1)

-- an element's number lies among those of the objects it was found in
lies : (objects : List Object) (start number offset k : ℕ) → FollowOn start objects → element_at objects number offset ≡ Ok k
    → (start ≤ k) × (k < start + sum_by size objects)
lies objects start number offset k follow answer =
    let live = where_live_is (with_number objects number) (λ o. where_within (length o.elements) offset (Ok (o.first + offset))) k answer in
    let within = found_within objects start number live.0 follow live.1 in
    let here = within_is live.2 in
    (omega (arith, within.0, here.1), omega (arith, within.1, here.0, here.1))

-- an element's number is below the count of live elements
pub elements_are_live : ElementsAreLive
elements_are_live m at n laid answer = omega (arith, (lies m.live 0 at.object at.offset n laid.follow_on answer).1)

-- in objects one after another, one number is that of one element only
differ : (objects : List Object) (start a i b j k : ℕ) → FollowOn start objects → element_at objects a i ≡ Ok k → element_at objects b j ≡ Ok k
    → (a ≡ b) × (i ≡ j)
differ [] start a i b j k follow answer answer' = absurd (cc)
differ (o ∷ objects) start a i b j k follow answer answer' =
    let next = start + length o.elements in
    elim (eqb_tells o.number a) [
      | inl same ↦
          let here = within_is (rw same.0 at answer) in
          elim (eqb_tells o.number b) [
            | inl same' ↦ let here' = within_is (rw same'.0 at answer') in (omega (arith, same.1, same'.1), omega (arith, here.1, here'.1))
            | inr other' ↦
                let rest = lies objects next b j k follow.1 (rw other'.0 at answer') in
                absurd (omega (arith, here.0, here.1, follow.0, rest.0))
          ]
      | inr other ↦
          elim (eqb_tells o.number b) [
            | inl same' ↦
                let here' = within_is (rw same'.0 at answer') in
                let rest = lies objects next a i k follow.1 (rw other.0 at answer) in
                absurd (omega (arith, here'.0, here'.1, follow.0, rest.0))
            | inr other' ↦ differ objects next a i b j k follow.1 (rw other.0 at answer) (rw other'.0 at answer')
          ]
    ]

-- two pointers to the element of one number have one object and one offset
pub elements_differ : ElementsDiffer
elements_differ m a b n laid answer answer' = differ m.live 0 a.object a.offset b.object b.offset n laid.follow_on answer answer'

-- what an object answers on the element at an offset
abbrev element_in : ℕ → Object → Result ℕ MemTrap
element_in offset o = where_within (length o.elements) offset (Ok (o.first + offset))

-- an element keeps its number over a push
pub keeps_over_push : KeepsOverPush
keeps_over_push m m' start count at n pushed answer =
    let live = where_live_is (object_of m at.object) (element_in at.offset) n answer in
    let found : object_of m' at.object ≡ Some live.0 =
    ap (λ (objects : List Object). with_number objects at.object) (pushed_is m m' start count pushed).0
    ∙ found_before m.live (next_object m start count ∷ []) at.object live.0 live.1 in
    ap (λ (o : Option Object). where_live o (element_in at.offset)) found ∙ live.2

-- an element that is live after a pop had that number before it
pub keeps_over_pop : KeepsOverPop
keeps_over_pop m keep at n answer =
    let live = where_live_is (with_number (take keep m.live) at.object) (element_in at.offset) n answer in
    ap (λ (o : Option Object). where_live o (element_in at.offset)) (found_oldest m.live keep at.object live.0 live.1) ∙ live.2

-- a rewritten object has its first element
pub first_rewritten : (f : List (Option ℤ) → List (Option ℤ)) (to : ℕ) (o : Object) → (rewritten f to o).first ≡ o.first
first_rewritten f to o = elim (eqb o.number to) as (λ b. (let x : Object = cond b (record o { elements = f o.elements }) o in x.first) ≡ o.first)
    [ true ↦ refl | false ↦ refl ]

-- and as many elements, where f gives as many
pub length_rewritten : (f : List (Option ℤ) → List (Option ℤ)) (to : ℕ) (o : Object) → ((xs : List (Option ℤ)) → length (f xs) ≡ length xs)
    → length (rewritten f to o).elements ≡ length o.elements
length_rewritten f to o same = elim (eqb o.number to) as (λ b. length (let x : Object = cond b (record o { elements = f o.elements }) o in x.elements) ≡ length o.elements)
    [ true ↦ same o.elements | false ↦ refl ]

-- rewriting an object's elements changes no element's number
element_rewritten : (f : List (Option ℤ) → List (Option ℤ)) (to : ℕ) (m : Memory) (at : Pointer) → ((xs : List (Option ℤ)) → length (f xs) ≡ length xs)
    → element_of (with_rewritten f to m) at ≡ element_of m at
element_rewritten f to m at same =
    ap (λ (o : Option Object). where_live o (element_in at.offset)) (found_rewritten f to m.live at.object) ∙ each (object_of m at.object)
  where
    each : (found : Option Object) → where_live (option_map (rewritten f to) found) (element_in at.offset) ≡ where_live found (element_in at.offset)
    each None = refl
    each (Some o) =
        ap (λ (n : ℕ). where_within n at.offset (Ok ((rewritten f to o).first + at.offset))) (length_rewritten f to o same)
        ∙ ap (λ (n : ℕ). where_within (length o.elements) at.offset (Ok (n + at.offset))) (first_rewritten f to o)

-- as many elements have a value stored
pub length_with_value : (offset : ℕ) (v : ℤ) (xs : List (Option ℤ)) → length (with_value offset v xs) ≡ length xs
length_with_value offset v xs = length-set xs offset (Some v)

-- and as many have values set
pub length_with_values : (values : List ℤ) (xs : List (Option ℤ)) → length (with_values values xs) ≡ length xs
length_with_values values xs =
    let zeros = length-replicate {A = Option ℤ} (length xs) (Some (pos 0)) in
    let all = length-append (map (λ (v : ℤ). Some v) values) (replicate (length xs) (Some (pos 0))) in
    length-take-le (length xs) (map (λ (v : ℤ). Some v) values ++ replicate (length xs) (Some (pos 0))) (omega (arith, zeros, all))

-- an element keeps its number over a store
pub keeps_over_store : KeepsOverStore
keeps_over_store m to at v = element_rewritten (with_value to.offset v) to.object m at (length_with_value to.offset v)

-- an element keeps its number where an object's elements are set
pub keeps_over_fill : KeepsOverFill
keeps_over_fill m number values at = element_rewritten (with_values values) number m at (length_with_values values)
