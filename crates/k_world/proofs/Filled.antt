-- An object that may be written, whose elements are set one after another.
use Rattle.std.proofs.Common.{ℕ, ◌≡◌, ◌+◌, ◌<◌, ◌≤◌, Bool, true, false, cond, List, [], ◌∷◌, length, map, drop, get_or, Option, Some, None, Result, Ok, Err, ℤ, nat_lt, refl, arith, sym, ap, inl, inr, ◌∙◌, add-one, drop-cons}
use Rattle.std.specs.Bool.{⊤}
use Rattle.std.specs.List.{fold}
use Rattle.std.specs.Option.{option_map}
use Rattle.std.proofs.lemmas.Bool.Decides.{eqb_tells}
use Rattle.std.proofs.lemmas.List.{set_past}
use Rattle.k_num.specs.declared.initial.Initial.{Initial}
use Rattle.k_mem.specs.declared.fault.MemTrap.{MemTrap}
use Rattle.k_mem.specs.declared.fault.MemTrap.TheVariants.{OutOfBounds, ReadOnly}
use Rattle.k_mem.specs.declared.pointer.Pointer.{Pointer}
use Rattle.k_mem.specs.Memory.{Object, Memory, IsLaidOut, Rise}
use Rattle.k_mem.specs.Calls.{where_live, where_within, rewritten, with_rewritten, with_value, with_values, fill_of, filled, store_of, stored}
use Rattle.k_mem.proofs.Found.{with_number, found_risen, found_rewritten, rewritten_here, rewritten_other}
use Rattle.k_world.specs.Changes.{item_stored}

-- whether an object may be written
abbrev writable_in : Object → Result ⊤ MemTrap
writable_in o = cond o.writable (Ok tt) (Err ReadOnly)

-- a rewritten object may be written as before
writable_rewritten : (f : List (Option ℤ) → List (Option ℤ)) (to : ℕ) (o : Object) → writable_in (rewritten f to o) ≡ writable_in o
writable_rewritten f to o = elim (eqb_tells o.number to) [
  | inl here ↦ rw here.0 refl
  | inr other ↦ rw other.0 refl
]

-- an object whose elements are set may be written as before
fill_rewritten : (f : List (Option ℤ) → List (Option ℤ)) (to : ℕ) (m : Memory) (number : ℕ)
    → fill_of (with_rewritten f to m) number ≡ fill_of m number
fill_rewritten f to m number =
    ap (λ (o : Option Object). where_live o writable_in) (found_rewritten f to m.live number) ∙ each (with_number m.live number)
  where
    each : (found : Option Object) → where_live (option_map (rewritten f to) found) writable_in ≡ where_live found writable_in
    each None = refl
    each (Some o) = writable_rewritten f to o

pub filled_writable : (m : Memory) (number : ℕ) (values : List ℤ) → fill_of m number ≡ Ok tt → fill_of (filled m number values) number ≡ Ok tt
filled_writable m number values may = fill_rewritten (with_values values) number m number ∙ may

pub stored_writable : (m : Memory) (at : Pointer) (v : ℤ) (number : ℕ) → fill_of m number ≡ Ok tt → fill_of (stored m at v) number ≡ Ok tt
stored_writable m at v number may = fill_rewritten (with_value at.offset v) at.object m number ∙ may

-- where no object has the number, none is rewritten
none_rewritten : (f : List (Option ℤ) → List (Option ℤ)) (to : ℕ) (objects : List Object) → with_number objects to ≡ None
    → map (rewritten f to) objects ≡ objects
none_rewritten f to [] none = refl
none_rewritten f to (o ∷ objects) none = elim (eqb_tells o.number to) [
  | inl here ↦ absurd (let found = rw here.0 at none in cc)
  | inr other ↦
      let rest : map (rewritten f to) objects ≡ objects = none_rewritten f to objects (rw other.0 at none) in
      let same : rewritten f to o ≡ o = rewritten_other f to o other.1 in
      λ i. same i ∷ rest i
]

-- numbers that rise from above this one are others
none_above : (objects : List Object) (low made to : ℕ) → Rise low objects made → to < low → with_number objects to ≡ None
none_above objects low made to rise below = go (with_number objects to) refl
  where
    go : (found : Option Object) → with_number objects to ≡ found → with_number objects to ≡ None
    go None is = is
    go (Some o) is = absurd (omega (arith, (found_risen objects low made to o rise is).0, below))

-- what may be written refuses no write within it
outside : (within writable : Bool) (n : ℕ) (t : MemTrap) → cond writable (Ok (tt {0})) (Err ReadOnly) ≡ Ok tt
    → cond within (cond writable (Ok n) (Err ReadOnly)) (Err OutOfBounds) ≡ Err t → within ≡ false
outside true true n t may refused = absurd (cc)
outside true false n t may refused = absurd (cc)
outside false writable n t may refused = refl

-- an object refuses a write at this offset, though it may be written: the offset is past its end
past_end : (o : Object) (offset n : ℕ) (t : MemTrap) → writable_in o ≡ Ok tt
    → where_within (length o.elements) offset (cond o.writable (Ok n) (Err ReadOnly)) ≡ Err t → length o.elements ≤ offset
past_end o offset n t may refused =
    let past : nat_lt offset (length o.elements) ≡ false = outside (nat_lt offset (length o.elements)) o.writable n t may refused in
    grind (arith, past)

-- where the object of the number refuses a write, nothing is rewritten
refused_same : (objects : List Object) (low made to offset : ℕ) (v : ℤ) (t : MemTrap) → Rise low objects made
    → where_live (with_number objects to) writable_in ≡ Ok tt
    → where_live (with_number objects to) (λ o. where_within (length o.elements) offset (cond o.writable (Ok (o.first + offset)) (Err ReadOnly))) ≡ Err t
    → map (rewritten (with_value offset v) to) objects ≡ objects
refused_same [] low made to offset v t rise may refused = refl
refused_same (o ∷ objects) low made to offset v t rise may refused = elim (eqb_tells o.number to) [
  | inl here ↦
      let end : length o.elements ≤ offset = past_end o offset (o.first + offset) t (rw here.0 at may) (rw here.0 at refused) in
      let kept : with_value offset v o.elements ≡ o.elements = set_past o.elements offset (Some v) end in
      let same : rewritten (with_value offset v) to o ≡ o =
      rewritten_here (with_value offset v) to o here.1 ∙ ap (λ (xs : List (Option ℤ)). record o { elements = xs }) kept in
      let rest : map (rewritten (with_value offset v) to) objects ≡ objects =
      none_rewritten (with_value offset v) to objects (none_above objects (o.number + 1) made to rise.1 (omega (arith, here.1))) in
      λ i. same i ∷ rest i
  | inr other ↦
      let rest : map (rewritten (with_value offset v) to) objects ≡ objects =
      refused_same objects (o.number + 1) made to offset v t rise.1 (rw other.0 at may) (rw other.0 at refused) in
      let same : rewritten (with_value offset v) to o ≡ o = rewritten_other (with_value offset v) to o other.1 in
      λ i. same i ∷ rest i
]

-- a write that is refused would change nothing, where the object may be written
pub store_refused : (m : Memory) (at : Pointer) (v : ℤ) (t : MemTrap) → IsLaidOut m → fill_of m at.object ≡ Ok tt → store_of m at ≡ Err t
    → m ≡ stored m at v
store_refused m at v t laid may refused =
    ap (λ (objects : List Object). record m { live = objects }) (sym (refused_same m.live 0 m.made at.object at.offset v t laid.rise may refused))

-- an item is stored by its element and its number
pub item_is : (object : ℕ) (m new : Memory) (i : Initial) (offset : ℕ) (number : ℤ) → new ≡ stored m (record { object = object; offset = offset }) number
    → offset ≡ i.element → number ≡ i.number → new ≡ item_stored object m i
item_is object m new i offset number is at same = is ∙ (λ k. stored m (record { object = object; offset = at k }) (same k))

-- one item more is stored, of those from this one on
pub item_filled : (object : ℕ) (m new done : Memory) (items : List Initial) (i : ℕ) (d : Initial) → i < length items
    → new ≡ item_stored object m (get_or items i d) → fold (item_stored object) m (drop i items) ≡ done
    → fold (item_stored object) new (drop (i + 1) items) ≡ done
item_filled object m new done items i d within is so_far =
    let rest : drop i items ≡ get_or items i d ∷ drop (i + 1) items = rw add-one (drop-cons items i d within) in
    ap (λ (v : Memory). fold (item_stored object) v (drop (i + 1) items)) is
    ∙ sym (ap (λ (xs : List Initial). fold (item_stored object) m xs) rest)
    ∙ so_far
