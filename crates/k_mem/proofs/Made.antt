-- The laws on what a push gives and what a pop leaves.
use Rattle.std.proofs.Common.{ℕ, suc, ◌≡◌, ◌≢◌, ◌+◌, ◌<◌, ◌≤◌, List, [], ◌∷◌, ◌++◌, length, take, replicate, map, slice_get, Option, Some, None, Result, Ok, Err, ℤ, pos, refl, arith, sym, ap, inl, inr, ◌∙◌, cond}
use Rattle.std.specs.Option.{option_map}
use Rattle.std.specs.Int.{w8, cast_signed}
use Rattle.std.proofs.lemmas.Bool.Decides.{leb_tells, eqb_tells}
use Rattle.std.proofs.lemmas.List.{get_or-replicate, length-replicate, length-map}
use Rattle.std.proofs.lemmas.Option.{slice_get-get_or, slice_get-map, slice_get_within}
use Rattle.std.proofs.Math.Seq.{take-append_seam}
use Rattle.k_mem.specs.declared.fault.MemTrap.{MemTrap}
use Rattle.k_mem.specs.declared.fault.MemTrap.TheVariants.{ReadOnly}
use Rattle.k_mem.specs.declared.start.Start.{Start}
use Rattle.k_mem.specs.declared.start.Start.TheVariants.{Unset, Zero, Literal}
use Rattle.k_mem.specs.Memory.{Object, Memory, object_of, live_elements, Rise, IsLaidOut}
use Rattle.k_mem.specs.Calls.{where_live, where_within, value_read, elements_at, next_object, store_of, load_of, push_of}
use Rattle.k_mem.specs.Laws.{MakesNext, UnsetHasNoValue, ZeroLoadsZero, HasByte, LiteralLoadsBytes, LiteralIsReadOnly, PopKeepsRest, PopUndoesPush}
use Rattle.k_mem.proofs.Found.{with_number, found_behind, found_oldest, found_risen, pushed_is}

-- no object has a number from the count of objects made on
pub not_made : (objects : List Object) (low made : ℕ) → Rise low objects made → with_number objects made ≡ None
not_made objects low made rise = none (with_number objects made) refl
  where
    none : (found : Option Object) → with_number objects made ≡ found → with_number objects made ≡ None
    none None is = is
    none (Some o) is = absurd (omega (arith, (found_risen objects low made made o rise is).1))

-- a push makes the object that is next, and that object is live after it
pub makes_next : MakesNext
makes_next m m' start count laid pushed =
    ap (λ (objects : List Object). with_number objects m.made) (pushed_is m m' start count pushed).0
    ∙ found_behind m.live (next_object m start count ∷ []) m.made (not_made m.live 0 m.made laid.rise) ∙ only
  where
    only : with_number (next_object m start count ∷ []) m.made ≡ Some (next_object m start count)
    only = elim (eqb_tells m.made m.made) [ inl same ↦ rw same.0 refl | inr other ↦ absurd (other.1 refl) ]

-- what the new object's elements read
new_loads : (m m' : Memory) (start : Start) (count offset : ℕ) → IsLaidOut m → push_of m start count ≡ Some m'
    → load_of m' (record { object = m.made; offset = offset }) ≡ value_read (slice_get (elements_at start count) offset) (live_elements m + offset)
new_loads m m' start count offset laid pushed =
    ap (λ (o : Option Object). where_live o (λ o. value_read (slice_get o.elements offset) (o.first + offset))) (makes_next m m' start count laid pushed)

-- the element at an offset, where all are the same
one_of : (n offset : ℕ) (x : Option ℤ) → offset < n → slice_get (replicate n x) offset ≡ Some x
one_of n offset x below =
    slice_get-get_or (replicate n x) offset None (omega (arith, length-replicate {A = Option ℤ} n x)) ∙ ap Some (get_or-replicate n offset x None below)

-- an unset object's elements have no value
pub unset_has_no_value : UnsetHasNoValue
unset_has_no_value m m' count offset laid pushed below =
    new_loads m m' Unset count offset laid pushed
    ∙ ap (λ (read : Option (Option ℤ)). value_read read (live_elements m + offset)) (one_of count offset None below)

-- a zeroed object's elements are 0
pub zero_loads_zero : ZeroLoadsZero
zero_loads_zero m m' count offset laid pushed below =
    new_loads m m' Zero count offset laid pushed
    ∙ ap (λ (read : Option (Option ℤ)). value_read read (live_elements m + offset)) (one_of count offset (Some (pos 0)) below)

-- a literal's elements are its bytes
pub literal_loads_bytes : LiteralLoadsBytes
literal_loads_bytes m m' Unset count offset byte laid pushed has = absurd has
literal_loads_bytes m m' Zero count offset byte laid pushed has = absurd has
literal_loads_bytes m m' (Literal bytes) count offset byte laid pushed has =
    new_loads m m' (Literal bytes) count offset laid pushed
    ∙ ap (λ (read : Option (Option ℤ)). value_read read (live_elements m + offset))
    (slice_get-map (λ (byte : ℕ). Some (cast_signed w8 byte)) bytes.now offset
    ∙ ap (λ (read : Option ℕ). option_map (λ (byte : ℕ). let read : Option ℤ = Some (cast_signed w8 byte) in read) read) has)

-- and can't be written
pub literal_is_read_only : LiteralIsReadOnly
literal_is_read_only m m' Unset count offset byte laid long pushed has = absurd has
literal_is_read_only m m' Zero count offset byte laid long pushed has = absurd has
literal_is_read_only m m' (Literal bytes) count offset byte laid long pushed has =
    let object = next_object m (Literal bytes) count in
    let below : offset < length object.elements =
    omega (arith, slice_get_within bytes.now offset byte has, length-map bytes.now (λ (byte : ℕ). let read : Option ℤ = Some (cast_signed w8 byte) in read)) in
    ap (λ (o : Option Object). where_live o (λ o. where_within (length o.elements) offset (cond o.writable (Ok (o.first + offset)) (Err ReadOnly))))
    (makes_next m m' (Literal bytes) count laid pushed) ∙ inside (length object.elements) below
  where
    inside : (n : ℕ) → offset < n → where_within n offset (Err ReadOnly) ≡ (let answer : Result ℕ MemTrap = Err ReadOnly in answer)
    inside n below = elim (leb_tells (suc offset) n) [ inl within ↦ rw within.0 refl | inr past ↦ absurd (omega (arith, past.1, below)) ]

-- a pop keeps each object that stays as it is
pub pop_keeps_rest : PopKeepsRest
pop_keeps_rest m keep number o found = found_oldest m.live keep number o found

-- a push, and then a pop of what it made, leave the live objects as they were
pub pop_undoes_push : PopUndoesPush
pop_undoes_push m m' start count pushed =
    ap (take (length m.live)) (pushed_is m m' start count pushed).0 ∙ take-append_seam m.live (next_object m start count ∷ [])
