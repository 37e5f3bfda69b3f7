-- What the calls answer is what they answer by the extents alone.
use Rattle.std.proofs.Common.{◌≡◌, ℕ, suc, ◌+◌, ◌<◌, ◌≤◌, Bool, true, false, cond, eqb, ltb, List, [], ◌∷◌, length, take, drop, Option, Some, None, Result, Ok, Err, ℤ, pos, ◌+ℤ◌, slice_get, arith, refl, ap, inl, inr, ◌∙◌}
use Rattle.std.proofs.lemmas.Bool.Decides.{leb_tells}
use Rattle.std.proofs.lemmas.Option.{slice_get_past}
use Rattle.k_mem.specs.declared.extent.Extent.{Extent}
use Rattle.k_mem.specs.declared.fault.MemTrap.{MemTrap}
use Rattle.k_mem.specs.declared.fault.MemTrap.TheVariants.{ReadOnly}
use Rattle.k_mem.specs.declared.pointer.Pointer.{Pointer}
use Rattle.k_mem.specs.Memory.{Object, object_of}
use Rattle.k_mem.specs.Calls.{where_live, where_within, where_both_live, element_of, store_of, fill_of, first_of, length_of, shift_of, load_of, value_read, pointer_to, offset_within}
use Rattle.k_mem.specs.Layout.{object_in, memory_in, Fill, extent_with, element_among, store_among, shift_among}
use Rattle.k_mem.proofs.Extents.{fill_le}
use Rattle.k_mem.proofs.Views.{length_kept, element_kept}

-- an object answers as its extent does
pub where_kept : {A : Type 0} (extents : List Extent) (cells : List (Option ℤ)) (start made number : ℕ)
    (answer : Object → Result A MemTrap) (answer' : Extent → Result A MemTrap)
    → Fill start extents (length cells) → ((e : Extent) → e.first + e.length ≤ length cells → answer (object_in cells e) ≡ answer' e)
    → where_live (object_of (memory_in extents cells made) number) answer ≡ where_live (extent_with extents number) answer'
where_kept [] cells start made number answer answer' fill same = refl
where_kept (e ∷ extents) cells start made number answer answer' fill same =
    let end = length cells in
    let within : e.first + e.length ≤ length cells = omega (arith, fill.0, fill_le extents (start + e.length) (length cells) fill.1) in
    elim (eqb e.number number) as (λ b. where_live (cond b (Some (object_in cells e)) (object_of (memory_in extents cells made) number)) answer
    ≡ where_live (cond b (Some e) (extent_with extents number)) answer') [
      | true ↦ same e within
      | false ↦ where_kept extents cells (start + e.length) made number answer answer' fill.1 same
    ]

module _ (extents : List Extent) (cells : List (Option ℤ)) (made : ℕ) (fill : Fill 0 extents (length cells)) where
  pub element_answer : (at : Pointer) → element_of (memory_in extents cells made) at ≡ element_among extents at
  element_answer at = where_kept extents cells 0 made at.object _ _ fill (λ e within.
      ap (λ (n : ℕ). where_within n at.offset (Ok (e.first + at.offset))) (length_kept cells e within))

  pub store_answer : (at : Pointer) → store_of (memory_in extents cells made) at ≡ store_among extents at
  store_answer at = where_kept extents cells 0 made at.object _ _ fill (λ e within.
      ap (λ (n : ℕ). where_within n at.offset (cond e.writable (Ok (e.first + at.offset)) (Err ReadOnly))) (length_kept cells e within))

  pub fill_answer : (number : ℕ) → fill_of (memory_in extents cells made) number
      ≡ where_live (extent_with extents number) (λ e. cond e.writable (Ok tt) (Err ReadOnly))
  fill_answer number = where_kept extents cells 0 made number _ _ fill (λ e within. refl)

  pub first_answer : (number : ℕ) → first_of (memory_in extents cells made) number ≡ where_live (extent_with extents number) (λ e. Ok e.first)
  first_answer number = where_kept extents cells 0 made number _ _ fill (λ e within. refl)

  pub length_answer : (number : ℕ) → length_of (memory_in extents cells made) number ≡ where_live (extent_with extents number) (λ e. Ok e.length)
  length_answer number = where_kept extents cells 0 made number _ _ fill (λ e within. ap (λ (n : ℕ). Ok n) (length_kept cells e within))

  pub shift_answer : (at : Pointer) (by : ℤ) → shift_of (memory_in extents cells made) at by ≡ shift_among extents at by
  shift_answer at by = where_kept extents cells 0 made at.object _ _ fill (λ e within.
      ap (λ (n : ℕ). pointer_to at.object (offset_within n (pos at.offset +ℤ by))) (length_kept cells e within))

  pub both_answer : {A : Type 0} (a b : Pointer) (answer : Result A MemTrap)
      → where_both_live (object_of (memory_in extents cells made) a.object) (object_of (memory_in extents cells made) b.object) answer
      ≡ where_both_live (extent_with extents a.object) (extent_with extents b.object) answer
  both_answer a b answer = where_kept extents cells 0 made a.object _ _ fill (λ _ _.
      where_kept extents cells 0 made b.object _ _ fill (λ _ _. refl))

-- the element at an offset of an object, by the cells
cell_read : List (Option ℤ) → Extent → ℕ → Option (Option ℤ)
cell_read cells e offset = cond (ltb offset e.length) (slice_get cells (e.first + offset)) None

read_kept : (cells : List (Option ℤ)) (e : Extent) (offset : ℕ) → e.first + e.length ≤ length cells
    → slice_get (take e.length (drop e.first cells)) offset ≡ cell_read cells e offset
unfolding cell_read
read_kept cells e offset within = elim (leb_tells (suc offset) e.length) [
  | inl below ↦ rw below.0 (element_kept cells e offset within below.1)
  | inr past ↦ rw past.0 (slice_get_past (take e.length (drop e.first cells)) offset (omega (arith, length_kept cells e within, past.1)))
]

-- what a load answers, by what the element's number and its cell are
read_at : (cells : List (Option ℤ)) (e : Option Extent) (offset element : ℕ) (cell : Option ℤ)
    → where_live e (λ e. where_within e.length offset (Ok (e.first + offset))) ≡ Ok element → slice_get cells element ≡ Some cell
    → where_live e (λ e. value_read (cell_read cells e offset) (e.first + offset)) ≡ value_read (Some cell) element
unfolding cell_read
read_at cells None offset element cell answer read = cc
read_at cells (Some e) offset element cell answer read = elim (leb_tells (suc offset) e.length) [
  | inl below ↦ grind arith
  | inr past ↦ grind arith
]

refused_at : (cells : List (Option ℤ)) (e : Option Extent) (offset : ℕ) (trap : MemTrap)
    → where_live e (λ e. where_within e.length offset (Ok (e.first + offset))) ≡ Err trap
    → where_live e (λ e. value_read (cell_read cells e offset) (e.first + offset)) ≡ Err trap
unfolding cell_read
refused_at cells None offset trap answer = cc
refused_at cells (Some e) offset trap answer = elim (leb_tells (suc offset) e.length) [
  | inl below ↦ grind arith
  | inr past ↦ grind arith
]

-- an element that is answered is one of the extents' cells
element_below : (extents : List Extent) (start end object offset element : ℕ) → Fill start extents end
    → where_live (extent_with extents object) (λ e. where_within e.length offset (Ok (e.first + offset))) ≡ Ok element → element < end
element_below [] start end object offset element fill answer = absurd (cc)
element_below (e ∷ extents) start end object offset element fill answer =
    let rest = element_below extents (start + e.length) end object offset element fill.1 in
    let le = fill_le extents (start + e.length) end fill.1 in
    let here : where_within e.length offset (Ok (e.first + offset)) ≡ Ok element → element < end =
    λ at. elim (leb_tells (suc offset) e.length) [ inl below ↦ grind arith | inr past ↦ grind arith ] in
    (elim (eqb e.number object) as (λ b. where_live (cond b (Some e) (extent_with extents object)) (λ e. where_within e.length offset (Ok (e.first + offset))) ≡ Ok element → element < end) [
      | true ↦ here
      | false ↦ rest
    ]) answer

module _ (extents : List Extent) (cells : List (Option ℤ)) (made : ℕ) (fill : Fill 0 extents (length cells)) (at : Pointer) where
  load_answer : load_of (memory_in extents cells made) at
      ≡ where_live (extent_with extents at.object) (λ e. value_read (cell_read cells e at.offset) (e.first + at.offset))
  load_answer = where_kept extents cells 0 made at.object _ _ fill (λ e within.
      ap (λ (read : Option (Option ℤ)). value_read read (e.first + at.offset)) (read_kept cells e at.offset within))

  pub load_read : (element : ℕ) (cell : Option ℤ) → element_among extents at ≡ Ok element → slice_get cells element ≡ Some cell
      → load_of (memory_in extents cells made) at ≡ value_read (Some cell) element
  load_read element cell answer read = load_answer ∙ read_at cells (extent_with extents at.object) at.offset element cell answer read

  pub load_refused : (trap : MemTrap) → element_among extents at ≡ Err trap → load_of (memory_in extents cells made) at ≡ Err trap
  load_refused trap answer = load_answer ∙ refused_at cells (extent_with extents at.object) at.offset trap answer

  -- an element that is answered is one of the cells
  pub element_within : (element : ℕ) → element_among extents at ≡ Ok element → element < length cells
  element_within element answer = element_below extents 0 (length cells) at.object at.offset element fill answer

-- an extent that may be written is the one of the number
pub fill_found : (found : Option Extent) (e : Extent) → where_live found (λ e. cond e.writable (Ok e) (Err ReadOnly)) ≡ Ok e
    → (found ≡ Some e) × (where_live {A = Unit {0}} found (λ e. cond e.writable (Ok tt) (Err ReadOnly)) ≡ Ok tt)
fill_found None e answer = absurd (cc)
fill_found (Some x) e answer = go x.writable answer
  where
    go : (b : Bool) → cond b (Ok x) (Err ReadOnly) ≡ Ok e → (Some x ≡ Some e) × (cond b (Ok tt) (Err ReadOnly) ≡ (let done : Result (Unit {0}) MemTrap = Ok tt in done))
    go true answer = (cc, refl)
    go false answer = absurd (cc)

-- where there is none, setting elements is refused
pub fill_refused : (found : Option Extent) (trap : MemTrap) → where_live found (λ e. cond e.writable (Ok e) (Err ReadOnly)) ≡ Err trap
    → where_live {A = Unit {0}} found (λ e. cond e.writable (Ok tt) (Err ReadOnly)) ≡ Err trap
fill_refused None trap answer = cc
fill_refused (Some x) trap answer = go x.writable answer
  where
    go : (b : Bool) → cond b (Ok x) (Err ReadOnly) ≡ Err trap → cond b (Ok tt) (Err ReadOnly) ≡ (let refused : Result (Unit {0}) MemTrap = Err trap in refused)
    go true answer = absurd (cc)
    go false answer = cc
