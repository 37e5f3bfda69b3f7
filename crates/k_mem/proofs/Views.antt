-- What extents and cells are seen as: objects that follow on, with as many elements as there are cells.
use Rattle.std.proofs.Common.{◌≡◌, ℕ, ◌+◌, ◌<◌, ◌≤◌, List, [], ◌∷◌, length, take, drop, Option, Some, None, ℤ, sum_by, slice_get, option_map, zero, suc, refl, arith, ap, sym, subst, ◌∙◌}
use Rattle.std.proofs.lemmas.List.{length-take-le, length-drop, get_or-take, get_or-drop}
use Rattle.std.proofs.lemmas.List.Sums.{sum_by-cons}
use Rattle.std.proofs.lemmas.Option.{slice_get-get_or}
use Rattle.k_mem.specs.declared.extent.Extent.{Extent}
use Rattle.k_mem.specs.Memory.{Object, Memory, FollowOn, Rise, IsLaidOut, live_elements}
use Rattle.k_mem.specs.Layout.{object_in, objects_in, memory_in, Fill, Ascend, AreKept}
use Rattle.k_mem.proofs.Extents.{fill_le}

-- an object has as many elements as its extent says
pub length_kept : (cells : List (Option ℤ)) (e : Extent) → e.first + e.length ≤ length cells
    → length (take e.length (drop e.first cells)) ≡ e.length
length_kept cells e within = length-take-le e.length (drop e.first cells) (omega (arith, length-drop e.first cells))

-- its elements are the cells from its first on
pub element_kept : (cells : List (Option ℤ)) (e : Extent) (offset : ℕ) → e.first + e.length ≤ length cells → offset < e.length
    → slice_get (take e.length (drop e.first cells)) offset ≡ slice_get cells (e.first + offset)
element_kept cells e offset within below =
    slice_get-get_or (take e.length (drop e.first cells)) offset None (omega (arith, length_kept cells e within))
    ∙ ap Some (get_or-take e.length (drop e.first cells) offset None below ∙ get_or-drop e.first cells offset None)
    ∙ sym (slice_get-get_or cells (e.first + offset) None (omega arith))

follow_kept : (extents : List Extent) (cells : List (Option ℤ)) (start end : ℕ) → Fill start extents end → end ≤ length cells
    → FollowOn start (objects_in extents cells)
follow_kept [] cells start end fill le = tt
follow_kept (e ∷ extents) cells start end fill le =
    let rest = follow_kept extents cells (start + e.length) end fill.1 le in
    let within : e.first + e.length ≤ length cells = omega (arith, fill.0, fill_le extents (start + e.length) end fill.1) in
    (fill.0, subst (λ (n : ℕ). FollowOn (start + n) (objects_in extents cells)) (sym (length_kept cells e within)) rest)

rise_kept : (extents : List Extent) (cells : List (Option ℤ)) (low made : ℕ) → Ascend low extents made → Rise low (objects_in extents cells) made
rise_kept [] cells low made ascend = ascend
rise_kept (e ∷ extents) cells low made ascend = (ascend.0, rise_kept extents cells (e.number + 1) made ascend.1)

-- the objects together have the cells that their extents fill
pub elements_kept : (extents : List Extent) (cells : List (Option ℤ)) (start end : ℕ) → Fill start extents end → end ≤ length cells
    → start + sum_by (λ (o : Object). length o.elements) (objects_in extents cells) ≡ end
elements_kept [] cells start end fill le = omega (arith, fill)
elements_kept (e ∷ extents) cells start end fill le =
    let rest = elements_kept extents cells (start + e.length) end fill.1 le in
    let within : e.first + e.length ≤ length cells = omega (arith, fill.0, fill_le extents (start + e.length) end fill.1) in
    omega (arith, rest, length_kept cells e within, sum_by-cons (λ (o : Object). length o.elements) (object_in cells e) (objects_in extents cells))

-- so the live elements are the cells
pub live_kept : (extents : List Extent) (cells : List (Option ℤ)) (made : ℕ) → AreKept extents (length cells) made
    → live_elements (memory_in extents cells made) ≡ length cells
live_kept extents cells made kept = omega (arith, elements_kept extents cells 0 (length cells) kept.fill (omega arith))

-- what is kept is laid out
pub laid_out : (extents : List Extent) (cells : List (Option ℤ)) (made : ℕ) → AreKept extents (length cells) made
    → IsLaidOut (memory_in extents cells made)
laid_out extents cells made kept = record {
  follow_on = follow_kept extents cells 0 (length cells) kept.fill (omega arith);
  rise = rise_kept extents cells 0 made kept.ascend;
  few_elements = omega (arith, live_kept extents cells made kept, kept.few_elements);
  few_objects = kept.few_objects;
}

-- what is seen is laid out, where it is seen of what is kept
pub laid_out_seen : (extents : List Extent) (cells : List (Option ℤ)) (made : ℕ) (m : Memory) → AreKept extents (length cells) made
    → memory_in extents cells made ≡ m → IsLaidOut m
laid_out_seen extents cells made m kept seen = subst IsLaidOut seen (laid_out extents cells made kept)

-- the numbers of objects are those of their extents
pub number_seen : (extents : List Extent) (cells : List (Option ℤ)) (place : ℕ)
    → option_map (λ (e : Extent). e.number) (slice_get extents place) ≡ option_map (λ (o : Object). o.number) (slice_get (objects_in extents cells) place)
number_seen [] cells place = refl
number_seen (e ∷ extents) cells zero = refl
number_seen (e ∷ extents) cells (suc place) = number_seen extents cells place
