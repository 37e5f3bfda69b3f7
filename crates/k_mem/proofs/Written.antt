-- What a write to the cells of one object is seen as.
use Rattle.std.proofs.Common.{◌≡◌, ℕ, suc, subst, ◌+◌, ◌-◌, ◌<◌, ◌≤◌, Bool, true, false, cond, eqb, List, [], ◌∷◌, ◌++◌, length, take, drop, set, map, Option, Some, None, Result, Ok, Err, ℤ, arith, refl, ap, sym, inl, inr, ◌∙◌}
use Rattle.std.proofs.lemmas.Bool.Decides.{eqb_tells}
use Rattle.std.proofs.lemmas.List.{append_assoc, drop-set-lt, drop-set-add, take-set-le, length-take-le, length-append, length-drop}
use Rattle.std.proofs.lemmas.Slice.{drop-append-drop}
use Rattle.std.proofs.Math.Seq.{take-set-lt, take-append_seam, drop-append_seam}
use Rattle.k_mem.specs.declared.extent.Extent.{Extent}
use Rattle.k_mem.specs.declared.pointer.Pointer.{Pointer}
use Rattle.k_mem.specs.Memory.{Object, Memory}
use Rattle.k_mem.specs.Calls.{where_within, rewritten, with_rewritten, with_value, with_values, stored, filled}
use Rattle.k_mem.specs.Layout.{cells_set, object_in, objects_in, memory_in, Fill, Ascend, AreKept, extent_with, store_among}
use Rattle.k_mem.proofs.Extents.{fill_le}
use Rattle.k_mem.proofs.Found.{where_live_is, write_is, rewritten_here, rewritten_other}
use Rattle.k_mem.proofs.Grown.{with_elements, cons_eq, elements_cut, elements_grown}
use Rattle.k_mem.proofs.Numbers.{length_with_values}
use Rattle.k_mem.proofs.Views.{length_kept}

-- other cells from `first` to `last`, of which the object there has those that f makes of its own
pub record IsRewrite (cells cells' : List (Option ℤ)) (first last : ℕ) (f : List (Option ℤ) → List (Option ℤ)) : Type 0 where
  pub before : (e : Extent) → e.first + e.length ≤ first → take e.length (drop e.first cells') ≡ take e.length (drop e.first cells)
  pub behind : (e : Extent) → last ≤ e.first → take e.length (drop e.first cells') ≡ take e.length (drop e.first cells)
  pub here : (e : Extent) → e.first ≡ first → e.first + e.length ≡ last → take e.length (drop e.first cells') ≡ f (take e.length (drop e.first cells))

-- where the extent of a number stands
pub record StandsAt (e : Extent) (number start end : ℕ) : Type 0 where
  pub same : e.number ≡ number
  pub behind_start : start ≤ e.first
  pub before_end : e.first + e.length ≤ end

-- an extent that is found stands among those it was found in
pub found_stands : (extents : List Extent) (start end number : ℕ) (e : Extent) → Fill start extents end → extent_with extents number ≡ Some e
    → StandsAt e number start end
found_stands [] start end number e fill found = absurd (cc)
found_stands (x ∷ extents) start end number e fill found =
    let le = fill_le extents (start + x.length) end fill.1 in
    elim (eqb_tells x.number number) [
      | inl same ↦
          let here = rw same.0 at found in
          let is : x ≡ e = cc here in
          subst (λ (y : Extent). StandsAt y number start end) is
          (record { same = same.1; behind_start = omega (arith, fill.0); before_end = omega (arith, fill.0, le) })
      | inr other ↦
          let rest = found_stands extents (start + x.length) end number e fill.1 (rw other.0 at found) in
          record { same = rest.same; behind_start = omega (arith, rest.behind_start); before_end = rest.before_end }
    ]

module _ (cells cells' : List (Option ℤ)) (first last number : ℕ) (f : List (Option ℤ) → List (Option ℤ)) (is : IsRewrite cells cells' first last f) where
  -- objects behind are as they were, and have other numbers
  objects_behind : (extents : List Extent) (start end low made : ℕ) → Fill start extents end → Ascend low extents made → last ≤ start → number < low
      → objects_in extents cells' ≡ map (rewritten f number) (objects_in extents cells)
  unfolding with_elements
  objects_behind [] start end low made fill ascend behind less = refl
  objects_behind (e ∷ extents) start end low made fill ascend behind less =
      cons_eq _ _ _ _
      (ap (with_elements e) (is.behind e (omega (arith, fill.0)))
      ∙ sym (rewritten_other f number (object_in cells e) (λ same. absurd (omega (arith, ascend.0, same)))))
      (objects_behind extents (start + e.length) end (e.number + 1) made fill.1 ascend.1 (omega arith) (omega (arith, ascend.0)))

  -- the cells are seen as the objects, of which that one is rewritten
  objects_rewritten : (extents : List Extent) (start end low made : ℕ) (e : Extent) → Fill start extents end → Ascend low extents made
      → extent_with extents number ≡ Some e → e.first ≡ first → e.first + e.length ≡ last
      → objects_in extents cells' ≡ map (rewritten f number) (objects_in extents cells)
  unfolding with_elements
  objects_rewritten [] start end low made e fill ascend found at_first at_last = absurd (cc)
  objects_rewritten (x ∷ extents) start end low made e fill ascend found at_first at_last = elim (eqb_tells x.number number) [
    | inl same ↦
        let here = rw same.0 at found in
        let is_x : x ≡ e = cc here in
        let x_first : x.first ≡ first = ap (λ (y : Extent). y.first) is_x ∙ at_first in
        let x_last : x.first + x.length ≡ last = ap (λ (y : Extent). y.first + y.length) is_x ∙ at_last in
        cons_eq _ _ _ _
        (ap (with_elements x) (is.here x x_first x_last) ∙ sym (rewritten_here f number (object_in cells x) same.1))
        (objects_behind extents (start + x.length) end (x.number + 1) made fill.1 ascend.1 (omega (arith, fill.0, x_last)) (omega (arith, same.1)))
    | inr other ↦
        let later = rw other.0 at found in
        let stands = found_stands extents (start + x.length) end number e fill.1 later in
        cons_eq _ _ _ _
        (ap (with_elements x) (is.before x (omega (arith, fill.0, stands.behind_start, at_first)))
        ∙ sym (rewritten_other f number (object_in cells x) other.1))
        (objects_rewritten extents (start + x.length) end (x.number + 1) made e fill.1 ascend.1 later at_first at_last)
  ]

-- one cell of an object is written
cell_written : (cells : List (Option ℤ)) (first length offset : ℕ) (v : ℤ) → offset < length
    → IsRewrite cells (set cells (first + offset) (Some v)) first (first + length) (with_value offset v)
cell_written cells first length offset v below = record {
  before = λ e le.
      let at : e.first + (first + offset - e.first) ≡ first + offset = omega arith in
      subst (λ (n : ℕ). take e.length (drop e.first (set cells n (Some v))) ≡ take e.length (drop e.first cells)) at
      (ap (take e.length) (drop-set-add e.first cells (first + offset - e.first) (Some v))
      ∙ take-set-le e.length (drop e.first cells) (first + offset - e.first) (Some v) (omega arith));
  behind = λ e le. ap (take e.length) (drop-set-lt e.first cells (first + offset) (Some v) (omega arith));
  here = λ e at_first at_last.
      subst (λ (n : ℕ). take e.length (drop e.first (set cells (n + offset) (Some v))) ≡ with_value offset v (take e.length (drop e.first cells))) at_first
      (ap (take e.length) (drop-set-add e.first cells offset (Some v)) ∙ take-set-lt e.length (drop e.first cells) offset (Some v) (omega arith));
}

-- all cells of an object are written
cells_written : (cells new : List (Option ℤ)) (first len : ℕ) (f : List (Option ℤ) → List (Option ℤ)) → first + len ≤ length cells
    → length new ≡ len → new ≡ f (take len (drop first cells))
    → IsRewrite cells (take first cells ++ (new ++ drop (first + len) cells)) first (first + len) f
cells_written cells new first len f within long is =
    let front : length (take first cells) ≡ first = length-take-le first cells (omega arith) in
    record {
      before = λ e le.
          elements_grown (take first cells) (new ++ drop (first + len) cells) e (omega (arith, front)) ∙ elements_cut cells first e le;
      behind = λ e le.
          let shape : take first cells ++ (new ++ drop (first + len) cells) ≡ (take first cells ++ new) ++ drop (first + len) cells =
          sym (append_assoc (take first cells) new (drop (first + len) cells)) in
          ap (λ (all : List (Option ℤ)). take e.length (drop e.first all)) shape
          ∙ ap (take e.length) (drop-append-drop (first + len) cells (take first cells ++ new) e.first le (omega (arith, length-append (take first cells) new, front)));
      here = λ e at_first at_last.
          let at_len : e.length ≡ length new = omega arith in
          let tail : drop e.first (take first cells ++ (new ++ drop (first + len) cells)) ≡ new ++ drop (first + len) cells =
          ap (λ (n : ℕ). drop n (take first cells ++ (new ++ drop (first + len) cells))) (at_first ∙ sym front)
          ∙ drop-append_seam (take first cells) (new ++ drop (first + len) cells) in
          ap (take e.length) tail ∙ ap (λ (n : ℕ). take n (new ++ drop (first + len) cells)) at_len ∙ take-append_seam new (drop (first + len) cells) ∙ is
          ∙ ap (λ (n : ℕ). f (take n (drop first cells))) (sym (at_len ∙ long)) ∙ ap (λ (n : ℕ). f (take e.length (drop n cells))) (sym at_first);
    }

module _ (extents : List Extent) (cells : List (Option ℤ)) (made : ℕ) (kept : AreKept extents (length cells) made) (at : Pointer) (element : ℕ)
    (answer : store_among extents at ≡ Ok element) where
  -- an element that may be written is one of the cells
  pub written_within : element < length cells
  written_within =
      let live = where_live_is (extent_with extents at.object) _ element answer in
      let here = write_is live.0.writable live.0.length at.offset (live.0.first + at.offset) element live.2 in
      let stands = found_stands extents 0 (length cells) at.object live.0 kept.fill live.1 in
      omega (arith, here.0, here.1, stands.before_end)

  -- the memory with that value in its cell is the one that the write is to leave
  pub memory_written : (v : ℤ) → memory_in extents (set cells element (Some v)) made ≡ stored (memory_in extents cells made) at v
  memory_written v =
      let live = where_live_is (extent_with extents at.object) _ element answer in
      let here = write_is live.0.writable live.0.length at.offset (live.0.first + at.offset) element live.2 in
      let written = subst (λ (k : ℕ). IsRewrite cells (set cells k (Some v)) live.0.first (live.0.first + live.0.length) (with_value at.offset v)) here.1
      (cell_written cells live.0.first live.0.length at.offset v here.0) in
      ap (λ (live : List Object). let m : Memory = record { live = live; made = made } in m)
      (objects_rewritten cells (set cells element (Some v)) live.0.first (live.0.first + live.0.length) at.object (with_value at.offset v) written
      extents 0 (length cells) 0 made live.0 kept.fill kept.ascend live.1 refl refl)

module _ (extents : List Extent) (cells : List (Option ℤ)) (made : ℕ) (kept : AreKept extents (length cells) made) (number : ℕ) (e : Extent)
    (found : extent_with extents number ≡ Some e) (values : List ℤ) where
  -- the cells of an object that is found are among the cells
  pub filled_within : e.first + e.length ≤ length cells
  filled_within = (found_stands extents 0 (length cells) number e kept.fill found).before_end

  -- the memory with those values in its cells is the one that is to be left
  pub memory_filled : memory_in extents (cells_set values cells e.first e.length) made ≡ filled (memory_in extents cells made) number values
  memory_filled =
      let within = filled_within in
      let new = with_values values (take e.length (drop e.first cells)) in
      let long : length new ≡ e.length = length_with_values values (take e.length (drop e.first cells)) ∙ length_kept cells e within in
      ap (λ (live : List Object). let m : Memory = record { live = live; made = made } in m)
      (objects_rewritten cells (cells_set values cells e.first e.length) e.first (e.first + e.length) number (with_values values)
      (cells_written cells new e.first e.length (with_values values) within long refl)
      extents 0 (length cells) 0 made e kept.fill kept.ascend found refl refl)

  -- as many cells are left
  pub length_filled : length (cells_set values cells e.first e.length) ≡ length cells
  length_filled =
      let within = filled_within in
      let new = with_values values (take e.length (drop e.first cells)) in
      let long : length new ≡ e.length = length_with_values values (take e.length (drop e.first cells)) ∙ length_kept cells e within in
      let tail = length-append new (drop (e.first + e.length) cells) in
      let all = length-append (take e.first cells) (new ++ drop (e.first + e.length) cells) in
      omega (arith, long, tail, all, length-take-le e.first cells (omega arith), length-drop (e.first + e.length) cells)

  -- so the extents are kept
  pub kept_filled : AreKept extents (length (cells_set values cells e.first e.length)) made
  kept_filled = subst (λ (end : ℕ). AreKept extents end made) (sym length_filled) kept
