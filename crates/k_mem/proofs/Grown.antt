-- What the extents and cells are seen as, with an object more, and with the newest objects gone.
use Rattle.std.proofs.Common.{◌≡◌, ℕ, zero, suc, pos, ◌+◌, ◌-◌, ◌^◌, ◌<◌, ◌≤◌, List, [], ◌∷◌, ◌++◌, length, take, drop, slice_get, Option, Some, None, ℤ, Bool, true, false, cond, arith, refl, inl, inr, ap, sym, subst, ◌∙◌}
use Rattle.std.proofs.lemmas.List.{length-take-le, drop-take, take-take, take-map, take-append-le, drop-append-le, length-drop, length-append, map-append, length-replicate, length-map}
use Rattle.std.proofs.Math.Seq.{take-length, drop-append_seam}
use Rattle.std.proofs.lemmas.Bool.{true≢false}
use Rattle.std.proofs.lemmas.Bool.Decides.{leb_tells}
use Rattle.k_mem.specs.declared.extent.Extent.{Extent}
use Rattle.k_mem.specs.declared.start.Start.{Start}
use Rattle.k_mem.specs.declared.start.Start.TheVariants.{Unset, Zero, Literal}
use Rattle.k_mem.specs.Memory.{Object, Memory, live_elements}
use Rattle.k_mem.specs.Calls.{HasLength, elements_at, is_writable, next_object, is_over_limit, push_of, popped}
use Rattle.k_mem.specs.Layout.{object_in, objects_in, memory_in, extent_made, Fill, Ascend, AreKept}
use Rattle.k_mem.proofs.Extents.{fill_le}
use Rattle.k_mem.proofs.Views.{live_kept}

-- an object with these elements
unfoldable pub with_elements : Extent → List (Option ℤ) → Object
with_elements e elements = record { number = e.number; first = e.first; writable = e.writable; elements = elements }

-- lists of equal heads and tails
pub cons_eq : (x y : Object) (xs ys : List Object) → x ≡ y → xs ≡ ys → x ∷ xs ≡ y ∷ ys
cons_eq x y xs ys p q = cc

-- extents that have the same elements in two lists of cells are the same objects there
same_objects : (extents : List Extent) (cells cells' : List (Option ℤ)) (start end : ℕ) → Fill start extents end
    → ((e : Extent) → e.first + e.length ≤ end → take e.length (drop e.first cells) ≡ take e.length (drop e.first cells'))
    → objects_in extents cells ≡ objects_in extents cells'
unfolding with_elements
same_objects [] cells cells' start end fill same = refl
same_objects (e ∷ extents) cells cells' start end fill same =
    let le = fill_le extents (start + e.length) end fill.1 in
    cons_eq _ _ _ _ (ap (with_elements e) (same e (omega (arith, fill.0, le)))) (same_objects extents cells cells' (start + e.length) end fill.1 same)

-- the elements before k are those of the first k cells
pub elements_cut : (cells : List (Option ℤ)) (k : ℕ) (e : Extent) → e.first + e.length ≤ k
    → take e.length (drop e.first (take k cells)) ≡ take e.length (drop e.first cells)
elements_cut cells k e within =
    let split : e.first + (k - e.first) ≡ k = omega arith in
    ap (take e.length) (subst (λ (n : ℕ). drop e.first (take n cells) ≡ take (k - e.first) (drop e.first cells)) split (drop-take e.first (k - e.first) cells))
    ∙ take-take e.length (k - e.first) (drop e.first cells) (omega arith)

-- more cells change no elements
pub elements_grown : (cells more : List (Option ℤ)) (e : Extent) → e.first + e.length ≤ length cells
    → take e.length (drop e.first (cells ++ more)) ≡ take e.length (drop e.first cells)
elements_grown cells more e within =
    ap (take e.length) (drop-append-le e.first cells more (omega arith))
    ∙ take-append-le e.length (drop e.first cells) more (omega (arith, length-drop e.first cells))

ascend_le : (extents : List Extent) (low made : ℕ) → Ascend low extents made → low ≤ made
ascend_le [] low made ascend = ascend
ascend_le (e ∷ extents) low made ascend = omega (arith, ascend.0, ascend_le extents (e.number + 1) made ascend.1)

-- the oldest extents end where the next one begins
fill_cut : (extents : List Extent) (start end i : ℕ) (e : Extent) → Fill start extents end → slice_get extents i ≡ Some e
    → Fill start (take i extents) e.first × (e.first ≤ end)
fill_cut [] start end i e fill at = absurd (cc)
fill_cut (x ∷ extents) start end zero e fill at =
    let here : x ≡ e = cc in
    let first : x.first ≡ e.first = ap (λ (y : Extent). y.first) here in
    (omega (arith, fill.0), omega (arith, fill.0, fill_le extents (start + x.length) end fill.1))
fill_cut (x ∷ extents) start end (suc i) e fill at =
    let rest = fill_cut extents (start + x.length) end i e fill.1 at in
    ((fill.0, rest.0), rest.1)

ascend_cut : (extents : List Extent) (low made i : ℕ) → Ascend low extents made → Ascend low (take i extents) made
ascend_cut extents low made zero ascend = ascend_le extents low made ascend
ascend_cut [] low made (suc i) ascend = ascend
ascend_cut (e ∷ extents) low made (suc i) ascend = (ascend.0, ascend_cut extents (e.number + 1) made i ascend.1)

module _ (extents : List Extent) (cells : List (Option ℤ)) (made keep : ℕ) (kept : AreKept extents (length cells) made) (e : Extent)
    (next : slice_get extents keep ≡ Some e) where
  -- the oldest extents are those of the cells before the next one's
  pub kept_cut : AreKept (take keep extents) (length (take e.first cells)) made
  kept_cut =
      let cut = fill_cut extents 0 (length cells) keep e kept.fill next in
      let len : length (take e.first cells) ≡ e.first = length-take-le e.first cells cut.1 in
      rw len (record {
        fill = cut.0;
        ascend = ascend_cut extents 0 made keep kept.ascend;
        few_elements = omega (arith, cut.1, kept.few_elements);
        few_objects = kept.few_objects;
      })

  -- and they are seen as the oldest objects
  pub memory_cut : memory_in (take keep extents) (take e.first cells) made ≡ popped (memory_in extents cells made) keep
  memory_cut =
      let cut = fill_cut extents 0 (length cells) keep e kept.fill next in
      let same = same_objects (take keep extents) (take e.first cells) cells 0 e.first cut.0 (elements_cut cells e.first) in
      ap (λ (live : List Object). let m : Memory = record { live = live; made = made } in m) (same ∙ sym (take-map (object_in cells) keep extents))

fill_more : (extents : List Extent) (start end : ℕ) (e : Extent) → Fill start extents end → e.first ≡ end → Fill start (extents ++ e ∷ []) (end + e.length)
fill_more [] start end e fill first = (omega (arith, fill, first), omega (arith, fill))
fill_more (x ∷ extents) start end e fill first = (fill.0, fill_more extents (start + x.length) end e fill.1 first)

ascend_more : (extents : List Extent) (low made : ℕ) (e : Extent) → Ascend low extents made → e.number ≡ made → Ascend low (extents ++ e ∷ []) (made + 1)
ascend_more [] low made e ascend number = (omega (arith, ascend, number), omega (arith, number))
ascend_more (x ∷ extents) low made e ascend number = (ascend.0, ascend_more extents (x.number + 1) made e ascend.1 number)

-- what isn't over the limits is within them
pub within_limits : (live n made : ℕ) → is_over_limit live n made ≡ false → (live + n ≤ 4194304) × (made < 2 ^ 62)
within_limits live n made within = elim (leb_tells (suc 4194304) (live + n)) [
  | inl over ↦ absurd (true≢false (sym (rw over.0 refl) ∙ within))
  | inr few ↦ elim (leb_tells (2 ^ 62) made) [
    | inl over ↦ absurd (true≢false (sym (rw (few.0, over.0) refl) ∙ within))
    | inr some ↦ (omega (arith, few.1), some.1)
  ]
]

-- what is seen of the cells is past the limit as they are
pub limit_seen : (extents : List Extent) (cells : List (Option ℤ)) (made : ℕ) (m : Memory) (n : ℕ) → AreKept extents (length cells) made
    → memory_in extents cells made ≡ m → is_over_limit (live_elements m) n m.made ≡ is_over_limit (length cells) n made
limit_seen extents cells made m n kept seen =
    sym (ap (λ (of : Memory). is_over_limit (live_elements of) n of.made) seen)
    ∙ ap (λ (k : ℕ). is_over_limit k n made) (live_kept extents cells made kept)

-- a new object has as many elements as it was asked for
pub length_made : (start : Start) (n : ℕ) → HasLength start n → length (elements_at start n) ≡ n
length_made Unset n has = length-replicate n None
length_made Zero n has = length-replicate n (Some (pos 0))
length_made (Literal bytes) n has = length-map bytes.now _ ∙ has

module _ (extents : List Extent) (cells : List (Option ℤ)) (made : ℕ) (kept : AreKept extents (length cells) made) (start : Start) (n : ℕ)
    (has : HasLength start n) where
  -- the extent of the new object
  abbrev next_extent : Extent
  next_extent = extent_made start n made (length cells)

  pub kept_more : is_over_limit (length cells) n made ≡ false
      → AreKept (extents ++ extent_made start n made (length cells) ∷ []) (length (cells ++ elements_at start n)) (made + 1)
  kept_more within =
      let few : (length cells + n ≤ 4194304) × (made < 2 ^ 62) = within_limits (length cells) n made within in
      let len : length (cells ++ elements_at start n) ≡ length cells + n = omega (arith, length-append cells (elements_at start n), length_made start n has) in
      rw len (record {
        fill = fill_more extents 0 (length cells) next_extent kept.fill refl;
        ascend = ascend_more extents 0 made next_extent kept.ascend refl;
        few_elements = few.0;
        few_objects = omega (arith, few.1);
      })

  new_elements : take n (drop (length cells) (cells ++ elements_at start n)) ≡ elements_at start n
  new_elements =
      ap (take n) (drop-append_seam cells (elements_at start n))
      ∙ ap (λ (k : ℕ). take k (elements_at start n)) (sym (length_made start n has)) ∙ take-length (elements_at start n)

  memory_more : memory_in (extents ++ next_extent ∷ []) (cells ++ elements_at start n) (made + 1)
      ≡ record { live = objects_in extents cells ++ next_object (memory_in extents cells made) start n ∷ []; made = made + 1 }
  unfolding with_elements
  memory_more =
      let old = same_objects extents (cells ++ elements_at start n) cells 0 (length cells) kept.fill (elements_grown cells (elements_at start n)) in
      let first : length cells ≡ live_elements (memory_in extents cells made) = sym (live_kept extents cells made kept) in
      let new : object_in (cells ++ elements_at start n) next_extent ≡ next_object (memory_in extents cells made) start n =
      ap (with_elements next_extent) new_elements
      ∙ ap (λ (k : ℕ). let o : Object = record { number = made; first = k; writable = is_writable start; elements = elements_at start n } in o) first in
      ap (λ (live : List Object). let m : Memory = record { live = live; made = made + 1 } in m)
      (map-append (object_in (cells ++ elements_at start n)) extents (next_extent ∷ []) ∙ joined old new)
    where
      joined : {xs ys : List Object} {x y : Object} → xs ≡ ys → x ≡ y → xs ++ x ∷ [] ≡ ys ++ y ∷ []
      joined p q = cc

  -- the memory that the push is to make
  pub memory_pushed : is_over_limit (length cells) n made ≡ false → push_of (memory_in extents cells made) start n
      ≡ Some (memory_in (extents ++ extent_made start n made (length cells) ∷ []) (cells ++ elements_at start n) (made + 1))
  memory_pushed within =
      let unlimited : is_over_limit (live_elements (memory_in extents cells made)) n made ≡ false =
      ap (λ (k : ℕ). is_over_limit k n made) (live_kept extents cells made kept) ∙ within in
      let next : Memory = record { live = objects_in extents cells ++ next_object (memory_in extents cells made) start n ∷ []; made = made + 1 } in
      ap (λ (b : Bool). cond b None (Some next)) unlimited ∙ ap Some (sym memory_more)
