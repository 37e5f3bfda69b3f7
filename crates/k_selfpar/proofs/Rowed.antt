-- The rows of items, and of the tree that they stand for.
use Rattle.std.proofs.Common.{◌≡◌, ℕ, ◌+◌, ◌*◌, ◌^◌, ◌<◌, ◌≤◌, inl, inr, Bool, true, false, ◌==◌, List, [], ◌∷◌, ◌++◌, length, Some, slice_get, refl, sym, ap, ◌∙◌, subst, arith, append_assoc, append-nil, length-append, mul-le-mul_left, if◌then◌else◌}
use Rattle.std.specs.Prelude.{All}
use Rattle.std.proofs.Math.Nat.{le_of_mul-le-mul_left}
use Rattle.std.proofs.lemmas.Bool.{cases_eq}
use Rattle.std.proofs.lemmas.List.Elements.{All-append, All-filter, All-nil, All-weaker, filter-append}
use Rattle.std.proofs.lemmas.Option.{none-some, slice_get_within}
use Rattle.k_optab.specs.Meaning.{paths, serial_of}
use Rattle.k_dict_entries.specs.Trees.{Label, Forest, alone, bare, grown}
use Rattle.k_dict_entries.specs.Entries.{NameEarlier, expansion, tree_at}
use Rattle.k_dict_entries.specs.Rules.{AreProfile}
use Rattle.k_dict_entries.specs.declared.entry.Entry.{Entry}
use Rattle.k_dict_entries.proofs.Places.{place_kept, place_of_push, place_behind}
use Rattle.k_selfpar.specs.declared.item.Item.{Item}
use Rattle.k_selfpar.specs.declared.row.Row.{Row}
use Rattle.k_selfpar.specs.Items.{AreItems, AreItemsOf, AreRowsOf, BeginsElsewhere, IsItem, IsRowOf, Rise, items_in, total, totals}
use Rattle.k_selfpar.specs.Ratio.{IsRatio}
use Rattle.k_selfpar.specs.Rows.{AreAtLeastOne, AreRows, HasRow, IsRow, of_region}
use Rattle.k_selfpar.specs.Sums.{AreSmall, all_of, one, own_of, path, serial_in, sum_of, within, work}
use Rattle.k_selfpar.proofs.Giving.{sums_add}
use Rattle.k_selfpar.proofs.ItemLists.{all_back, all_front, items_in-none, items_in-same, rise_behind, rise_first, total-append, total-in, total_some}
use Rattle.k_selfpar.proofs.Listed.{instances_are, paths_are, serials_are, works_are}
use Rattle.k_selfpar.proofs.Profile.{Bounded, instances_few, paths_few, serial_few, works_few}

-- the rows so far, of the items before the rest
pub record Rowed (entries : List Entry) (items rest : List Item) (rows : List Row) : Type 0 where
  pub before : List Item
  pub from : ℕ
  pub whole : items ≡ before ++ rest
  pub below : All (λ (i : Item). i.region < from) before
  pub rise : Rise from rest
  pub left : AreItems entries rest
  pub are : AreRowsOf entries before rows
  pub low : (k : ℕ) (row : Row) → slice_get rows k ≡ Some row → row.region < from

pub none_rowed : (entries : List Entry) (items : List Item) (rows : List Row) → AreItems entries items → Rise 0 items → rows ≡ [] → Rowed entries items items rows
none_rowed entries items rows left rise none = record {
  before = [];
  from = 0;
  whole = refl;
  below = All-nil (λ (i : Item). i.region < 0);
  rise = rise;
  left = left;
  are = record {
    each = λ k row at. absurd (nothing k row at);
    occurs = λ k row at. absurd (nothing k row at);
    whole = λ region some. absurd (omega arith);
    order = λ j k one_row other lt at also. absurd (nothing j one_row at);
  };
  low = λ k row at. absurd (nothing k row at);
}
  where
    nothing : (k : ℕ) (row : Row) → slice_get rows k ≡ Some row → ⊥
    nothing k row at = none-some row (subst (λ (l : List Row). slice_get l k ≡ Some row) none at)

-- the items of one region at the front of the rest give the next row
module _ (entries : List Entry) (items rest : List Item) (rows : List Row) (h : Rowed entries items rest rows) (first : Item) (others : List Item)
    (begins : rest ≡ first ∷ others) (group later : List Item) (split : rest ≡ group ++ later) (same : All (λ (i : Item). i.region ≡ first.region) group)
    (other : BeginsElsewhere first.region later) where
  region : ℕ
  region = first.region

  low_is : h.from ≤ first.region
  low_is = (subst (λ l. Rise h.from l) begins h.rise).0

  pub group_some : 0 < length group
  group_some = by group split
    where
      by : (g : List Item) → rest ≡ g ++ later → 0 < length g
      by [] is = absurd (subst (λ l. BeginsElsewhere first.region l) (sym is ∙ begins) other refl)
      by (i ∷ g) is = omega arith

  pub shorter : length later < length rest
  shorter = let some = group_some in let e : length rest ≡ length group + length later = ap length split ∙ length-append group later in omega arith

  pub group_items : AreItems entries group
  group_items = all_front (IsItem entries) group later (subst (AreItems entries) split h.left)

  -- the items of another region
  kept : (r : ℕ) → ¬ (r ≡ first.region) → items_in r (h.before ++ group) ≡ items_in r h.before
  kept r ne =
      filter-append (λ (i : Item). i.region == r) h.before group
      ∙ ap (λ l. items_in r h.before ++ l) (items_in-none r group (All-weaker (λ (i : Item). i.region ≡ first.region) (λ (i : Item). ¬ (i.region ≡ r)) (λ i is at. ne (sym at ∙ is)) group same))
      ∙ append-nil (items_in r h.before)

  -- those of the new one
  here : items_in first.region (h.before ++ group) ≡ group
  here =
      filter-append (λ (i : Item). i.region == first.region) h.before group
      ∙ ap (λ l. l ++ items_in first.region group)
      (items_in-none first.region h.before (All-weaker (λ (i : Item). i.region < h.from) (λ (i : Item). ¬ (i.region ≡ first.region))
      (λ i lt at. let le = low_is in absurd (omega arith)) h.before h.below))
      ∙ items_in-same first.region group same

  not_new : (n : ℕ) → n < h.from → ¬ (n ≡ first.region)
  not_new n lt is = let le = low_is in absurd (omega arith)

  module _ (row : Row) (new : List Row) (is : IsRowOf first.region (totals entries group) row) (push : new ≡ rows ++ row ∷ []) where
    in_new : (k : ℕ) (r : Row) → slice_get new k ≡ Some r → slice_get (rows ++ row ∷ []) k ≡ Some r
    in_new k r at = subst (λ (l : List Row). slice_get l k ≡ Some r) push at

    mine : IsRowOf row.region (totals entries (items_in row.region (h.before ++ group))) row
    mine =
        subst (λ r. IsRowOf r (totals entries (items_in r (h.before ++ group))) row) (sym is.region_is)
        (subst (λ l. IsRowOf first.region (totals entries l) row) (sym here) is)

    row_region : (r : Row) → r ≡ row → r.region ≡ first.region
    row_region r e = ap (λ (x : Row). x.region) e ∙ is.region_is

    each : (k : ℕ) (r : Row) → slice_get new k ≡ Some r → IsRowOf r.region (totals entries (items_in r.region (h.before ++ group))) r
    each k r at = elim (place_of_push rows row k r (in_new k r at)) [
      | inl old ↦ subst (λ l. IsRowOf r.region (totals entries l) r) (sym (kept r.region (not_new r.region (h.low k r old)))) (h.are.each k r old)
      | inr last ↦ subst (λ (x : Row). IsRowOf x.region (totals entries (items_in x.region (h.before ++ group))) x) (sym last.1) mine
    ]

    occurs : (k : ℕ) (r : Row) → slice_get new k ≡ Some r → 0 < length (items_in r.region (h.before ++ group))
    occurs k r at = elim (place_of_push rows row k r (in_new k r at)) [
      | inl old ↦ subst (λ l. 0 < length l) (sym (kept r.region (not_new r.region (h.low k r old)))) (h.are.occurs k r old)
      | inr last ↦ subst (λ n. 0 < length (items_in n (h.before ++ group))) (sym (row_region r last.1)) (subst (λ l. 0 < length l) (sym here) group_some)
    ]

    whole : (r : ℕ) → 0 < length (items_in r (h.before ++ group)) → HasRow new r
    whole r some = elim (cases_eq r first.region) [
      | inl at ↦ (length rows, row, subst (λ (l : List Row). slice_get l (length rows) ≡ Some row) (sym push) (place_behind rows row []), is.region_is ∙ sym at)
      | inr ne ↦
          let found = h.are.whole r (subst (λ l. 0 < length l) (kept r ne) some) in
          (found.0, found.1, subst (λ (l : List Row). slice_get l found.0 ≡ Some found.1) (sym push) (place_kept rows (row ∷ []) found.0 found.1 found.2), found.3)
    ]

    order : (j k : ℕ) (a b : Row) → j < k → slice_get new j ≡ Some a → slice_get new k ≡ Some b → a.region < b.region
    order j k a b lt at also = elim (place_of_push rows row k b (in_new k b also)) [
      | inl old ↦ elim (place_of_push rows row j a (in_new j a at)) [
        | inl older ↦ h.are.order j k a b lt older old
        | inr last ↦ let within_it = slice_get_within rows k b old in let place : j ≡ length rows = last.0 in absurd (omega arith)
      ]
      | inr last ↦ elim (place_of_push rows row j a (in_new j a at)) [
        | inl older ↦ let less = h.low j a older in let low = low_is in let e = row_region b last.1 in omega arith
        | inr also_last ↦ let one_place : k ≡ length rows = last.0 in let other_place : j ≡ length rows = also_last.0 in absurd (omega arith)
      ]
    ]

    low : (k : ℕ) (r : Row) → slice_get new k ≡ Some r → r.region < first.region + 1
    low k r at = elim (place_of_push rows row k r (in_new k r at)) [
      | inl old ↦ let lt = h.low k r old in let le = low_is in omega arith
      | inr last ↦ let e = row_region r last.1 in omega arith
    ]

    pub more_rowed : Rowed entries items later new
    more_rowed = record {
      before = h.before ++ group;
      from = first.region + 1;
      whole = h.whole ∙ ap (λ l. h.before ++ l) split ∙ sym (append_assoc h.before group later);
      below = All-append (λ (i : Item). i.region < first.region + 1) h.before group
          (All-weaker (λ (i : Item). i.region < h.from) (λ (i : Item). i.region < first.region + 1) (λ i lt. let le = low_is in omega arith) h.before h.below)
          (All-weaker (λ (i : Item). i.region ≡ first.region) (λ (i : Item). i.region < first.region + 1) (λ i e. omega arith) group same);
      rise = rise_behind first.region group later same other
          (subst (Rise first.region) (sym begins ∙ split) (rise_first h.from first others (subst (Rise h.from) begins h.rise)));
      left = all_back (IsItem entries) group later (subst (AreItems entries) split h.left);
      are = record { each = each; occurs = occurs; whole = whole; order = order };
      low = low;
    }

-- once no item is left, the rows are those of all items
pub all_rowed : (entries : List Entry) (items rest : List Item) (rows : List Row) → rest ≡ [] → Rowed entries items rest rows → AreRowsOf entries items rows
all_rowed entries items rest rows none h =
    subst (λ l. AreRowsOf entries l rows) (sym (h.whole ∙ ap (λ l. h.before ++ l) none ∙ append-nil h.before)) h.are

-- what a part of small items gives is small
pub small_part : (entries : List Entry) (items rest : List Item) (rows : List Row) → Rowed entries items rest rows → (group later : List Item) → rest ≡ group ++ later
    → AreSmall (totals entries items) → AreSmall (totals entries group)
small_part entries items rest rows h group later split small = record {
  instances = less (own_of one entries) small.instances;
  work = less (own_of work entries) small.work;
  path = less (own_of path entries) small.path;
  serial = less (own_of serial_in entries) small.serial;
}
  where
    less : (g : ℕ → ℕ) → total g items < 2 ^ 62 → total g group < 2 ^ 62
    less g lt =
        let a : total g items ≡ total g h.before + total g rest = ap (total g) h.whole ∙ total-append g h.before rest in
        let b : total g rest ≡ total g group + total g later = ap (total g) split ∙ total-append g group later in
        omega arith

-- a region's paths together are at most the times with children one behind the other
pub within_less : (region : ℕ) (f : Forest) → Bounded f → sum_of (within region path) f ≤ sum_of (within region serial_in) f
within_less region bare bounded = omega arith
within_less region (grown label inner later) bounded =
    let here : within region path label inner ≤ within region serial_in label inner = by (label.region == region) in
    let a = within_less region inner bounded.1 in let b = within_less region later bounded.2 in omega arith
  where
    by : (b : Bool) → (if b then path label inner else 0) ≤ (if b then serial_in label inner else 0)
    by true = bounded.0.parts
    by false = omega arith

-- a ratio of a number to one that is not above it is at least 1
pub ratio_at_least_one : (a b num den : ℕ) → b ≤ a → IsRatio a b num den → den ≤ num
ratio_at_least_one a b num den le (inl none) = let e = none.1 in let f = none.2 in omega arith
ratio_at_least_one a b num den le (inr some) = le_of_mul-le-mul_left {k = b} (compare some.2) some.0
  where
    compare : num * b ≡ a * den → b * den ≤ b * num
    compare e = let h : den * b ≤ den * a = mul-le-mul_left den le in omega arith

-- what the items of a region give is what the tree's instances of that region give
module _ (entries : List Entry) (root : ℕ) (earlier : NameEarlier entries) (items : List Item) (of : AreItemsOf entries root items) where
  pub tells_all : (own : Label → Forest → ℕ) → total (own_of own entries) items ≡ all_of own entries root
  tells_all own = of.gives (own_of own entries) (all_of own entries) (sums_add own entries earlier)

  tells : (own : Label → Forest → ℕ) (region : ℕ) → total (own_of own entries) (items_in region items) ≡ sum_of (within region own) (alone (tree_at entries root))
  tells own region = total-in entries own region items of.are ∙ tells_all (within region own)

  items_in_items : (region : ℕ) → AreItems entries (items_in region items)
  items_in_items region = All-filter (λ (i : Item). i.region == region) (IsItem entries) items of.are

  row_tells : (row : Row) → IsRowOf row.region (totals entries (items_in row.region items)) row → 0 < length (items_in row.region items) → IsRow (expansion entries root) row
  row_tells row is occurs = record {
    some = subst (λ n. 0 < n) (sym is.instances) (total_some entries (items_in row.region items) (items_in_items row.region) occurs);
    instances = is.instances ∙ tells one row.region ∙ sym (instances_are row.region (tree_at entries root));
    work = is.work ∙ tells work row.region ∙ sym (works_are row.region (tree_at entries root));
    path = is.path ∙ path_tells;
    sp = subst (λ x. IsRatio x (paths (of_region row.region (expansion entries root))) row.sp.0 row.sp.1) serial_tells
        (subst (λ x. IsRatio (total (own_of serial_in entries) (items_in row.region items)) x row.sp.0 row.sp.1) path_tells is.sp);
  }
    where
      path_tells : total (own_of path entries) (items_in row.region items) ≡ paths (of_region row.region (expansion entries root))
      path_tells = tells path row.region ∙ sym (paths_are row.region (tree_at entries root))

      serial_tells : total (own_of serial_in entries) (items_in row.region items) ≡ serial_of row.region (expansion entries root)
      serial_tells = tells serial_in row.region ∙ sym (serials_are row.region (tree_at entries root))

  pub rows_tell : (rows : List Row) → AreRowsOf entries items rows → AreRows (expansion entries root) rows
  rows_tell rows are = record {
    each = λ k row at. row_tells row (are.each k row at) (are.occurs k row at);
    whole = λ region some. are.whole region (there region some);
    order = are.order;
  }
    where
      some_items : (l : List Item) → 0 < total (λ n. 1) l → 0 < length l
      some_items [] some = absurd (omega arith)
      some_items (i ∷ l) some = omega arith

      there : (region : ℕ) → 0 < length (of_region region (expansion entries root)) → 0 < length (items_in region items)
      there region some =
          some_items (items_in region items)
          (subst (λ n. 0 < n) (instances_are region (tree_at entries root) ∙ sym (tells one region)) some)

  -- and no self-parallelism is below 1
  pub at_least_one : (rows : List Row) → Bounded (alone (tree_at entries root)) → AreRowsOf entries items rows → AreAtLeastOne rows
  at_least_one rows bounded are k row at =
      ratio_at_least_one (total (own_of serial_in entries) (items_in row.region items)) (total (own_of path entries) (items_in row.region items)) row.sp.0 row.sp.1
      less (are.each k row at).sp
    where
      less : total (own_of path entries) (items_in row.region items) ≤ total (own_of serial_in entries) (items_in row.region items)
      less =
          let a = tells path row.region in let b = tells serial_in row.region in
          let c = within_less row.region (alone (tree_at entries root)) bounded in
          omega arith

-- what items of a profile's tree come to is small
pub totals_small : (entries : List Entry) (root : ℕ) (items : List Item) → AreProfile entries → root < length entries → AreItemsOf entries root items
    → AreSmall (totals entries items)
totals_small entries root items profile lt of = record {
  instances = let a = tells_all entries root profile.interned.earlier items of one in let b = instances_few entries profile root lt in omega arith;
  work = let a = tells_all entries root profile.interned.earlier items of work in let b = works_few entries profile root lt in omega arith;
  path = let a = tells_all entries root profile.interned.earlier items of path in let b = paths_few entries profile root lt in omega arith;
  serial = let a = tells_all entries root profile.interned.earlier items of serial_in in let b = serial_few entries profile root lt in omega arith;
}
