-- A tree has rows: one for each region that has an instance, from the lowest on.
use Rattle.std.proofs.Common.{◌≡◌, ℕ, zero, suc, ◌+◌, ◌<◌, ◌≤◌, ◌==◌, inl, inr, List, [], ◌∷◌, length, Some, slice_get, refl, sym, ap, ◌∙◌, subst, arith}
use Rattle.std.proofs.lemmas.Bool.{cases_eq, cases_lt, cond-false, ne_eqb}
use Rattle.std.proofs.lemmas.Option.{none-some, same_Some}
use Rattle.k_optab.specs.declared.node.Node.{Node}
use Rattle.k_optab.specs.Meaning.{paths, serial_of, works}
use Rattle.k_dict_entries.specs.Trees.{list_of}
use Rattle.k_selfpar.specs.Rows.{AreRows, HasRow, IsRow, of_region}
use Rattle.k_selfpar.specs.declared.row.Row.{Row}
use Rattle.k_selfpar.proofs.Under.{has_ratio}
use Rattle.k_top_exists.specs.Profiles.{RowsExist}

-- these are the rows of the regions from a number on and below another
record AreBetween (nodes : List Node) (low high : ℕ) (rows : List Row) : Type 0 where
  each : (k : ℕ) (row : Row) → slice_get rows k ≡ Some row → IsRow nodes row × (low ≤ row.region)
  whole : (region : ℕ) → low ≤ region → region < high → 0 < length (of_region region nodes) → HasRow rows region
  order : (j k : ℕ) (one other : Row) → j < k → slice_get rows j ≡ Some one → slice_get rows k ≡ Some other → one.region < other.region

none_between : (nodes : List Node) (low high : ℕ) → high ≤ low → AreBetween nodes low high []
none_between nodes low high le = record {
  each = λ k row at. absurd (none-some row at);
  whole = λ region from below some. absurd (omega arith);
  order = λ j k one other lt at behind. absurd (none-some one at);
}

-- a region without an instance has no row
without_row : (nodes : List Node) (low high : ℕ) (rows : List Row) → length (of_region low nodes) ≤ 0 → AreBetween nodes (low + 1) high rows
    → AreBetween nodes low high rows
without_row nodes low high rows none are = record {
  each = λ k row at. (let here = are.each k row at in (here.0, (let from : low + 1 ≤ row.region = here.1 in omega arith)));
  whole = λ region from below some. elim (cases_eq region low) [
    | inl is ↦ absurd (let here : 0 < length (of_region low nodes) = subst (λ r. 0 < length (of_region r nodes)) is some in omega arith)
    | inr other ↦ are.whole region (omega arith) below some
  ];
  order = are.order;
}

-- one that has an instance has a row, which stands before the others
module _ (nodes : List Node) (low high : ℕ) (first : Row) (rows : List Row) (region_is : first.region ≡ low) (is : IsRow nodes first)
    (are : AreBetween nodes (low + 1) high rows) where
  each_row : (k : ℕ) (row : Row) → slice_get (first ∷ rows) k ≡ Some row → IsRow nodes row × (low ≤ row.region)
  each_row zero row at = let P : Row → Type 0 = λ r. IsRow nodes r × (low ≤ r.region) in subst P (same_Some first row at) (is, omega arith)
  each_row (suc k) row at = let here = are.each k row at in (here.0, (let from : low + 1 ≤ row.region = here.1 in omega arith))

  in_order : (j k : ℕ) (one other : Row) → j < k → slice_get (first ∷ rows) j ≡ Some one → slice_get (first ∷ rows) k ≡ Some other
      → one.region < other.region
  in_order j zero one other lt at behind = absurd (omega arith)
  in_order zero (suc k) one other lt at behind =
      let here : first.region ≡ one.region = ap (λ (r : Row). r.region) (same_Some first one at) in
      let from : low + 1 ≤ other.region = (are.each k other behind).1 in
      omega arith
  in_order (suc j) (suc k) one other lt at behind = are.order j k one other (omega arith) at behind

  with_row : AreBetween nodes low high (first ∷ rows)
  with_row = record {
    each = each_row;
    whole = λ region from below some. elim (cases_eq region low) [
      | inl here ↦ (0, first, refl, region_is ∙ sym here)
      | inr other ↦ (let there = are.whole region (omega arith) below some in (suc there.0, there.1, there.2, there.3))
    ];
    order = in_order;
  }

module _ (nodes : List Node) where
  -- the row of a region that has an instance
  row_exists : (region : ℕ) → 0 < length (of_region region nodes) → (row : Row) × (row.region ≡ region) × IsRow nodes row
  row_exists region some =
      let sp = has_ratio (serial_of region nodes) (paths (of_region region nodes)) in (
        record {
          region = region;
          instances = length (of_region region nodes);
          work = works (of_region region nodes);
          path = paths (of_region region nodes);
          sp = (sp.0, sp.1);
        },
        refl,
        record { some = some; instances = refl; work = refl; path = refl; sp = sp.2 },
      )

  rows_between : (count low high : ℕ) → high ≡ low + count → (rows : List Row) × AreBetween nodes low high rows
  rows_between zero low high is = ([], none_between nodes low high (omega arith))
  rows_between (suc count) low high is =
      let rest : (rows : List Row) × AreBetween nodes (low + 1) high rows = rows_between count (low + 1) high (omega arith) in
      elim (cases_lt 0 (length (of_region low nodes))) [
        | inl some ↦ (let row = row_exists low some in (row.0 ∷ rest.0, with_row nodes low high row.0 rest.0 row.1 row.2 rest.1))
        | inr none ↦ (rest.0, without_row nodes low high rest.0 none rest.1)
      ]

-- a number above those of all regions that have an instance
above : List Node → ℕ
above [] = 0
above (n ∷ nodes) = (n.region + 1) + above nodes

is_below : (region : ℕ) (nodes : List Node) → 0 < length (of_region region nodes) → region < above nodes
unfolding above
is_below region [] some = absurd (omega arith)
is_below region (n ∷ nodes) some = elim (cases_eq n.region region) [
  | inl is ↦ omega arith
  | inr other ↦
      (let fewer : of_region region (n ∷ nodes) ≡ of_region region nodes =
      cond-false (n.region == region) (n ∷ of_region region nodes) (of_region region nodes) (ne_eqb n.region region other) in
      let rest = is_below region nodes (subst (λ (l : List Node). 0 < length l) fewer some) in omega arith)
]

-- any list of nodes has rows
pub list_has_rows : (nodes : List Node) → (rows : List Row) × AreRows nodes rows
list_has_rows nodes =
    let zero_more : above nodes ≡ 0 + above nodes = omega arith in
    let found = rows_between nodes (above nodes) 0 (above nodes) zero_more in (
      found.0,
      record {
        each = λ k row at. (found.1.each k row at).0;
        whole = λ region some. found.1.whole region (omega arith) (is_below region nodes some) some;
        order = found.1.order;
      },
    )

pub rows_exist : RowsExist
rows_exist t = list_has_rows (list_of t)
