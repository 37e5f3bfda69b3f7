-- A worked example of the definitions, with numbers that were found by hand: a loop of six turns, of which every second one does more.
use Rattle.std.proofs.Common.{◌≡◌, ℕ, zero, suc, ◌<◌, ◌≤◌, cond, List, [], ◌∷◌, length, Some, slice_get, refl, sym, ap, ◌∙◌, subst, arith}
use Rattle.std.specs.Int.{IsGcd}
use Rattle.std.proofs.lemmas.Bool.{ne_eqb}
use Rattle.std.proofs.lemmas.Nat.Gcd.{IsGcd-from_mod, IsGcd-from_zero}
use Rattle.std.proofs.lemmas.Option.{none-some, same_Some}
use Rattle.k_optab.specs.declared.node.Node.{Node}
use Rattle.k_optab.specs.declared.region.RegionKind.TheVariants.{Func, Loop, Body}
use Rattle.k_dict_entries.specs.Trees.{alone, bare, grown, list_of}
use Rattle.k_dict_entries.proofs.Walking.{walk_is}
use Rattle.k_selfpar.specs.Contexts.{AreUnder, group, none}
use Rattle.k_selfpar.specs.Ratio.{IsRatio}
use Rattle.k_selfpar.specs.Rows.{HasRow, IsRow, of_region}
use Rattle.k_selfpar.specs.declared.row.Row.{Row}
use Rattle.k_selfpar.proofs.Lowest.{quotients_ratio}
use Rattle.k_selfpar_laws.specs.Example.{HasContexts, HasEntries, HasRows, context, label, odd_sum, regions, row, rows, turns}

-- its dictionary has two kinds of turns, the loop and the function
pub dictionary : HasEntries
dictionary = (odd_sum, refl, walk_is odd_sum)

ratio_loop : IsRatio 35 4 35 4
ratio_loop =
    let g : IsGcd 35 4 1 = IsGcd-from_mod 35 4 1 (IsGcd-from_mod 4 3 1 (IsGcd-from_mod 3 1 1 (IsGcd-from_zero 1 0 refl))) in
    quotients_ratio 35 4 1 (omega arith) g

ratio_function : IsRatio 4 4 1 1
ratio_function = quotients_ratio 4 4 4 (omega arith) (IsGcd-from_mod 4 4 4 (IsGcd-from_zero 4 0 refl))

ratio_turns : IsRatio 15 15 1 1
ratio_turns = quotients_ratio 15 15 15 (omega arith) (IsGcd-from_mod 15 15 15 (IsGcd-from_zero 15 0 refl))

some_1 : 0 < 1
some_1 = omega arith

some_6 : 0 < 6
some_6 = omega arith

row_0 : IsRow (list_of odd_sum) (row 0 1 35 4 1 1)
row_0 = record { some = some_1; instances = refl; work = refl; path = refl; sp = ratio_function }

row_1 : IsRow (list_of odd_sum) (row 1 1 35 4 35 4)
row_1 = record { some = some_1; instances = refl; work = refl; path = refl; sp = ratio_loop }

row_2 : IsRow (list_of odd_sum) (row 2 6 15 15 1 1)
row_2 = record { some = some_6; instances = refl; work = refl; path = refl; sp = ratio_turns }

-- no instance is of a further region
abbrev AreLow : List Node → Type 0
AreLow [] = Unit {0}
AreLow (n ∷ nodes) = (n.region < 3) × AreLow nodes

none_of : (region : ℕ) (nodes : List Node) → AreLow nodes → 3 ≤ region → length (of_region region nodes) ≡ 0
none_of region [] are_low le = refl
none_of region (n ∷ nodes) are_low le =
    let lt : n.region < 3 = are_low.0 in
    ap (λ b. length (cond b (n ∷ of_region region nodes) (of_region region nodes))) (ne_eqb n.region region (λ is. absurd (omega arith)))
    ∙ none_of region nodes are_low.1 le

low : AreLow (list_of odd_sum)
low =
    let a : 0 < 3 = omega arith in
    let b : 1 < 3 = omega arith in
    let c : 2 < 3 = omega arith in (a, (b, (c, (c, (c, (c, (c, (c, tt))))))))

-- its rows
pub are_rows : HasRows
are_rows = record {
  each = each;
  whole = whole;
  order = λ j k a b lt at also. let one_place = place j a at in let other_place = place k b also in omega arith;
}
  where
    each : (k : ℕ) (r : Row) → slice_get rows k ≡ Some r → IsRow (list_of odd_sum) r
    each zero r at = subst (λ (x : Row). IsRow (list_of odd_sum) x) (same_Some (row 0 1 35 4 1 1) r at) row_0
    each (suc zero) r at = subst (λ (x : Row). IsRow (list_of odd_sum) x) (same_Some (row 1 1 35 4 35 4) r at) row_1
    each (suc (suc zero)) r at = subst (λ (x : Row). IsRow (list_of odd_sum) x) (same_Some (row 2 6 15 15 1 1) r at) row_2
    each (suc (suc (suc k))) r at = absurd (none-some r at)

    place : (k : ℕ) (r : Row) → slice_get rows k ≡ Some r → r.region ≡ k
    place zero r at = sym (ap (λ (x : Row). x.region) (same_Some (row 0 1 35 4 1 1) r at))
    place (suc zero) r at = sym (ap (λ (x : Row). x.region) (same_Some (row 1 1 35 4 35 4) r at))
    place (suc (suc zero)) r at = sym (ap (λ (x : Row). x.region) (same_Some (row 2 6 15 15 1 1) r at))
    place (suc (suc (suc k))) r at = absurd (none-some r at)

    whole : (region : ℕ) → 0 < length (of_region region (list_of odd_sum)) → HasRow rows region
    whole zero there = (0, row 0 1 35 4 1 1, refl, refl)
    whole (suc zero) there = (1, row 1 1 35 4 35 4, refl, refl)
    whole (suc (suc zero)) there = (2, row 2 6 15 15 1 1, refl, refl)
    whole (suc (suc (suc region))) there = absurd (let none_there = none_of (suc (suc (suc region))) (list_of odd_sum) low (omega arith) in omega arith)

-- and its contexts
pub are_contexts : HasContexts
are_contexts = (
  odd_sum,
  refl,
  group regions 0 0 0 (alone odd_sum) (context 0 0 Func 1 0 35 4 1 1) (context 0 1 Loop 1 6 35 4 35 4 ∷ context 1 2 Body 6 0 15 15 1 1 ∷ []) [] some_1
      (omega arith, tt)
      (record { parent_is = refl; region_is = refl; kind = refl; instances = refl; turns = refl; work = refl; path = refl; sp = ratio_function })
      loop (none regions 0 3),
)
  where
    body : AreUnder regions 1 2 turns (context 1 2 Body 6 0 15 15 1 1 ∷ [])
    body =
        let here : 2 ≤ 2 = omega arith in
        group regions 1 2 2 turns (context 1 2 Body 6 0 15 15 1 1) [] [] some_6
        (here, (here, (here, (here, (here, (here, tt))))))
        (record { parent_is = refl; region_is = refl; kind = refl; instances = refl; turns = refl; work = refl; path = refl; sp = ratio_turns })
        (none regions 2 3) (none regions 1 3)

    loop : AreUnder regions 0 1 (grown (label 1 35 4) turns bare) (context 0 1 Loop 1 6 35 4 35 4 ∷ context 1 2 Body 6 0 15 15 1 1 ∷ [])
    loop =
        group regions 0 1 1 (grown (label 1 35 4) turns bare) (context 0 1 Loop 1 6 35 4 35 4) (context 1 2 Body 6 0 15 15 1 1 ∷ []) [] some_1
        (omega arith, tt)
        (record { parent_is = refl; region_is = refl; kind = refl; instances = refl; turns = refl; work = refl; path = refl; sp = ratio_loop })
        body (none regions 0 3)
