-- Rules of the files of sums that are decided: each holds, or does not.
use Rattle.std.proofs.Common.{◌≡◌, inl, inr, ℕ, ℤ, ◌-◌, ◌<◌, ◌≤◌, Bool, true, false, List, [], ◌∷◌, ◌++◌, length, replicate, int_lt, refl, sym, subst, arith}
use Rattle.std.proofs.lemmas.Bool.{cases_eq}
use Rattle.k_optab.specs.declared.region.Region.{Region}
use Rattle.k_dict_entries.specs.Entries.{NameBelow, NameEarlier}
use Rattle.k_dict_entries.specs.Rules.{entry_of}
use Rattle.k_dict_entries.specs.Tallies.{total}
use Rattle.k_dict_entries.specs.declared.entry.Entry.{Entry}
use Rattle.k_dict_entries.specs.declared.entry.Run.{Run}
use Rattle.k_dict_saved.specs.Extents.{capped, extents_of, no_sums, sums_from}
use Rattle.k_dict_saved.specs.Reading.{marked, marked_all}
use Rattle.k_dict_saved.specs.declared.reading.extents.Sums.{Sums}
use Rattle.k_sum.specs.declared.exits.Exit.{Exit}
use Rattle.k_sum_order.proofs.Comparing.{before_itself, before_not, before_or, linked_order, order_linked}
use Rattle.k_sum_order.specs.Order.{AreInOrder, ComesBefore}
use Rattle.k_sum_read.proofs.ExitSteps.{last_lower, lower_all}
use Rattle.k_sum_read.proofs.ListSteps.{goes_on_push, last_of_push, split}
use Rattle.k_sum_read.proofs.RootSteps.{are_within, marks_tell, roots_are, some_roots}
use Rattle.k_sum_read.specs.Reading.{AreWithin, LastIsLower, NoneIsLeft, are_all}
use Rattle.k_sum_saved.specs.SumLines.{AreLower, AreOfMain, AreOfRegion, AreRoots}
use Rattle.k_sum_saved.specs.SumRules.{AreBehind}
use Rattle.k_top_exists.proofs.Deciding.{Decided, IsMain, both_decided, decided_by, four_decided, main_decided, most_decided, rising_decided, three_decided}

-- ---- exit values

test_decided : (b : Bool) → Decided (b ≡ true)
test_decided b = decided_by b (b ≡ true) (λ h. h) (λ h. h)

lower_decided : (exits : List Exit) (value : ℤ) → Decided (AreLower exits value)
lower_decided [] value = inl tt
lower_decided (x ∷ exits) value = both_decided (test_decided (int_lt x.value value)) (lower_decided exits value)

module _ (runs total : ℕ) (exits : List Exit) (are : AreBehind runs [] exits) where
  last_decided : (value : ℤ) → Decided (LastIsLower exits value)
  last_decided value = elim (lower_decided exits value) [
    | inl low ↦ inl (last_lower exits value low)
    | inr not_so ↦ inr (λ last. not_so (lower_all runs exits value are last))
  ]

  -- an exit value that was read may stand behind these, or not
  pub exit_decided : (x : Exit) → Decided (LastIsLower exits x.value × (1 ≤ x.runs) × (x.runs ≤ runs - total))
  exit_decided x = three_decided (last_decided x.value) (most_decided 1 x.runs) (most_decided x.runs (runs - total))

-- ---- entries

-- one entry comes before another, or it does not
pub before_decided : (d e : Entry) → Decided (ComesBefore d e)
before_decided d e = elim (before_or d e) [
  | inl first ↦ inl first
  | inr other ↦ elim other [
    | inl same ↦ inr (λ first. before_itself e (let P : Entry → Type 0 = λ x. ComesBefore x e in subst P same first))
    | inr second ↦ inr (λ first. before_not d e first second)
  ]
]

-- entries in order with one more are in order, or are not
pub order_decided : (entries : List Entry) (e : Entry) → AreInOrder entries → Decided (AreInOrder (entries ++ e ∷ []))
order_decided entries e order = elim (split entries) [
  | inl none ↦ inl (let P : List Entry → Type 0 = λ l. AreInOrder (l ++ e ∷ []) in subst P (sym none) (linked_order (e ∷ []) (tt, tt)))
  | inr some ↦ behind some.0 some.1 some.2 (before_decided some.1 e)
]
  where
    P : List Entry → Type 0
    P l = AreInOrder (l ++ e ∷ [])

    behind : (before : List Entry) (d : Entry) → entries ≡ before ++ d ∷ [] → Decided (ComesBefore d e) → Decided (AreInOrder (entries ++ e ∷ []))
    behind before d is (inl first) =
        let Q : List Entry → Type 0 = AreInOrder in
        inl (subst P (sym is) (linked_order ((before ++ d ∷ []) ++ e ∷ []) (goes_on_push before d e (order_linked (before ++ d ∷ []) (subst Q is order)) first)))
    behind before d is (inr not_so) =
        inr (λ ordered. not_so (last_of_push before d e (order_linked ((before ++ d ∷ []) ++ e ∷ []) (subst P is ordered))))

-- ---- roots

region_decided : (region : ℕ) (entries : List Entry) (roots : List Run) → Decided (AreOfRegion region entries roots)
region_decided region entries [] = inl tt
region_decided region entries (root ∷ roots) = both_decided (cases_eq (entry_of entries root.entry).region region) (region_decided region entries roots)

-- roots of main, by the region of the first
main_of : (regions : List Region) (entries : List Entry) (first : Run) (later : List Run) → IsMain regions (entry_of entries first.entry).region
    → AreOfRegion (entry_of entries first.entry).region entries (first ∷ later) → AreOfMain regions entries (first ∷ later)
main_of regions entries first later main each =
    record { region = (entry_of entries first.entry).region; main = main.0; there = main.1; kind = main.2; func = main.3; each = each }

first_decided : (regions : List Region) (entries : List Entry) (first : Run) (later : List Run) → Decided (AreOfMain regions entries (first ∷ later))
first_decided regions entries first later = elim (main_decided regions (entry_of entries first.entry).region) [
  | inr not_so ↦ inr (λ are. not_so (let P : ℕ → Type 0 = IsMain regions in subst P (sym are.each.0) (are.main, are.there, are.kind, are.func)))
  | inl main ↦ elim (region_decided (entry_of entries first.entry).region entries (first ∷ later)) [
    | inl each ↦ inl (main_of regions entries first later main each)
    | inr not_so ↦ inr (λ are. not_so (let P : ℕ → Type 0 = λ n. AreOfRegion n entries (first ∷ later) in subst P (sym are.each.0) are.each))
  ]
]

-- roots, of which there are some, are of main, or not
pub roots_of_main : (regions : List Region) (entries : List Entry) (roots : List Run) → 0 < total roots → Decided (AreOfMain regions entries roots)
roots_of_main regions entries [] some = absurd (omega (arith, some))
roots_of_main regions entries (first ∷ later) some = first_decided regions entries first later

left_decided : (entries : List Entry) (roots : List Run) → NameEarlier entries → NameBelow (length entries) roots → Decided (NoneIsLeft entries roots)
left_decided entries roots earlier below =
    let tells = marks_tell entries roots earlier below in
    decided_by (are_all (marked (marked_all (replicate (length entries) false) entries) roots)) (NoneIsLeft entries roots) tells.0 tells.1

module _ (runs : ℕ) (regions : List Region) (entries : List Entry) (roots : List Run) (some : 1 ≤ runs) (most : runs ≤ 4294967295)
    (earlier : NameEarlier entries) (below : NameBelow (length entries) roots) where
  abbrev sums : Sums
  sums = sums_from entries (extents_of entries) no_sums roots

  within_decided : Decided (AreWithin runs (length entries) sums roots)
  within_decided =
      four_decided (rising_decided 0 (length entries) roots) (cases_eq (capped (total roots)) runs) (most_decided sums.works 17592186044416)
      (most_decided sums.instances 576460752303423488)

  -- the roots of so many runs, or none
  pub roots_decided : Decided (AreRoots runs regions entries roots)
  roots_decided = elim within_decided [
    | inr not_so ↦ inr (λ are. not_so (are_within runs regions entries roots sums some most below refl are))
    | inl within ↦ elim (both_decided (roots_of_main regions entries roots (some_roots runs regions entries roots sums some most below refl within.1))
        (left_decided entries roots earlier below)) [
          | inl both ↦ inl (roots_are runs regions entries roots sums some most below refl within both.0 both.1)
          | inr not_so ↦ inr (λ are. not_so (are.main, are.none_left))
        ]
  ]
