-- Entries compared by their numbers.
use Rattle.std.proofs.Common.{◌≡◌, ℕ, zero, suc, ◌<◌, ◌⊎◌, inl, inr, true, false, List, [], ◌∷◌, ◌++◌, length, Some, slice_get, refl, sym, ap, ◌∙◌, subst, arith}
use Rattle.std.proofs.lemmas.Bool.{cases_order}
use Rattle.std.proofs.lemmas.Cmp.{by_ranked, nat_list_cmp_total, ranked}
use Rattle.std.proofs.lemmas.Option.{none-some, same_Some, slice_get_within}
use Rattle.std.specs.Cmp.Lexicographic.{slice_cmp}
use Rattle.std.specs.Ordering.{MatchOrdering, is_lt, nat_cmp, ordering_reverse, ordering_then}
use Rattle.std.specs.declared.cmp.Ordering.{Ordering}
use Rattle.std.specs.declared.cmp.Ordering.TheVariants.{Less, Equal, Greater}
use Rattle.k_dict_entries.specs.Entries.{AreApart}
use Rattle.k_dict_entries.specs.declared.entry.Entry.{Entry}
use Rattle.k_dict_entries.specs.declared.entry.Run.{Run}
use Rattle.k_dict_entries.proofs.Places.{place_of_push}
use Rattle.k_sum_order.specs.Order.{AreInOrder, ComesBefore, behind, key_of, run_numbers}
use Rattle.k_sum_order.specs.Placing.{AreLinked, GoesOn}

abbrev compared : List ℕ → List ℕ → Ordering
compared xs ys = slice_cmp nat_cmp xs ys

then_equal : (o p : Ordering) → ordering_then o p ≡ Equal → (o ≡ Equal) × (p ≡ Equal)
then_equal Less p h = let no : ⊥ = cc in absurd no
then_equal Equal p h = (refl, h)
then_equal Greater p h = let no : ⊥ = cc in absurd no

nat_equal : (x y : ℕ) → nat_cmp x y ≡ Equal → x ≡ y
nat_equal x y h = let P : Ordering → Type 0 = λ o. MatchOrdering o (x < y) (x ≡ y) (y < x) in subst P h (ranked x y (nat_cmp x y) refl)

nat_less : (x y : ℕ) → x < y → nat_cmp x y ≡ Less
nat_less x y less =
    by_ranked (x < y) (x ≡ y) (y < x) (nat_cmp x y) (ranked x y (nat_cmp x y) refl) (λ is _. is) (λ _ same. absurd (omega arith)) (λ _ more. absurd (omega arith))

equal_is : (xs ys : List ℕ) → compared xs ys ≡ Equal → xs ≡ ys
equal_is [] [] h = refl
equal_is [] (y ∷ ys) h = let no : ⊥ = cc in absurd no
equal_is (x ∷ xs) [] h = let no : ⊥ = cc in absurd no
equal_is (x ∷ xs) (y ∷ ys) h =
    let both = then_equal (nat_cmp x y) (compared xs ys) h in
    let first : x ≡ y = nat_equal x y both.0 in
    let rest : xs ≡ ys = equal_is xs ys both.1 in
    λ i. first i ∷ rest i

runs_are : (one other : List Run) → run_numbers one ≡ run_numbers other → one ≡ other
runs_are [] [] h = refl
runs_are [] (s ∷ other) h = let no : ⊥ = cc in absurd no
runs_are (r ∷ one) [] h = let no : ⊥ = cc in absurd no
runs_are (r ∷ one) (s ∷ other) h =
    let entry : r.entry ≡ s.entry = cc in
    let count : r.count ≡ s.count = cc in
    let later : run_numbers one ≡ run_numbers other = cc in
    let rest : one ≡ other = runs_are one other later in
    λ i. record { entry = entry i; count = count i } ∷ rest i

key_is : (d e : Entry) → key_of d ≡ key_of e → d ≡ e
key_is d e h =
    let region : d.region ≡ e.region = cc in
    let work : d.work ≡ e.work = cc in
    let path : d.path ≡ e.path = cc in
    let numbers : run_numbers d.runs ≡ run_numbers e.runs = cc in
    let runs : d.runs ≡ e.runs = runs_are d.runs e.runs numbers in
    λ i. record { region = region i; work = work i; path = path i; runs = runs i }

turned : (d e : Entry) → compared (key_of d) (key_of e) ≡ ordering_reverse (compared (key_of e) (key_of d))
turned d e = nat_list_cmp_total.antisymm (key_of d) (key_of e)

-- of two entries not each comes before the other
pub before_not : (d e : Entry) → ComesBefore d e → ComesBefore e d → ⊥
before_not d e first second =
    let reversed : Less ≡ Greater = sym first ∙ turned d e ∙ ap ordering_reverse second in cc

pub before_itself : (e : Entry) → ComesBefore e e → ⊥
before_itself e first = before_not e e first first

-- one of two comes before the other, or they are one
pub before_or : (d e : Entry) → ComesBefore d e ⊎ ((d ≡ e) ⊎ ComesBefore e d)
before_or d e = by (compared (key_of d) (key_of e)) refl
  where
    by : (o : Ordering) → compared (key_of d) (key_of e) ≡ o → ComesBefore d e ⊎ ((d ≡ e) ⊎ ComesBefore e d)
    by Less h = inl h
    by Equal h = inr (inl (key_is d e (equal_is (key_of d) (key_of e) h)))
    by Greater h = inr (inr (turned e d ∙ ap ordering_reverse h))

-- an entry that may stand behind fewer comes first
pub fewer_before : (d e : Entry) → behind d.runs < behind e.runs → ComesBefore d e
fewer_before d e less =
    ap (λ o. ordering_then o (compared (d.region ∷ d.work ∷ d.path ∷ run_numbers d.runs) (e.region ∷ e.work ∷ e.path ∷ run_numbers e.runs)))
    (nat_less (behind d.runs) (behind e.runs) less)

-- where no key is lower, the entry does not come first
pub not_lower : (d e : Entry) → is_lt (compared (key_of d) (key_of e)) ≡ false → ComesBefore d e → ⊥
not_lower d e not first = let lower : true ≡ false = sym (ap is_lt first) ∙ not in cc

-- entries in order are apart
pub order_apart : (entries : List Entry) → AreInOrder entries → AreApart entries
order_apart entries order m n e at at' = elim (cases_order m n) [
  | inl same ↦ same
  | inr other ↦ elim other [
    | inl less ↦ absurd (before_itself e (order m n e e less at at'))
    | inr more ↦ absurd (before_itself e (order n m e e more at' at))
  ]
]

-- entries in order, and one more that each of them comes before
pub order_push : (entries : List Entry) (e : Entry) → AreInOrder entries → ((k : ℕ) (d : Entry) → slice_get entries k ≡ Some d → ComesBefore d e)
    → AreInOrder (entries ++ e ∷ [])
order_push entries e order before m n c d less at at' = elim (place_of_push entries e n d at') [
  | inl here ↦ elim (place_of_push entries e m c at) [
    | inl there ↦ order m n c d less there here
    | inr last ↦ (let within = within_of n d here in absurd (omega arith))
  ]
  | inr last ↦ elim (place_of_push entries e m c at) [
    | inl there ↦ (let P : Entry → Type 0 = ComesBefore c in subst P (sym last.1) (before m c there))
    | inr both ↦ absurd (omega arith)
  ]
]
  where
    within_of : (n : ℕ) (d : Entry) → slice_get entries n ≡ Some d → n < length entries
    within_of n d at = slice_get_within entries n d at

-- where each of two entries stands tells which comes first
pub place_before : (entries : List Entry) → AreInOrder entries → (m n : ℕ) (d e : Entry) → slice_get entries m ≡ Some d → slice_get entries n ≡ Some e
    → ComesBefore d e → m < n
place_before entries order m n d e at at' first = elim (cases_order m n) [
  | inl same ↦ (let P : ℕ → Type 0 = λ k. slice_get entries k ≡ Some e in
      let one : d ≡ e = same_Some d e (sym at ∙ subst P (sym same) at') in
      let Q : Entry → Type 0 = λ x. ComesBefore x e in absurd (before_itself e (subst Q one first)))
  | inr other ↦ elim other [
    | inl less ↦ less
    | inr more ↦ absurd (before_not d e first (order n m e d more at' at))
  ]
]

-- ---- neighbours in order

goes_further : (c d e : Entry) → ComesBefore c d → ComesBefore d e → ComesBefore c e
goes_further c d e first second = nat_list_cmp_total.trans (key_of c) (key_of d) (key_of e) first second

before_all : (c : Entry) (entries : List Entry) → GoesOn c entries → AreLinked entries → (n : ℕ) (e : Entry) → slice_get entries n ≡ Some e → ComesBefore c e
before_all c [] first linked n e at = absurd (none-some e at)
before_all c (d ∷ entries) first linked zero e at = let P : Entry → Type 0 = ComesBefore c in subst P (same_Some d e at) first
before_all c (d ∷ entries) first linked (suc n) e at = goes_further c d e first (before_all d entries linked.0 linked.1 n e at)

-- entries are in order where their neighbours are
pub linked_order : (entries : List Entry) → AreLinked entries → AreInOrder entries
linked_order [] linked m n d e less at at' = absurd (none-some d at)
linked_order (c ∷ entries) linked zero zero d e less at at' = absurd (omega arith)
linked_order (c ∷ entries) linked zero (suc n) d e less at at' =
    let P : Entry → Type 0 = λ x. ComesBefore x e in subst P (same_Some c d at) (before_all c entries linked.0 linked.1 n e at')
linked_order (c ∷ entries) linked (suc m) zero d e less at at' = absurd (omega arith)
linked_order (c ∷ entries) linked (suc m) (suc n) d e less at at' = linked_order entries linked.1 m n d e (omega arith) at at'

pub order_linked : (entries : List Entry) → AreInOrder entries → AreLinked entries
order_linked [] order = tt
order_linked (c ∷ entries) order = (first entries order, order_linked entries (λ m n d e less at at'. order (suc m) (suc n) d e (omega arith) at at'))
  where
    first : (entries : List Entry) → AreInOrder (c ∷ entries) → GoesOn c entries
    first [] order = tt
    first (d ∷ entries) order = order 0 1 c d (omega arith) refl refl
