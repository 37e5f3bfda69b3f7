-- Which verdicts are among those of rows.
use Rattle.std.proofs.Common.{ℕ, ◌≡◌, ◌≢◌, ◌⊎◌, nat_eq, nat_lt, Bool, true, false, List, [], ◌∷◌, ◌++◌, Option, Some, None, refl, sym, ap, ◌∙◌, subst, inl, inr}
use Rattle.std.specs.Prelude.{if◌then◌else◌}
use Rattle.std.proofs.lemmas.Bool.Decides.{eqb_tells}
use Rattle.k_optab.specs.declared.event.Event.{Event}
use Rattle.k_optab.specs.declared.region.Region.{Region}
use Rattle.k_carry_pairs.specs.declared.pairs.LoopPairs.{LoopPairs}
use Rattle.k_carry_pairs.specs.declared.pairs.Pair.{Pair}
use Rattle.k_carry_pairs.specs.Carried.{AllPass, AreCarried, AreSorted, IsAmong, IsPair}
use Rattle.k_carry_storage_pairs.specs.declared.pairs.LoopStorage.{LoopStorage}
use Rattle.k_carry_storage_pairs.specs.declared.pairs.Shared.{Shared}
use Rattle.k_selfpar.specs.declared.row.Row.{Row}
use Rattle.k_advise_verdicts.specs.declared.facts.LoopFacts.{LoopFacts}
use Rattle.k_advise_verdicts.specs.declared.standing.Standing.{Standing}
use Rattle.k_advise_verdicts.specs.declared.word.FirstPairs.{FirstPairs}
use Rattle.k_advise_verdicts.specs.declared.word.LoopVerdict.{LoopVerdict}
use Rattle.k_advise_verdicts.specs.declared.word.Verdict.TheVariants as verdict
use Rattle.k_advise_verdicts.specs.Laws.{IsFirstPair, verdict_before}
use Rattle.k_advise_verdicts.specs.Told.{number_of_facts, number_of_pairs, number_of_storage, of_region, pairs_in, row_before, shared_in, standing_at, told, verdict_at, verdicts_of}
use Rattle.k_advise_verdicts.specs.Verdicts.{verdict_of}
use Rattle.k_advise_verdicts.proofs.Judged.{chain_is, first_among}

among_parts : {X : Type 0} (x : X) (xs ys : List X) → IsAmong x (xs ++ ys) → IsAmong x xs ⊎ IsAmong x ys
among_parts x [] ys is = inr is
among_parts x (y ∷ xs) ys (inl here) = inl (inl here)
among_parts x (y ∷ xs) ys (inr later) = elim (among_parts x xs ys later) [
  | inl one ↦ inl (inr one)
  | inr other ↦ inr other
]

among_left : {X : Type 0} (x : X) (xs ys : List X) → IsAmong x xs → IsAmong x (xs ++ ys)
among_left x [] ys is = absurd is
among_left x (y ∷ xs) ys (inl here) = inl here
among_left x (y ∷ xs) ys (inr later) = inr (among_left x xs ys later)

among_right : {X : Type 0} (x : X) (xs ys : List X) → IsAmong x ys → IsAmong x (xs ++ ys)
among_right x [] ys is = is
among_right x (y ∷ xs) ys is = inr (among_right x xs ys is)

-- the pairs of a region are those of a loop of this region
pair_of_loop : (region : ℕ) (loops : List LoopPairs) (pair : Pair) → IsAmong pair (pairs_in (of_region number_of_pairs region loops))
    → (l : LoopPairs) × IsAmong l loops × (l.region ≡ region) × IsAmong pair l.pairs
pair_of_loop region [] pair is = absurd is
pair_of_loop region (l ∷ loops) pair is = by (eqb_tells l.region region) is (λ later. pair_of_loop region loops pair later)
  where
    by : ((nat_eq l.region region ≡ true) × (l.region ≡ region)) ⊎ ((nat_eq l.region region ≡ false) × (l.region ≢ region))
        → IsAmong pair (pairs_in (if nat_eq l.region region then Some l else of_region number_of_pairs region loops))
        → (IsAmong pair (pairs_in (of_region number_of_pairs region loops)) → (k : LoopPairs) × IsAmong k loops × (k.region ≡ region) × IsAmong pair k.pairs)
        → (k : LoopPairs) × IsAmong k (l ∷ loops) × (k.region ≡ region) × IsAmong pair k.pairs
    by (inl here) among rest =
        (l, inl refl, here.1, subst (λ (b : Bool). IsAmong pair (pairs_in (if b then Some l else of_region number_of_pairs region loops))) here.0 among)
    by (inr other) among rest =
        let found : (k : LoopPairs) × IsAmong k loops × (k.region ≡ region) × IsAmong pair k.pairs =
        rest (subst (λ (b : Bool). IsAmong pair (pairs_in (if b then Some l else of_region number_of_pairs region loops))) other.0 among) in
        (found.0, inr found.1, found.2, found.3)

-- the verdict that is made for a row
abbrev made_for : ℕ → Row → Standing → LoopFacts → List Pair → List Shared → LoopVerdict
made_for start row standing f pairs storage = record { region = row.region; verdict = verdict_of start row f standing pairs storage }

made : (start : ℕ) (row : Row) (standing : Standing) (known : Option LoopFacts) (pairs : List Pair) (storage : List Shared) (v : LoopVerdict)
    → IsAmong v (told start row standing known pairs storage) → (f : LoopFacts) × (made_for start row standing f pairs storage ≡ v)
made start row standing None pairs storage v is = absurd is
made start row standing (Some f) pairs storage v (inl here) = (f, here)
made start row standing (Some f) pairs storage v (inr later) = absurd later

told_passes : (test : LoopVerdict → Bool) (start : ℕ) (row : Row) (standing : Standing) (known : Option LoopFacts) (pairs : List Pair) (storage : List Shared)
    (rest : List LoopVerdict) → ((f : LoopFacts) → test (made_for start row standing f pairs storage) ≡ true) → AllPass test rest
    → AllPass test (told start row standing known pairs storage ++ rest)
told_passes test start row standing None pairs storage rest it all = all
told_passes test start row standing (Some f) pairs storage rest it all = (it f, all)

told_sorted : (start : ℕ) (row : Row) (standing : Standing) (known : Option LoopFacts) (pairs : List Pair) (storage : List Shared)
    (rest : List LoopVerdict) → AllPass (λ (v : LoopVerdict). nat_lt row.region v.region) rest → AreSorted verdict_before rest
    → AreSorted verdict_before (told start row standing known pairs storage ++ rest)
told_sorted start row standing None pairs storage rest all sorted = sorted
told_sorted start row standing (Some f) pairs storage rest all sorted = (all, sorted)

module _ (start : ℕ) (facts : List LoopFacts) (standings : List Standing) (carried : List LoopPairs) (shared : List LoopStorage) where
  abbrev at_row : Row → List LoopVerdict
  at_row row = verdict_at start facts standings carried shared row

  abbrev of_rows : List Row → List LoopVerdict
  of_rows rows = verdicts_of start facts standings carried shared rows

  no_rows : of_rows [] ≡ []
  unfolding verdicts_of
  no_rows = refl

  row_first : (row : Row) (rows : List Row) → of_rows (row ∷ rows) ≡ at_row row ++ of_rows rows
  unfolding verdicts_of
  row_first row rows = refl

  -- each is that of a row
  of_a_row : (rows : List Row) (v : LoopVerdict) → IsAmong v (of_rows rows) → (row : Row) × IsAmong row rows × IsAmong v (at_row row)
  of_a_row [] v is = absurd (subst (λ l. IsAmong v l) no_rows is)
  of_a_row (row ∷ rows) v is = elim (among_parts v (at_row row) (of_rows rows) (subst (λ l. IsAmong v l) (row_first row rows) is)) [
    | inl here ↦ (row, inl refl, here)
    | inr later ↦ let found : (r : Row) × IsAmong r rows × IsAmong v (at_row r) = of_a_row rows v later in (found.0, inr found.1, found.2)
  ]

  -- that of a row is one of them
  among_rows : (rows : List Row) (row : Row) (v : LoopVerdict) → IsAmong row rows → IsAmong v (at_row row) → IsAmong v (of_rows rows)
  among_rows [] row v is at = absurd is
  among_rows (r ∷ rows) row v (inl here) at =
      subst (λ l. IsAmong v l) (sym (row_first r rows)) (among_left v (at_row r) (of_rows rows) (subst (λ (x : Row). IsAmong v (at_row x)) (sym here) at))
  among_rows (r ∷ rows) row v (inr later) at =
      subst (λ l. IsAmong v l) (sym (row_first r rows)) (among_right v (at_row r) (of_rows rows) (among_rows rows row v later at))

  pub has_one : (rows : List Row) (row : Row) (f : LoopFacts) → IsAmong row rows → of_region number_of_facts row.region facts ≡ Some f
      → (v : LoopVerdict) × IsAmong v (of_rows rows) × (v.region ≡ row.region)
  has_one rows row f is known = (v, among_rows rows row v is at, refl)
    where
      v : LoopVerdict
      v = made_for start row (standing_at standings row.region) f (pairs_in (of_region number_of_pairs row.region carried))
          (shared_in (of_region number_of_storage row.region shared))

      at : IsAmong v (at_row row)
      at = subst (λ (o : Option LoopFacts). IsAmong v (told start row (standing_at standings row.region) o (pairs_in (of_region number_of_pairs row.region carried))
          (shared_in (of_region number_of_storage row.region shared)))) (sym known) (inl refl)

  rows_pass : (region : ℕ) (rows : List Row) → AllPass (λ (r : Row). nat_lt region r.region) rows → AllPass (λ (v : LoopVerdict). nat_lt region v.region) (of_rows rows)
  rows_pass region [] all = subst (λ l. AllPass (λ (v : LoopVerdict). nat_lt region v.region) l) (sym no_rows) tt
  rows_pass region (row ∷ rows) all =
      subst (λ l. AllPass (λ (v : LoopVerdict). nat_lt region v.region) l) (sym (row_first row rows))
      (told_passes (λ (v : LoopVerdict). nat_lt region v.region) start row (standing_at standings row.region) (of_region number_of_facts row.region facts)
      (pairs_in (of_region number_of_pairs row.region carried)) (shared_in (of_region number_of_storage row.region shared)) (of_rows rows) (λ f. all.0)
      (rows_pass region rows all.1))

  pub none_has_two : (rows : List Row) → AreSorted row_before rows → AreSorted verdict_before (of_rows rows)
  none_has_two [] sorted = subst (λ l. AreSorted verdict_before l) (sym no_rows) tt
  none_has_two (row ∷ rows) sorted =
      subst (λ l. AreSorted verdict_before l) (sym (row_first row rows))
      (told_sorted start row (standing_at standings row.region) (of_region number_of_facts row.region facts)
      (pairs_in (of_region number_of_pairs row.region carried)) (shared_in (of_region number_of_storage row.region shared)) (of_rows rows)
      (rows_pass row.region rows sorted.0) (none_has_two rows sorted.1))

  pub own_chain : (regions : List Region) (depth : ℕ) (events : List Event) (rows : List Row) (v : LoopVerdict) (pairs : FirstPairs) (pair : Pair)
      → AreCarried regions depth events carried → IsAmong v (of_rows rows) → v.verdict ≡ verdict.Chain pairs → IsFirstPair pair pairs
      → IsPair depth events v.region pair
  own_chain regions depth events rows v pairs pair are among is one =
      let of_row : (row : Row) × IsAmong row rows × IsAmong v (at_row row) = of_a_row rows v among in
      let row : Row = of_row.0 in
      let own : List Pair = pairs_in (of_region number_of_pairs row.region carried) in
      let storage : List Shared = shared_in (of_region number_of_storage row.region shared) in
      let it : (f : LoopFacts) × (made_for start row (standing_at standings row.region) f own storage ≡ v) =
      made start row (standing_at standings row.region) (of_region number_of_facts row.region facts) own storage v of_row.2 in
      let f : LoopFacts = it.0 in
      let same : made_for start row (standing_at standings row.region) f own storage ≡ v = it.1 in
      let here : IsAmong pair own =
      first_among own pairs pair (chain_is start row f (standing_at standings row.region) own storage pairs (ap (λ (x : LoopVerdict). x.verdict) same ∙ is)) one in
      let found : (l : LoopPairs) × IsAmong l carried × (l.region ≡ row.region) × IsAmong pair l.pairs = pair_of_loop row.region carried pair here in
      let region : found.0.region ≡ v.region = found.2 ∙ ap (λ (x : LoopVerdict). x.region) same in
      subst (λ n. IsPair depth events n pair) region ((are.sound found.0 found.1).sound pair found.3)
