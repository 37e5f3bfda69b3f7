-- The verdicts so far, and those of the rows that are left, are all.
use Rattle.std.proofs.Common.{ℕ, ◌≡◌, ◌<◌, ◌≤◌, List, [], ◌∷◌, ◌++◌, length, Option, arith, refl, sym, ap, ◌∙◌, subst, append_assoc}
use Rattle.std.proofs.lemmas.List.{append-nil}
use Rattle.k_carry_pairs.specs.declared.pairs.LoopPairs.{LoopPairs}
use Rattle.k_carry_pairs.specs.declared.pairs.Pair.{Pair}
use Rattle.k_carry_pairs.specs.Carried.{AllPass, AreSorted}
use Rattle.k_carry_storage_pairs.specs.declared.pairs.LoopStorage.{LoopStorage}
use Rattle.k_carry_storage_pairs.specs.declared.pairs.Shared.{Shared}
use Rattle.k_selfpar.specs.declared.row.Row.{Row}
use Rattle.k_advise_verdicts.specs.declared.facts.LoopFacts.{LoopFacts}
use Rattle.k_advise_verdicts.specs.declared.standing.Standing.{Standing}
use Rattle.k_advise_verdicts.specs.declared.word.LoopVerdict.{LoopVerdict}
use Rattle.k_advise_verdicts.specs.Told.{Passes, by_number, front, number_of_facts, number_of_pairs, number_of_storage, of_region, pairs_in, row_before, shared_in, standing_at, told, verdict_at, verdicts_of}
use Rattle.k_advise_verdicts.proofs.Walking.{below}

-- the rows that are left find in one list what they find in another
abbrev pub AllFind : {X : Type 0} → (X → ℕ) → List X → List X → List Row → Type 0
AllFind number all left [] = Unit {0}
AllFind number all left (row ∷ rest) = (of_region number row.region left ≡ of_region number row.region all) × AllFind number all left rest

-- a list is left of one in which the rows that are left find the same
pub record IsLeft {X : Type 0} (number : X → ℕ) (all left : List X) (rest : List Row) : Type 0 where
  pub find : AllFind number all left rest
  pub sorted : AreSorted (by_number number) left

module _ (X : Type 0) (number : X → ℕ) (all : List X) where
  find_all : (rest : List Row) → AllFind number all all rest
  find_all [] = tt
  find_all (row ∷ rest) = (refl, find_all rest)

  pub all_left : (rest : List Row) → AreSorted (by_number number) all → IsLeft number all all rest
  all_left rest sorted = record { find = find_all rest; sorted = sorted }

  module _ (left next : List X) (row : Row) (passes : Passes number row.region left next) where
    find_later : (rest : List Row) → AllPass (row_before row) rest → AllFind number all left rest → AllFind number all next rest
    find_later [] behind find = tt
    find_later (other ∷ rest) behind find =
        (passes.same other.region (from (below row.region other.region behind.0)) ∙ find.0, find_later rest behind.1 find.1)
      where
        from : row.region < other.region → row.region ≤ other.region
        from less = omega arith

    pub next_left : (rest later : List Row) → rest ≡ row ∷ later → AreSorted row_before rest → IsLeft number all left rest → IsLeft number all next later
    next_left rest later is sorted h = record {
      find = find_later later (subst (λ l. AreSorted row_before l) is sorted).0 (subst (λ l. AllFind number all left l) is h.find).1;
      sorted = passes.sorted;
    }

    itself : (number_is : ℕ) → row.region ≡ number_is → row.region ≤ number_is
    itself n is = omega arith

    pub found : (rest later : List Row) → rest ≡ row ∷ later → IsLeft number all left rest → front number row.region next ≡ of_region number row.region all
    found rest later is h =
        passes.first ∙ passes.same row.region (itself row.region refl) ∙ (subst (λ l. AllFind number all left l) is h.find).0

module _ (start : ℕ) (facts : List LoopFacts) (standings : List Standing) (carried : List LoopPairs) (shared : List LoopStorage) (rows : List Row) where
  -- so far is told, and the lists are left
  pub record Told (facts' : List LoopFacts) (carried' : List LoopPairs) (shared' : List LoopStorage) (rest : List Row) (found : List LoopVerdict) : Type 0 where
    pub sorted : AreSorted row_before rest
    pub known : IsLeft number_of_facts facts facts' rest
    pub carry : IsLeft number_of_pairs carried carried' rest
    pub share : IsLeft number_of_storage shared shared' rest
    pub whole : found ++ verdicts_of start facts standings carried shared rest ≡ verdicts_of start facts standings carried shared rows

  pub none_told : (found : List LoopVerdict) → found ≡ [] → AreSorted row_before rows → AreSorted (by_number number_of_facts) facts
      → AreSorted (by_number number_of_pairs) carried → AreSorted (by_number number_of_storage) shared → Told facts carried shared rows found
  none_told found is rows_are facts_are carried_are shared_are = record {
    sorted = rows_are;
    known = all_left LoopFacts number_of_facts facts rows facts_are;
    carry = all_left LoopPairs number_of_pairs carried rows carried_are;
    share = all_left LoopStorage number_of_storage shared rows shared_are;
    whole = ap (λ l. l ++ verdicts_of start facts standings carried shared rows) is;
  }

  none_left : (l : List Row) → length l ≡ 0 → verdicts_of start facts standings carried shared l ≡ []
  unfolding verdicts_of
  none_left [] e = refl
  none_left (row ∷ l) e = absurd (omega arith)

  pub all_told : (facts' : List LoopFacts) (carried' : List LoopPairs) (shared' : List LoopStorage) (rest : List Row) (found : List LoopVerdict)
      → Told facts' carried' shared' rest found → length rest ≡ 0 → found ≡ verdicts_of start facts standings carried shared rows
  all_told facts' carried' shared' rest found h is =
      sym (append-nil found) ∙ ap (λ l. found ++ l) (sym (none_left rest is)) ∙ h.whole

  one_first : (row : Row) (later : List Row) → verdicts_of start facts standings carried shared (row ∷ later)
      ≡ verdict_at start facts standings carried shared row ++ verdicts_of start facts standings carried shared later
  unfolding verdicts_of
  one_first row later = refl

  module _ (facts' : List LoopFacts) (carried' : List LoopPairs) (shared' : List LoopStorage) (rest later : List Row) (old new : List LoopVerdict) (row : Row)
      (h : Told facts' carried' shared' rest old) (is : rest ≡ row ∷ later) where
    pub more_told : (facts'' : List LoopFacts) (carried'' : List LoopPairs) (shared'' : List LoopStorage) (standing : Standing) (known : Option LoopFacts)
        (pairs : List Pair) (storage : List Shared) → Passes number_of_facts row.region facts' facts'' → Passes number_of_pairs row.region carried' carried''
        → Passes number_of_storage row.region shared' shared'' → standing ≡ standing_at standings row.region → known ≡ front number_of_facts row.region facts''
        → pairs ≡ pairs_in (front number_of_pairs row.region carried'') → storage ≡ shared_in (front number_of_storage row.region shared'')
        → new ≡ old ++ told start row standing known pairs storage → Told facts'' carried'' shared'' later new
    more_told facts'' carried'' shared'' standing known pairs storage f c s at its carries shares put = record {
      sorted = (subst (λ l. AreSorted row_before l) is h.sorted).1;
      known = next_left LoopFacts number_of_facts facts facts' facts'' row f rest later is h.sorted h.known;
      carry = next_left LoopPairs number_of_pairs carried carried' carried'' row c rest later is h.sorted h.carry;
      share = next_left LoopStorage number_of_storage shared shared' shared'' row s rest later is h.sorted h.share;
      whole = ap (λ l. l ++ verdicts_of start facts standings carried shared later) (put ∙ ap (λ l. old ++ l) verdict_is)
          ∙ append_assoc old (verdict_at start facts standings carried shared row) (verdicts_of start facts standings carried shared later)
          ∙ ap (λ l. old ++ l) (sym (one_first row later) ∙ ap (verdicts_of start facts standings carried shared) (sym is)) ∙ h.whole;
    }
      where
        known_is : known ≡ of_region number_of_facts row.region facts
        known_is = its ∙ found LoopFacts number_of_facts facts facts' facts'' row f rest later is h.known

        pairs_are : pairs ≡ pairs_in (of_region number_of_pairs row.region carried)
        pairs_are = carries ∙ ap pairs_in (found LoopPairs number_of_pairs carried carried' carried'' row c rest later is h.carry)

        storage_is : storage ≡ shared_in (of_region number_of_storage row.region shared)
        storage_is = shares ∙ ap shared_in (found LoopStorage number_of_storage shared shared' shared'' row s rest later is h.share)

        verdict_is : told start row standing known pairs storage ≡ verdict_at start facts standings carried shared row
        verdict_is i = told start row (at i) (known_is i) (pairs_are i) (storage_is i)
