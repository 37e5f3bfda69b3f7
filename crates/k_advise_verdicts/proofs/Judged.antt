-- What follows from the verdict on one loop.
use Rattle.std.proofs.Common.{ℕ, zero, suc, ◌≡◌, ◌&&◌, Bool, true, false, List, [], ◌∷◌, Option, Some, None, slice_get, refl, sym, ap, ◌∙◌, subst, inl, inr}
use Rattle.std.specs.Prelude.{if◌then◌else◌, not, option_map}
use Rattle.std.proofs.lemmas.Bool.{and_parts, cases_Bool, false≢true}
use Rattle.std.proofs.lemmas.Option.{none-some, same_Some}
use Rattle.k_num.specs.declared.place.Place.{Place}
use Rattle.k_carry_pairs.specs.declared.pairs.Pair.{Pair}
use Rattle.k_carry_pairs.specs.Carried.{IsAmong}
use Rattle.k_carry_storage_pairs.specs.declared.pairs.Shared.{Shared}
use Rattle.k_selfpar.specs.declared.row.Row.{Row}
use Rattle.k_advise_verdicts.specs.declared.facts.Failing.{Failing}
use Rattle.k_advise_verdicts.specs.declared.facts.LoopFacts.{LoopFacts}
use Rattle.k_advise_verdicts.specs.declared.standing.Standing.{Standing}
use Rattle.k_advise_verdicts.specs.declared.word.FirstPairs.{FirstPairs}
use Rattle.k_advise_verdicts.specs.declared.word.InCommon.{InCommon}
use Rattle.k_advise_verdicts.specs.declared.word.Verdict.{Verdict}
use Rattle.k_advise_verdicts.specs.declared.word.Verdict.TheVariants as verdict
use Rattle.k_advise_verdicts.specs.Figures.{is_uneven, tenths}
use Rattle.k_advise_verdicts.specs.Laws.{IsFirstPair, IsFree, is_chain}
use Rattle.k_advise_verdicts.specs.Verdicts.{chain, first_of_them, first_pairs, has_none, in_common, inside, leaves, may_run, parallel, shares, small, uncounted, verdict_of}

-- a verdict that may be there fails a test
abbrev Fails : (Verdict → Bool) → Option Verdict → Type 0
Fails test None = Unit {0}
Fails test (Some v) = test v ≡ false

-- so do all of these
abbrev AllFail : (Verdict → Bool) → List (Option Verdict) → Type 0
AllFail test [] = Unit {0}
AllFail test (o ∷ os) = Fails test o × AllFail test os

-- then the first of them does
fails : (test : Verdict → Bool) (os : List (Option Verdict)) (last : Verdict) → AllFail test os → test last ≡ false → test (first_of_them os last) ≡ false
fails test [] last all it = it
fails test (None ∷ os) last all it = fails test os last all.1 it
fails test (Some v ∷ os) last all it = all.0

-- what is made of a value fails, if each does
mapped_fails : {X : Type 0} (test : Verdict → Bool) (made : X → Verdict) (o : Option X) → ((x : X) → test (made x) ≡ false) → Fails test (option_map made o)
mapped_fails test made None each = tt
mapped_fails test made (Some x) each = each x

small_fails : (test : Verdict → Bool) (v : Verdict) (b : Bool) → test v ≡ false → Fails test (if b then None else Some v)
small_fails test v true it = tt
small_fails test v false it = it

parallel_fails : (test : Verdict → Bool) (v : Verdict) (b : Bool) → test v ≡ false → Fails test (if b then Some v else None)
parallel_fails test v true it = it
parallel_fails test v false it = tt

abbrev is_parallel : Verdict → Bool
is_parallel (verdict.Parallel uneven) = true
is_parallel _ = false

abbrev is_inside : Verdict → Bool
is_inside (verdict.Inside pick) = true
is_inside _ = false

abbrev pick_in : Verdict → ℕ
pick_in (verdict.Inside pick) = pick
pick_in _ = 0

abbrev pairs_of : FirstPairs → Verdict → FirstPairs
pairs_of other (verdict.Chain pairs) = pairs
pairs_of other _ = other

none_there : {X : Type 0} (xs : List X) → has_none xs ≡ true → xs ≡ []
none_there [] is = refl
none_there (x ∷ xs) is = absurd (false≢true is)

pub not_set : (b : Bool) → not b ≡ true → b ≡ false
not_set true is = absurd (false≢true is)
not_set false is = refl

module _ (start : ℕ) (row : Row) (f : LoopFacts) (s : Standing) (carried : List Pair) (shared : List Shared) where
  -- the first test
  abbrev first_test : Bool
  first_test = s.picked && may_run f carried shared

  abbrev marked : Verdict
  marked = verdict.Parallel (is_uneven f.turns.count f.turns.work f.turns.greatest)

  -- those behind the third
  abbrev behind_chain : List (Option Verdict)
  behind_chain = shares f shared ∷ uncounted f ∷ leaves f ∷ small start f s ∷ []

  -- none of those behind the third passes a test that asks for another word
  others_fail : (test : Verdict → Bool) → ((x : InCommon) → test (verdict.Shared x) ≡ false) → ((x : Failing) → test (verdict.Uncounted x) ≡ false)
      → ((x : Place) → test (verdict.Leaves x) ≡ false) → ((turn price : ℕ) → test (verdict.Small turn price) ≡ false) → AllFail test behind_chain
  others_fail test share count leave save = (
    mapped_fails test verdict.Shared (in_common f shared) share,
    (
      mapped_fails test verdict.Uncounted f.uncounted count,
      (
        mapped_fails test verdict.Leaves f.leaves leave,
        (small_fails test (verdict.Small (tenths f.turns.work f.turns.count) start) s.saves (save (tenths f.turns.work f.turns.count) start), tt),
      ),
    ),
  )

  -- the verdict by the first test
  abbrev by_test : Bool → Verdict
  by_test b = first_of_them ((if b then Some marked else None) ∷ inside s ∷ chain carried ∷ behind_chain) (verdict.Serial row.sp)

  parallel_free : (uneven : Bool) → verdict_of start row f s carried shared ≡ verdict.Parallel uneven → first_test ≡ true
  parallel_free uneven is = elim (cases_Bool first_test) [
    | inl set ↦ set
    | inr unset ↦ absurd (false≢true (sym (fails is_parallel (inside s ∷ chain carried ∷ behind_chain) (verdict.Serial row.sp) (
      mapped_fails is_parallel verdict.Inside s.inside (λ x. refl),
      (
        mapped_fails is_parallel verdict.Chain (first_pairs carried) (λ x. refl),
        others_fail is_parallel (λ x. refl) (λ x. refl) (λ x. refl) (λ turn price. refl),
      ),
    ) refl) ∙ ap is_parallel (sym (ap by_test unset) ∙ is)))
  ]

  pub free : (uneven : Bool) → verdict_of start row f s carried shared ≡ verdict.Parallel uneven → IsFree f s carried shared
  free uneven is =
      let parts : (s.picked ≡ true) × (may_run f carried shared ≡ true) = and_parts s.picked (may_run f carried shared) (parallel_free uneven is) in
      let halves : ((f.markable && not f.deep) ≡ true) × ((has_none carried && has_none shared) ≡ true) =
      and_parts (f.markable && not f.deep) (has_none carried && has_none shared) parts.1 in
      let texts : (f.markable ≡ true) × (not f.deep ≡ true) = and_parts f.markable (not f.deep) halves.0 in
      let nones : (has_none carried ≡ true) × (has_none shared ≡ true) = and_parts (has_none carried) (has_none shared) halves.1 in
      record {
        picked = parts.0;
        markable = texts.0;
        looked_at = not_set f.deep texts.1;
        carries_none = none_there carried nones.0;
        shares_none = none_there shared nones.1;
      }

  -- without carried pairs it is no chain
  pub no_chain : carried ≡ [] → is_chain (verdict_of start row f s carried shared) ≡ false
  no_chain is = fails is_chain (parallel f s carried shared ∷ inside s ∷ chain carried ∷ behind_chain) (verdict.Serial row.sp) (
    parallel_fails is_chain marked first_test refl,
    (
      mapped_fails is_chain verdict.Inside s.inside (λ x. refl),
      (subst (λ l. Fails is_chain (chain l)) (sym is) tt, others_fail is_chain (λ x. refl) (λ x. refl) (λ x. refl) (λ turn price. refl)),
    ),
  ) refl

  -- what is told of a loop that is inside
  pub inside_is : (pick : ℕ) → verdict_of start row f s carried shared ≡ verdict.Inside pick → s.inside ≡ Some pick
  inside_is pick is = elim (cases_Bool first_test) [
    | inl set ↦ absurd (false≢true (ap is_inside (sym (ap by_test set) ∙ is)))
    | inr unset ↦ by s.inside refl (sym (ap by_test unset) ∙ is)
  ]
    where
      by : (o : Option ℕ) → s.inside ≡ o → first_of_them (inside s ∷ chain carried ∷ behind_chain) (verdict.Serial row.sp) ≡ verdict.Inside pick → s.inside ≡ Some pick
      by None at told = absurd (false≢true (sym (fails is_inside (inside s ∷ chain carried ∷ behind_chain) (verdict.Serial row.sp) (
        subst (λ o. Fails is_inside (option_map verdict.Inside o)) (sym at) tt,
        (
          mapped_fails is_inside verdict.Chain (first_pairs carried) (λ x. refl),
          others_fail is_inside (λ x. refl) (λ x. refl) (λ x. refl) (λ turn price. refl),
        ),
      ) refl) ∙ ap is_inside told))
      by (Some q) at told =
          at ∙ ap (λ n. Some n) (ap pick_in (sym (ap (λ o. first_of_them (option_map verdict.Inside o ∷ chain carried ∷ behind_chain) (verdict.Serial row.sp)) at) ∙ told))

  -- what is told of a chain
  pub chain_is : (pairs : FirstPairs) → verdict_of start row f s carried shared ≡ verdict.Chain pairs → first_pairs carried ≡ Some pairs
  chain_is pairs is = elim (cases_Bool first_test) [
    | inl set ↦ absurd (false≢true (ap is_chain (sym (ap by_test set) ∙ is)))
    | inr unset ↦ by s.inside refl (sym (ap by_test unset) ∙ is)
  ]
    where
      after : (o : Option FirstPairs) → first_pairs carried ≡ o → first_of_them (chain carried ∷ behind_chain) (verdict.Serial row.sp) ≡ verdict.Chain pairs
          → first_pairs carried ≡ Some pairs
      after None at told = absurd (false≢true (sym (fails is_chain (chain carried ∷ behind_chain) (verdict.Serial row.sp)
          (subst (λ o. Fails is_chain (option_map verdict.Chain o)) (sym at) tt, others_fail is_chain (λ x. refl) (λ x. refl) (λ x. refl) (λ turn price. refl)) refl) ∙ ap is_chain told))
      after (Some q) at told =
          at ∙ ap (λ n. Some n) (ap (pairs_of q) (sym (ap (λ o. first_of_them (option_map verdict.Chain o ∷ behind_chain) (verdict.Serial row.sp)) at) ∙ told))

      by : (o : Option ℕ) → s.inside ≡ o → first_of_them (inside s ∷ chain carried ∷ behind_chain) (verdict.Serial row.sp) ≡ verdict.Chain pairs
          → first_pairs carried ≡ Some pairs
      by None at told =
          after (first_pairs carried) refl (sym (ap (λ o. first_of_them (option_map verdict.Inside o ∷ chain carried ∷ behind_chain) (verdict.Serial row.sp)) at) ∙ told)
      by (Some q) at told = absurd (false≢true (ap is_chain
          (sym (ap (λ o. first_of_them (option_map verdict.Inside o ∷ chain carried ∷ behind_chain) (verdict.Serial row.sp)) at) ∙ told)))

-- what stands at a place is among them
among_at : (ps : List Pair) (k : ℕ) (pair : Pair) → slice_get ps k ≡ Some pair → IsAmong pair ps
among_at [] k pair at = absurd (none-some pair at)
among_at (p ∷ ps) zero pair at = inl (same_Some p pair at)
among_at (p ∷ ps) (suc k) pair at = inr (among_at ps k pair at)

-- each of the first three is one of them
pub first_among : (carried : List Pair) (pairs : FirstPairs) (pair : Pair) → first_pairs carried ≡ Some pairs → IsFirstPair pair pairs → IsAmong pair carried
first_among [] pairs pair is one = absurd (none-some pairs is)
first_among (p ∷ ps) pairs pair is one =
    by (same_Some (record { first = p; second = slice_get ps 0; third = slice_get ps 1 }) pairs is) one
  where
    by : record { first = p; second = slice_get ps 0; third = slice_get ps 1 } ≡ pairs → IsFirstPair pair pairs → IsAmong pair (p ∷ ps)
    by same (inl first) = inl (ap (λ (x : FirstPairs). x.first) same ∙ first)
    by same (inr (inl second)) = inr (among_at ps 0 pair (ap (λ (x : FirstPairs). x.second) same ∙ second))
    by same (inr (inr third)) = inr (among_at ps 1 pair (ap (λ (x : FirstPairs). x.third) same ∙ third))
