-- Where loops stand, by what is told of the contexts of their regions together.
use Rattle.std.proofs.Common.{ℕ, zero, suc, ◌+◌, ◌≡◌, ◌≢◌, ◌⊎◌, ◌<◌, nat_eq, nat_lt, Bool, true, false, ◌||◌, List, [], ◌∷◌, ◌++◌, length, map, Option, Some, None, slice_get, arith, refl, sym, ap, ◌∙◌, subst, inl, inr}
use Rattle.std.specs.Prelude.{IsTrue, if◌then◌else◌, slice_index_or, slice_set, ◌↔◌}
use Rattle.std.proofs.lemmas.Bool.{or_cases, or_left, or_right, true≢false}
use Rattle.std.proofs.lemmas.Bool.Decides.{eqb_tells, nat_tests}
use Rattle.std.proofs.lemmas.Option.{none-some, same_Some, slice_get_within}
use Rattle.k_selfpar.specs.declared.context.Context.{Context}
use Rattle.k_plan.specs.Choices.{Choice}
use Rattle.k_advise_plan.specs.declared.team.Team.{Team}
use Rattle.k_advise_plan.specs.Saving.{threaded_saving}
use Rattle.k_advise_verdicts.specs.declared.gathering.Gathered.{Gathered}
use Rattle.k_advise_verdicts.specs.declared.placing.Placed.{Placed}
use Rattle.k_advise_verdicts.specs.declared.standing.Standing.{Standing}
use Rattle.k_advise_verdicts.specs.Placing.{AreGathered, ArePlaced, IsAdded, IsPlaced, IsUnder, Reaches, gathered, gathered_at, is_missing, joined, joined_if, nothing, standing_of, unplaced}
use Rattle.k_advise_verdicts.specs.Standings.{AreStandings, IsContextOf, IsFirstOf, IsInside, IsStanding, IsUnderPick}
use Rattle.k_advise_verdicts.specs.Told.{standing_at}
use Rattle.k_advise_verdicts.proofs.ByContext.{get_there}
use Rattle.k_advise_verdicts.proofs.Walking.{below}

is_below : (a b : ℕ) → a < b → nat_lt a b ≡ true
is_below a b less = grind (arith, nat_tests)

-- where nothing is added, the same is found
get_nothing : (table : List Gathered) (r : ℕ) → gathered_at (table ++ nothing ∷ []) r ≡ gathered_at table r
get_nothing [] zero = refl
get_nothing [] (suc r) = refl
get_nothing (g ∷ table) zero = refl
get_nothing (g ∷ table) (suc r) = get_nothing table r

get_set : (table : List Gathered) (n : ℕ) (g : Gathered) → n < length table → gathered_at (slice_set table n g) n ≡ g
get_set [] n g low = absurd (omega (arith, low))
get_set (h ∷ table) zero g low = refl
get_set (h ∷ table) (suc n) g low = get_set table n g (omega (arith, low))

get_other : (table : List Gathered) (n k : ℕ) (g : Gathered) → n ≢ k → gathered_at (slice_set table n g) k ≡ gathered_at table k
get_other [] zero k g differs = refl
get_other [] (suc n) k g differs = refl
get_other (h ∷ table) zero zero g differs = absurd (differs refl)
get_other (h ∷ table) zero (suc k) g differs = refl
get_other (h ∷ table) (suc n) zero g differs = refl
get_other (h ∷ table) (suc n) (suc k) g differs = get_other table n k g (λ same. differs (ap (λ (m : ℕ). suc m) same))

pub one_more : (old table new : List Gathered) → ((r : ℕ) → gathered_at table r ≡ gathered_at old r) → new ≡ table ++ nothing ∷ []
    → (r : ℕ) → gathered_at new r ≡ gathered_at old r
one_more old table new same is r = ap (λ (l : List Gathered). gathered_at l r) is ∙ get_nothing table r ∙ same r

pub is_added : (p : Placed) (old between new : List Gathered) (others : Gathered) → Reaches p.region old between → others ≡ gathered_at between p.region
    → new ≡ slice_set between p.region (joined p others) → IsAdded p old new
is_added p old between new others reaches found set region = by (eqb_tells p.region region)
  where
    by : ((nat_eq p.region region ≡ true) × (p.region ≡ region)) ⊎ ((nat_eq p.region region ≡ false) × (p.region ≢ region))
        → gathered_at new region ≡ joined_if (nat_eq p.region region) p (gathered_at old region)
    by (inl (is, here)) =
        ap (λ (r : ℕ). gathered_at new r) (sym here) ∙ ap (λ (l : List Gathered). gathered_at l p.region) set
        ∙ get_set between p.region (joined p others) reaches.place ∙ ap (joined p) (found ∙ reaches.same p.region ∙ ap (gathered_at old) here)
        ∙ ap (λ (b : Bool). joined_if b p (gathered_at old region)) (sym is)
    by (inr (is, there)) =
        ap (λ (l : List Gathered). gathered_at l region) set ∙ get_other between p.region region (joined p others) there ∙ reaches.same region
        ∙ ap (λ (b : Bool). joined_if b p (gathered_at old region)) (sym is)

-- those behind the ones that are left are gathered
pub record Gathering (all rest : List Placed) (table : List Gathered) : Type 0 where
  pub done : List Placed
  pub is_all : all ≡ rest ++ done
  pub are : AreGathered done table

pub none_gathered : (all : List Placed) (table : List Gathered) → table ≡ [] → Gathering all all table
none_gathered all table is = record { done = []; is_all = nil all; are = λ r. ap (λ (l : List Gathered). gathered_at l r) is }
  where
    nil : (l : List Placed) → l ≡ l ++ []
    nil [] = refl
    nil (x ∷ l) = ap (λ (m : List Placed). x ∷ m) (nil l)

pub more_gathered : (all rest before : List Placed) (p : Placed) (table new : List Gathered) → Gathering all rest table → rest ≡ before ++ p ∷ [] → IsAdded p table new
    → Gathering all before new
more_gathered all rest before p table new h is added = record {
  done = p ∷ h.done;
  is_all = h.is_all ∙ ap (λ (l : List Placed). l ++ h.done) is ∙ between before;
  are = λ r. added r ∙ ap (joined_if (nat_eq p.region r) p) (h.are r);
}
  where
    between : (l : List Placed) → (l ++ p ∷ []) ++ h.done ≡ l ++ p ∷ h.done
    between [] = refl
    between (x ∷ l) = ap (λ (m : List Placed). x ∷ m) (between l)

pub all_gathered : (all rest : List Placed) (table : List Gathered) → Gathering all rest table → rest ≡ [] → AreGathered all table
all_gathered all rest table h is = subst (λ (l : List Placed). AreGathered l table) (sym (h.is_all ∙ ap (λ (l : List Placed). l ++ h.done) is)) h.are

-- a context of a region that passes a test
record Passes (test : Placed → Bool) (region : ℕ) (placed : List Placed) : Type 0 where
  k : ℕ
  p : Placed
  at : slice_get placed k ≡ Some p
  of : p.region ≡ region
  is : test p ≡ true

-- what is told of a region is a flag that a context of it sets, if it passes a test
module _ (test : Placed → Bool) (flag : Gathered → Bool) (none : flag nothing ≡ false) (one : (p : Placed) (others : Gathered) → flag (joined p others) ≡ (test p || flag others))
    (region : ℕ) where
  shifted : (p : Placed) (placed : List Placed) → Passes test region placed → Passes test region (p ∷ placed)
  shifted p placed found = record { k = suc found.k; p = found.p; at = found.at; of = found.of; is = found.is }

  passing : (placed : List Placed) → flag (gathered region placed) ≡ true → Passes test region placed
  passing [] is = absurd (true≢false (sym is ∙ none))
  passing (p ∷ placed) is = by (eqb_tells p.region region) (λ later. shifted p placed (passing placed later))
    where
      by : ((nat_eq p.region region ≡ true) × (p.region ≡ region)) ⊎ ((nat_eq p.region region ≡ false) × (p.region ≢ region))
          → (flag (gathered region placed) ≡ true → Passes test region (p ∷ placed)) → Passes test region (p ∷ placed)
      by (inl (here, same)) rest =
          elim (or_cases (test p) (flag (gathered region placed))
          (sym (one p (gathered region placed)) ∙ ap (λ (b : Bool). flag (joined_if b p (gathered region placed))) (sym here) ∙ is)) [
            | inl it ↦ record { k = 0; p = p; at = refl; of = same; is = it }
            | inr later ↦ rest later
          ]
      by (inr (there, differs)) rest = rest (ap (λ (b : Bool). flag (joined_if b p (gathered region placed))) (sym there) ∙ is)

  flagged : (placed : List Placed) (k : ℕ) (p : Placed) → slice_get placed k ≡ Some p → p.region ≡ region → test p ≡ true → flag (gathered region placed) ≡ true
  flagged [] k p at of is = absurd (none-some p at)
  flagged (q ∷ placed) zero p at of is = by (eqb_tells q.region region)
    where
      same : q ≡ p
      same = same_Some q p at

      by : ((nat_eq q.region region ≡ true) × (q.region ≡ region)) ⊎ ((nat_eq q.region region ≡ false) × (q.region ≢ region))
          → flag (joined_if (nat_eq q.region region) q (gathered region placed)) ≡ true
      by (inl (here, it)) =
          ap (λ (b : Bool). flag (joined_if b q (gathered region placed))) here ∙ one q (gathered region placed)
          ∙ or_left (test q) (flag (gathered region placed)) (ap test same ∙ is)
      by (inr (there, differs)) = absurd (differs (ap (λ (x : Placed). x.region) same ∙ of))
  flagged (q ∷ placed) (suc k) p at of is = by (nat_eq q.region region) (flagged placed k p at of is)
    where
      by : (b : Bool) → flag (gathered region placed) ≡ true → flag (joined_if b q (gathered region placed)) ≡ true
      by true later = one q (gathered region placed) ∙ or_right (test q) (flag (gathered region placed)) later
      by false later = later

-- the first context of a region, and the region of the pick above it
record IsFirstPlaced (region : ℕ) (placed : List Placed) (first : Option ℕ) : Type 0 where
  k : ℕ
  p : Placed
  at : slice_get placed k ≡ Some p
  of : p.region ≡ region
  first_is : first ≡ p.under
  earlier : (j : ℕ) (q : Placed) → j < k → slice_get placed j ≡ Some q → q.region ≢ region

-- there is a first one, or none
first_or_none : (region : ℕ) (placed : List Placed) → IsFirstPlaced region placed (gathered region placed).first
    ⊎ (((gathered region placed).first ≡ None) × ((k : ℕ) (p : Placed) → slice_get placed k ≡ Some p → p.region ≢ region))
first_or_none region [] = inr (refl, λ k p at. absurd (none-some p at))
first_or_none region (p ∷ placed) = by (eqb_tells p.region region) (first_or_none region placed)
  where
    apart : p.region ≢ region → ((k : ℕ) (q : Placed) → slice_get placed k ≡ Some q → q.region ≢ region)
        → (k : ℕ) (q : Placed) → slice_get (p ∷ placed) k ≡ Some q → q.region ≢ region
    apart differs later zero q at = λ same. differs (ap (λ (x : Placed). x.region) (same_Some p q at) ∙ same)
    apart differs later (suc k) q at = later k q at

    earlier : p.region ≢ region → (found : IsFirstPlaced region placed (gathered region placed).first) → (j : ℕ) (q : Placed) → j < suc found.k
        → slice_get (p ∷ placed) j ≡ Some q → q.region ≢ region
    earlier differs found zero q less at = λ same. differs (ap (λ (x : Placed). x.region) (same_Some p q at) ∙ same)
    earlier differs found (suc j) q less at = found.earlier j q (omega arith) at

    by : ((nat_eq p.region region ≡ true) × (p.region ≡ region)) ⊎ ((nat_eq p.region region ≡ false) × (p.region ≢ region))
        → (IsFirstPlaced region placed (gathered region placed).first
        ⊎ (((gathered region placed).first ≡ None) × ((k : ℕ) (q : Placed) → slice_get placed k ≡ Some q → q.region ≢ region)))
        → IsFirstPlaced region (p ∷ placed) (joined_if (nat_eq p.region region) p (gathered region placed)).first
        ⊎ (((joined_if (nat_eq p.region region) p (gathered region placed)).first ≡ None)
        × ((k : ℕ) (q : Placed) → slice_get (p ∷ placed) k ≡ Some q → q.region ≢ region))
    by (inl (here, same)) rest = inl (record {
      k = 0;
      p = p;
      at = refl;
      of = same;
      first_is = ap (λ (b : Bool). (joined_if b p (gathered region placed)).first) here;
      earlier = λ j q less at. absurd (omega arith);
    })
    by (inr (there, differs)) (inl found) = inl (record {
      k = suc found.k;
      p = found.p;
      at = found.at;
      of = found.of;
      first_is = ap (λ (b : Bool). (joined_if b p (gathered region placed)).first) there ∙ found.first_is;
      earlier = earlier differs found;
    })
    by (inr (there, differs)) (inr (missing, none)) =
        inr (ap (λ (b : Bool). (joined_if b p (gathered region placed)).first) there ∙ missing, apart differs none)

module _ (team : Team) (contexts : List Context) (plan : Choice) (placed : List Placed) (are : ArePlaced team contexts plan placed) (region : ℕ) where
  -- a context of the region, by what is told of it
  abbrev its_context : (k : ℕ) (p : Placed) → slice_get placed k ≡ Some p → p.region ≡ region → IsContextOf contexts region k
  its_context k p at of = let is : IsPlaced team contexts plan k p = are.each k p at in record { c = is.c; at = is.at; of = sym is.region ∙ of }

  -- what is told of a context of the region
  record Told (k : ℕ) (is : IsContextOf contexts region k) : Type 0 where
    p : Placed
    at : slice_get placed k ≡ Some p
    of : p.region ≡ region
    its : IsPlaced team contexts plan k p
    same : its.c ≡ is.c

  told_of : (k : ℕ) (is : IsContextOf contexts region k) → Told k is
  told_of k is = record { p = p; at = at; of = its.region ∙ ap (λ (x : Context). x.region) same ∙ is.of; its = its; same = same }
    where
      within : k < length contexts
      within = slice_get_within contexts k is.c is.at

      there : k < length placed
      there = let e : length placed ≡ length contexts = are.all in let w : k < length contexts = within in omega arith

      p : Placed
      p = slice_index_or placed k unplaced

      at : slice_get placed k ≡ Some p
      at = get_there placed k unplaced there

      its : IsPlaced team contexts plan k p
      its = are.each k p at

      same : its.c ≡ is.c
      same = same_Some its.c is.c (sym its.at ∙ is.at)

  picked_is : IsTrue (gathered region placed).picked ↔ ((k : ℕ) × IsTrue (plan k) × IsContextOf contexts region k)
  picked_is = (to, from)
    where
      to : (gathered region placed).picked ≡ true → (k : ℕ) × IsTrue (plan k) × IsContextOf contexts region k
      to is =
          let found : Passes (λ (p : Placed). p.picked) region placed = passing (λ (p : Placed). p.picked) (λ (g : Gathered). g.picked) refl (λ p o. refl) region placed is in
          (found.k, sym (are.each found.k found.p found.at).picked ∙ found.is, its_context found.k found.p found.at found.of)

      from : (k : ℕ) × IsTrue (plan k) × IsContextOf contexts region k → (gathered region placed).picked ≡ true
      from (k, picked, is) =
          let told : Told k is = told_of k is in
          flagged (λ (p : Placed). p.picked) (λ (g : Gathered). g.picked) refl (λ p o. refl) region placed k told.p told.at told.of (told.its.picked ∙ picked)

  saves_is : IsTrue (gathered region placed).saves ↔ ((k : ℕ) × (is : IsContextOf contexts region k) × (0 < threaded_saving team is.c))
  saves_is = (to, from)
    where
      to : (gathered region placed).saves ≡ true → (k : ℕ) × (is : IsContextOf contexts region k) × (0 < threaded_saving team is.c)
      to is =
          let found : Passes (λ (p : Placed). p.saves) region placed = passing (λ (p : Placed). p.saves) (λ (g : Gathered). g.saves) refl (λ p o. refl) region placed is in (
            found.k,
            its_context found.k found.p found.at found.of,
            below 0 (threaded_saving team (are.each found.k found.p found.at).c) (sym (are.each found.k found.p found.at).saves ∙ found.is),
          )

      from : (k : ℕ) × (is : IsContextOf contexts region k) × (0 < threaded_saving team is.c) → (gathered region placed).saves ≡ true
      from (k, is, some) =
          let told : Told k is = told_of k is in
          flagged (λ (p : Placed). p.saves) (λ (g : Gathered). g.saves) refl (λ p o. refl) region placed k told.p told.at told.of
          (told.its.saves ∙ ap (λ (c : Context). nat_lt 0 (threaded_saving team c)) told.same ∙ is_below 0 (threaded_saving team is.c) some)

  -- where no pick is above a context of the region, that is told
  apart_from : (k : ℕ) (p : Placed) → slice_get placed k ≡ Some p → p.region ≡ region → is_missing p.under ≡ true → (gathered region placed).apart ≡ true
  apart_from k p at of missing =
      flagged (λ (p : Placed). is_missing p.under) (λ (g : Gathered). g.apart) refl (λ p o. refl) region placed k p at of missing

  -- a pick is above each context of the region, where none is apart
  each_under : (gathered region placed).apart ≡ false → (k : ℕ) → IsContextOf contexts region k → IsUnderPick contexts plan k
  each_under none k is = by (told_of k is).p.under (told_of k is).its.under (λ missing. apart_from k (told_of k is).p (told_of k is).at (told_of k is).of missing)
    where
      by : (o : Option ℕ) → IsUnder contexts plan k o → (is_missing o ≡ true → (gathered region placed).apart ≡ true) → IsUnderPick contexts plan k
      by None under apart = absurd (true≢false (sym (apart refl) ∙ none))
      by (Some of) under apart = under.0

  -- where one is
  one_apart : (gathered region placed).apart ≡ true → IsInside contexts plan region None
  one_apart is =
      let found : Passes (λ (p : Placed). is_missing p.under) region placed =
      passing (λ (p : Placed). is_missing p.under) (λ (g : Gathered). g.apart) refl (λ p o. refl) region placed is in
      inl (found.k, its_context found.k found.p found.at found.of, free found.k found.p.under found.is (are.each found.k found.p found.at).under)
    where
      free : (k : ℕ) (o : Option ℕ) → is_missing o ≡ true → IsUnder contexts plan k o → ¬ IsUnderPick contexts plan k
      free k None missing not_under = not_under
      free k (Some n) missing under = absurd (true≢false (sym missing))

  -- where none is, and a pick of this region is above the first
  first_under : (gathered region placed).apart ≡ false → (first : Option ℕ) → IsFirstPlaced region placed first → IsInside contexts plan region first
  first_under none first found = by first (subst (λ (o : Option ℕ). IsUnder contexts plan found.k o) (sym found.first_is) (are.each found.k found.p found.at).under)
    where
      its : IsContextOf contexts region found.k
      its = its_context found.k found.p found.at found.of

      is_first : IsFirstOf contexts region found.k
      is_first = record { is = its; none = λ j less is. found.earlier j (told_of j is).p less (told_of j is).at (told_of j is).of }

      by : (o : Option ℕ) → IsUnder contexts plan found.k o → IsInside contexts plan region o
      by None not_under = inl (found.k, its, not_under)
      by (Some of) under = record { each = each_under none; first = found.k; is_first = is_first; under = under.0; pick_is = under.1 }

  inside_is : IsInside contexts plan region (standing_of (gathered region placed)).inside
  inside_is = by (gathered region placed).apart refl
    where
      by : (b : Bool) → (gathered region placed).apart ≡ b → IsInside contexts plan region (if b then None else (gathered region placed).first)
      by true is = one_apart is
      by false is = elim (first_or_none region placed) [
        | inl found ↦ first_under is (gathered region placed).first found
        | inr (missing, none) ↦
            subst (λ (o : Option ℕ). IsInside contexts plan region o) (sym missing) (inr (λ k it. none k (told_of k it).p (told_of k it).at (told_of k it).of))
      ]

  pub stands : IsStanding team contexts plan region (standing_of (gathered region placed))
  stands = record { picked = picked_is; inside = inside_is; saves = saves_is }

mapped_at : (table : List Gathered) (region : ℕ) → standing_at (map standing_of table) region ≡ standing_of (gathered_at table region)
mapped_at [] region = refl
mapped_at (g ∷ table) zero = refl
mapped_at (g ∷ table) (suc region) = mapped_at table region

pub all_stand : (team : Team) (contexts : List Context) (plan : Choice) (placed : List Placed) (table : List Gathered) (told : List Standing)
    → ArePlaced team contexts plan placed → AreGathered placed table → told ≡ map standing_of table → AreStandings team contexts plan told
all_stand team contexts plan placed table told are gather is region =
    subst (λ (s : Standing). IsStanding team contexts plan region s)
    (sym (ap (λ (l : List Standing). standing_at l region) is ∙ mapped_at table region ∙ ap standing_of (gather region)))
    (stands team contexts plan placed are region)
