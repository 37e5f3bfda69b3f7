-- What is told of the loops of what is gathered: the carried pairs of its events.
use Rattle.std.proofs.Common.{ℕ, zero, suc, ◌≡◌, ◌+◌, ◌<◌, ◌⊎◌, ◌≢◌, nat_eq, nat_lt, Bool, true, false, List, [], ◌∷◌, slice_get, Some, arith, refl, sym, subst, ap, inl, inr, ◌∙◌}
use Rattle.std.specs.Prelude.{if◌then◌else◌}
use Rattle.std.proofs.lemmas.Bool.Decides.{eqb_tells}
use Rattle.k_optab.specs.declared.event.Event.{Event}
use Rattle.k_carry_pairs.specs.declared.found.Found.{Found}
use Rattle.k_carry_pairs.specs.declared.pairs.LoopPairs.{LoopPairs}
use Rattle.k_carry_pairs.specs.declared.pairs.Pair.{Pair}
use Rattle.k_carry_pairs.specs.Carried.{AllPass, AreCarried, AreSorted, IsAmong, IsLoopOf, loop_before, pair_before}
use Rattle.k_carry_pairs.specs.Gathered.{Gathered, Gathers, found_before, loops_from, pairs_of}
use Rattle.k_carry_pairs.proofs.Order.{found_parts}

-- the pairs of a region are those found of it
pair_found : (region : ℕ) (found : List Found) (pair : Pair) → IsAmong pair (pairs_of region found) → IsAmong (record { region = region; pair = pair }) found
pair_found region [] pair is = absurd is
pair_found region (f ∷ found) pair is = by (eqb_tells f.region region) is (λ later. pair_found region found pair later)
  where
    pick : (b : Bool) → nat_eq f.region region ≡ b → IsAmong pair (if nat_eq f.region region then f.pair ∷ pairs_of region found else pairs_of region found)
        → IsAmong pair (if b then f.pair ∷ pairs_of region found else pairs_of region found)
    pick b test among = subst (λ (t : Bool). IsAmong pair (if t then f.pair ∷ pairs_of region found else pairs_of region found)) test among

    by : ((nat_eq f.region region ≡ true) × (f.region ≡ region)) ⊎ ((nat_eq f.region region ≡ false) × (f.region ≢ region))
        → IsAmong pair (if nat_eq f.region region then f.pair ∷ pairs_of region found else pairs_of region found)
        → (IsAmong pair (pairs_of region found) → IsAmong (record { region = region; pair = pair }) found) → IsAmong (record { region = region; pair = pair }) (f ∷ found)
    by (inl here) among rest = elim (pick true here.0 among) [
      | inl first ↦ inl (λ i. record { region = here.1 i; pair = first i })
      | inr later ↦ inr (rest later)
    ]
    by (inr other) among rest = inr (rest (pick false other.0 among))

found_pair : (found : List Found) (f : Found) → IsAmong f found → IsAmong f.pair (pairs_of f.region found)
found_pair [] f is = absurd is
found_pair (g ∷ found) f is = by (eqb_tells g.region f.region) is (λ later. found_pair found f later)
  where
    put_back : (b : Bool) → nat_eq g.region f.region ≡ b → IsAmong f.pair (if b then g.pair ∷ pairs_of f.region found else pairs_of f.region found)
        → IsAmong f.pair (if nat_eq g.region f.region then g.pair ∷ pairs_of f.region found else pairs_of f.region found)
    put_back b test among = subst (λ (t : Bool). IsAmong f.pair (if t then g.pair ∷ pairs_of f.region found else pairs_of f.region found)) (sym test) among

    by : ((nat_eq g.region f.region ≡ true) × (g.region ≡ f.region)) ⊎ ((nat_eq g.region f.region ≡ false) × (g.region ≢ f.region))
        → IsAmong f (g ∷ found) → (IsAmong f found → IsAmong f.pair (pairs_of f.region found))
        → IsAmong f.pair (if nat_eq g.region f.region then g.pair ∷ pairs_of f.region found else pairs_of f.region found)
    by (inl here) (inl first) rest = put_back true here.0 (inl (ap (λ (x : Found). x.pair) first))
    by (inl here) (inr later) rest = put_back true here.0 (inr (rest later))
    by (inr other) (inl first) rest = absurd (other.1 (ap (λ (x : Found). x.region) first))
    by (inr other) (inr later) rest = put_back false other.0 (rest later)

-- they are sorted
pairs_behind : (f : Found) (found : List Found) → AllPass (found_before f) found → AllPass (pair_before f.pair) (pairs_of f.region found)
pairs_behind f [] all = tt
pairs_behind f (g ∷ found) all = by (eqb_tells g.region f.region) (pairs_behind f found all.1)
  where
    put_back : (b : Bool) → nat_eq g.region f.region ≡ b → AllPass (pair_before f.pair) (if b then g.pair ∷ pairs_of f.region found else pairs_of f.region found)
        → AllPass (pair_before f.pair) (if nat_eq g.region f.region then g.pair ∷ pairs_of f.region found else pairs_of f.region found)
    put_back b test passing = subst (λ (t : Bool). AllPass (pair_before f.pair) (if t then g.pair ∷ pairs_of f.region found else pairs_of f.region found)) (sym test) passing

    by : ((nat_eq g.region f.region ≡ true) × (g.region ≡ f.region)) ⊎ ((nat_eq g.region f.region ≡ false) × (g.region ≢ f.region))
        → AllPass (pair_before f.pair) (pairs_of f.region found)
        → AllPass (pair_before f.pair) (if nat_eq g.region f.region then g.pair ∷ pairs_of f.region found else pairs_of f.region found)
    by (inl here) rest = put_back true here.0 (
      elim (found_parts f g all.0) [
        | inl less ↦ absurd (omega (arith, less, here.1))
        | inr same ↦ same.1
      ],
      rest,
    )
    by (inr other) rest = put_back false other.0 rest

pairs_sorted : (region : ℕ) (found : List Found) → AreSorted found_before found → AreSorted pair_before (pairs_of region found)
pairs_sorted region [] sorted = tt
pairs_sorted region (f ∷ found) sorted = by (eqb_tells f.region region) (pairs_sorted region found sorted.1)
  where
    put_back : (b : Bool) → nat_eq f.region region ≡ b → AreSorted pair_before (if b then f.pair ∷ pairs_of region found else pairs_of region found)
        → AreSorted pair_before (if nat_eq f.region region then f.pair ∷ pairs_of region found else pairs_of region found)
    put_back b test all = subst (λ (t : Bool). AreSorted pair_before (if t then f.pair ∷ pairs_of region found else pairs_of region found)) (sym test) all

    by : ((nat_eq f.region region ≡ true) × (f.region ≡ region)) ⊎ ((nat_eq f.region region ≡ false) × (f.region ≢ region))
        → AreSorted pair_before (pairs_of region found)
        → AreSorted pair_before (if nat_eq f.region region then f.pair ∷ pairs_of region found else pairs_of region found)
    by (inl here) rest = put_back true here.0
        (subst (λ (n : ℕ). AllPass (pair_before f.pair) (pairs_of n found)) here.1 (pairs_behind f found sorted.0), rest)
    by (inr other) rest = put_back false other.0 rest

-- a loop that is told was seen, and has its pairs
record Told (first : ℕ) (seen : List Bool) (found : List Found) (l : LoopPairs) : Type 0 where
  k : ℕ
  is_seen : slice_get seen k ≡ Some true
  region : l.region ≡ first + k
  pairs : l.pairs ≡ pairs_of (first + k) found

told : (first : ℕ) (seen : List Bool) (found : List Found) (l : LoopPairs) → IsAmong l (loops_from first seen found) → Told first seen found l
told first [] found l is = absurd is
told first (true ∷ seen) found l (inl here) =
    let same : first ≡ first + 0 = omega arith in
    record {
      k = zero;
      is_seen = refl;
      region = ap (λ (x : LoopPairs). x.region) (sym here) ∙ same;
      pairs = ap (λ (x : LoopPairs). x.pairs) (sym here) ∙ ap (λ (n : ℕ). pairs_of n found) same;
    }
told first (true ∷ seen) found l (inr later) = later_told first seen found l true (told (first + 1) seen found l later)
  where
    later_told : (first : ℕ) (seen : List Bool) (found : List Found) (l : LoopPairs) (b : Bool) → Told (first + 1) seen found l → Told first (b ∷ seen) found l
    later_told first seen found l b is =
        let same : first + 1 + is.k ≡ first + suc is.k = omega arith in
        record { k = suc is.k; is_seen = is.is_seen; region = is.region ∙ same; pairs = is.pairs ∙ ap (λ (n : ℕ). pairs_of n found) same }
told first (false ∷ seen) found l later = later_told (told (first + 1) seen found l later)
  where
    later_told : Told (first + 1) seen found l → Told first (false ∷ seen) found l
    later_told is =
        let same : first + 1 + is.k ≡ first + suc is.k = omega arith in
        record { k = suc is.k; is_seen = is.is_seen; region = is.region ∙ same; pairs = is.pairs ∙ ap (λ (n : ℕ). pairs_of n found) same }

-- each that was seen is told
seen_told : (first : ℕ) (seen : List Bool) (found : List Found) (k : ℕ) → slice_get seen k ≡ Some true
    → (l : LoopPairs) × IsAmong l (loops_from first seen found) × (l.region ≡ first + k)
seen_told first [] found k is = absurd (cc is)
seen_told first (true ∷ seen) found zero is = (record { region = first; pairs = pairs_of first found }, inl refl, omega arith)
seen_told first (false ∷ seen) found zero is = absurd (cc is)
seen_told first (true ∷ seen) found (suc k) is =
    let rest = seen_told (first + 1) seen found k is in
    let same : first + 1 + k ≡ first + suc k = omega arith in
    (rest.0, inr rest.1, rest.2 ∙ same)
seen_told first (false ∷ seen) found (suc k) is =
    let rest = seen_told (first + 1) seen found k is in
    let same : first + 1 + k ≡ first + suc k = omega arith in
    (rest.0, rest.1, rest.2 ∙ same)

-- in order of region
later_loops : (region : ℕ) (pairs : List Pair) (first : ℕ) (seen : List Bool) (found : List Found) → region < first
    → AllPass (loop_before (record { region = region; pairs = pairs })) (loops_from first seen found)
later_loops region pairs first [] found low = tt
later_loops region pairs first (true ∷ seen) found low =
    (let test : nat_lt region first ≡ true = grind arith in test, later_loops region pairs (first + 1) seen found (omega (arith, low)))
later_loops region pairs first (false ∷ seen) found low = later_loops region pairs (first + 1) seen found (omega (arith, low))

loops_sorted : (first : ℕ) (seen : List Bool) (found : List Found) → AreSorted loop_before (loops_from first seen found)
loops_sorted first [] found = tt
loops_sorted first (true ∷ seen) found =
    (later_loops first (pairs_of first found) (first + 1) seen found (omega arith), loops_sorted (first + 1) seen found)
loops_sorted first (false ∷ seen) found = loops_sorted (first + 1) seen found

-- so what is told are the carried pairs
pub loops_are_carried : (events : List Event) (g : Gathered) → Gathers events g → AreCarried g.regions g.depth events (loops_from 0 g.seen g.found)
loops_are_carried events g is = record {
  sorted = loops_sorted 0 g.seen g.found;
  sound = λ l among. sound l (told 0 g.seen g.found l among);
  complete = λ region looping tracked.
      (let found = seen_told 0 g.seen g.found region (is.all_seen region tracked.0 looping tracked.1) in
      let same : 0 + region ≡ region = omega arith in
      (found.0, found.1, found.2 ∙ same));
}
  where
    sound : (l : LoopPairs) → Told 0 g.seen g.found l → IsLoopOf g.regions g.depth events l
    sound l of =
        let same : 0 + of.k ≡ of.k = omega arith in
        let region : l.region ≡ of.k = of.region ∙ same in
        let pairs : l.pairs ≡ pairs_of l.region g.found = of.pairs ∙ ap (λ (n : ℕ). pairs_of n g.found) (sym of.region) in
        let seen = is.seen l.region (ap (λ (n : ℕ). slice_get g.seen n) region ∙ of.is_seen) in
        record {
          is_loop = seen.0;
          tracked = seen.1;
          sorted = subst (λ (ps : List Pair). AreSorted pair_before ps) (sym pairs) (pairs_sorted l.region g.found is.sorted);
          sound = λ pair among. (is.sound (record { region = l.region; pair = pair })
              (pair_found l.region g.found pair (subst (λ (ps : List Pair). IsAmong pair ps) pairs among))).1;
          complete = λ pair it. subst (λ (ps : List Pair). IsAmong pair ps) (sym pairs)
              (found_pair g.found (record { region = l.region; pair = pair }) (is.complete (record { region = l.region; pair = pair }) seen.0 it));
        }
