-- The last of a list, and lists that are read from the front on.
use Rattle.std.proofs.Common.{ℕ, zero, suc, ◌≡◌, ◌+◌, ◌-◌, ◌<◌, ◌≤◌, ◌⊎◌, Bool, true, List, [], ◌∷◌, ◌++◌, length, drop, get_or, reverse, slice_get, Some, arith, refl, sym, ap, inl, inr, ◌∙◌}
use Rattle.std.specs.Prelude.{slice_set}
use Rattle.std.proofs.lemmas.List.{append_assoc, length_push}
use Rattle.k_carry_pairs.specs.declared.found.Found.{Found}
use Rattle.k_carry_pairs.specs.declared.levels.Level.{Level}
use Rattle.k_carry_pairs.specs.declared.pairs.LoopPairs.{LoopPairs}
use Rattle.k_carry_pairs.specs.Gathered.{HaveNumbers, loops_from, with_turn}
use Rattle.k_carry_pairs.proofs.Lists.{last_or_none, reverse_push}

set_end : {X : Type 0} (front : List X) (last y : X) → slice_set (front ++ last ∷ []) (length front) y ≡ front ++ y ∷ []
set_end [] last y = refl
set_end {X = X} (x ∷ front) last y = ap (λ (xs : List X). x ∷ xs) (set_end front last y)

get_end : {X : Type 0} (front : List X) (last d : X) → get_or (front ++ last ∷ []) (length front) d ≡ last
get_end [] last d = refl
get_end (x ∷ front) last d = get_end front last d

-- the last of some levels is the first of them turned round
pub last_set : (xs : List Level) (l : Level) (made : ℕ) → 0 < length xs → l ≡ get_or xs (length xs - 1) l
    → reverse (slice_set xs (length xs - 1) (record l { turn = made })) ≡ with_turn made (reverse xs)
last_set xs l made some is = by (last_or_none xs)
  where
    by : (xs ≡ []) ⊎ ((front : List Level) × ((last : Level) × (xs ≡ front ++ last ∷ [])))
        → reverse (slice_set xs (length xs - 1) (record l { turn = made })) ≡ with_turn made (reverse xs)
    by (inl none) = absurd (omega (arith, ap (λ (ys : List Level). length ys) none, some))
    by (inr split) =
        let front : List Level = split.0 in
        let last : Level = split.1.0 in
        let long : length xs ≡ length front + 1 = ap (λ (ys : List Level). length ys) split.1.1 ∙ length_push front last in
        let at : length xs - 1 ≡ length front = omega (arith, long) in
        let same : l ≡ last = is ∙ (λ i. get_or (split.1.1 i) (at i) l) ∙ get_end front last l in
        (λ i. reverse (slice_set (split.1.1 i) (at i) (record l { turn = made })))
        ∙ ap (λ (ys : List Level). reverse ys) (set_end front last (record l { turn = made }))
        ∙ reverse_push front (record l { turn = made })
        ∙ ap (λ (y : Level). record y { turn = made } ∷ reverse front) same
        ∙ sym (ap (λ (ys : List Level). with_turn made (reverse ys)) split.1.1 ∙ ap (λ (ys : List Level). with_turn made ys) (reverse_push front last))

-- what is left of a list that is read from the front on
drop_first : {X : Type 0} (n : ℕ) (xs rest later : List X) (x : X) → drop n xs ≡ rest → rest ≡ x ∷ later → slice_get xs n ≡ Some x
drop_first {X = X} zero xs rest later x is first = (let same : xs ≡ x ∷ later = is ∙ first in ap (λ (ys : List X). slice_get ys 0) same)
drop_first (suc n) [] rest later x is first = absurd (let none : [] ≡ x ∷ later = is ∙ first in cc none)
drop_first (suc n) (y ∷ xs) rest later x is first = drop_first n xs rest later x is first

drop_later : {X : Type 0} (n : ℕ) (xs rest later : List X) (x : X) → drop n xs ≡ rest → rest ≡ x ∷ later → drop (suc n) xs ≡ later
drop_later zero [] rest later x is first = absurd (let none : [] ≡ x ∷ later = is ∙ first in cc none)
drop_later zero (y ∷ xs) rest later x is first = (let same : y ∷ xs ≡ x ∷ later = is ∙ first in cc same)
drop_later (suc n) [] rest later x is first = absurd (let none : [] ≡ x ∷ later = is ∙ first in cc none)
drop_later (suc n) (y ∷ xs) rest later x is first = drop_later n xs rest later x is first

-- the marks that are left of all, and the loops so far
pub record IsTelling (seen rest : List Bool) (found : List Found) (loops : List LoopPairs) : Type 0 where
  pub on : loops ++ loops_from (length seen - length rest) rest found ≡ loops_from 0 seen found
  pub within : length rest ≤ length seen
  pub left : drop (length seen - length rest) seen ≡ rest

pub telling_begins : (seen : List Bool) (found : List Found) → IsTelling seen seen found []
telling_begins seen found =
    let none : length seen - length seen ≡ 0 = omega arith in
    record {
      on = ap (λ (n : ℕ). loops_from n seen found) none;
      within = omega arith;
      left = ap (λ (n : ℕ). drop n seen) none;
    }

pub telling_number : (seen rest later : List Bool) (found : List Found) (loops : List LoopPairs) → HaveNumbers seen → IsTelling seen rest found loops → rest ≡ true ∷ later
    → length seen - length rest < 4294967296
telling_number seen rest later found loops have is first =
    have (length seen - length rest) (drop_first (length seen - length rest) seen rest later true is.left first)

pub telling_goes : (seen rest later : List Bool) (found : List Found) (loops more : List LoopPairs) (b : Bool) → IsTelling seen rest found loops → rest ≡ b ∷ later
    → loops_from (length seen - length rest) (b ∷ later) found ≡ more ++ loops_from (length seen - length rest + 1) later found → IsTelling seen later found (loops ++ more)
telling_goes seen rest later found loops more b is first step =
    let long : length rest ≡ suc (length later) = ap (λ (ys : List Bool). length ys) first in
    let next : length seen - length later ≡ length seen - length rest + 1 = omega (arith, long, is.within) in
    let after : suc (length seen - length rest) ≡ length seen - length later = omega (arith, next) in
    record {
      on = append_assoc loops more (loops_from (length seen - length later) later found)
          ∙ ap (λ (n : ℕ). loops ++ (more ++ loops_from n later found)) next
          ∙ sym (ap (λ (all : List LoopPairs). loops ++ all) (ap (λ (ys : List Bool). loops_from (length seen - length rest) ys found) first ∙ step))
          ∙ is.on;
      within = omega (arith, long, is.within);
      left = ap (λ (n : ℕ). drop n seen) (sym after) ∙ drop_later (length seen - length rest) seen rest later b is.left first;
    }

-- so it is where the length of the list is told otherwise
pub last_set_at : (xs : List Level) (n : ℕ) (l : Level) (made : ℕ) → n ≡ length xs → 0 < n → l ≡ get_or xs (n - 1) l
    → reverse (slice_set xs (n - 1) (record l { turn = made })) ≡ with_turn made (reverse xs)
last_set_at xs n l made same some is =
    ap (λ (k : ℕ). reverse (slice_set xs (k - 1) (record l { turn = made }))) same
    ∙ last_set xs l made (omega (arith, same, some)) (is ∙ ap (λ (k : ℕ). get_or xs (k - 1) l) same)
