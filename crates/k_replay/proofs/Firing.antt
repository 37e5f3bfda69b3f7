-- What is held and what is fired, once one operation is.
use Rattle.std.proofs.Common.{◌≡◌, ◌≢◌, ℕ, zero, suc, ◌<◌, ◌⊎◌, inl, inr, List, [], ◌∷◌, length, get_or, set, Option, Some, None, Bool, true, false, Contains, refl, sym, ◌∙◌, ap, subst, arith}
use Rattle.std.specs.Prelude.{◌&&◌, ◌||◌, ◌==◌, is_some}
use Rattle.std.proofs.lemmas.Bool.{eqb-true, eq-eqb}
use Rattle.std.proofs.lemmas.List.{get_or-set_same, get_or-set_other}
use Rattle.k_replay_record.specs.declared.record.Datum.{Datum}
use Rattle.k_replay_record.specs.declared.record.Operand.{Operand}
use Rattle.k_replay_record.specs.declared.record.Operand.TheVariants.{Fixed, From}
use Rattle.k_replay_record.specs.declared.record.Step.{Step}
use Rattle.k_replay.specs.Plays.{are_given, given_in, has_sources, is_fired, is_held, is_number, left_in}
use Rattle.k_replay_record.proofs.Lists.{both_left, both_right, contains_first, contains_behind, same_or_not}

-- a number is itself
pub same_itself : (n : ℕ) → (n == n) ≡ true
same_itself n = eq-eqb n n refl

or_right : (a b : Bool) → b ≡ true → (a || b) ≡ true
or_right true b h = refl
or_right false b h = h

or_left : (a b : Bool) → a ≡ true → (a || b) ≡ true
or_left true b h = refl
or_left false b h = absurd (cc)

-- what a worker holds is held
pub held_there : (held : List (Option ℕ)) (w k : ℕ) → get_or held w None ≡ Some k → is_held held k ≡ true
held_there [] w k at = absurd (cc)
held_there (x ∷ held) zero k at = or_left (is_number k x) (is_held held k) (ap (is_number k) at ∙ same_itself k)
held_there (x ∷ held) (suc w) k at = or_right (is_number k x) (is_held held k) (held_there held w k at)

-- what is held a worker holds
pub held_where : (held : List (Option ℕ)) (k : ℕ) → is_held held k ≡ true → (w : ℕ) × (get_or held w None ≡ Some k)
held_where [] k at = absurd (cc)
held_where (None ∷ held) k at = let there = held_where held k at in (suc there.0, there.1)
held_where (Some j ∷ held) k at = go (j == k) refl (held_where held k)
  where
    go : (b : Bool) → (j == k) ≡ b → (is_held held k ≡ true → (w : ℕ) × (get_or held w None ≡ Some k)) → (w : ℕ) × (get_or (Some j ∷ held) w None ≡ Some k)
    go true e rest = (0, ap (λ (n : ℕ). Some n) (eqb-true j k e))
    go false e rest = let there = rest (subst (λ (b : Bool). (b || is_held held k) ≡ true) e at) in (suc there.0, there.1)

-- a worker holds an operation, or none is held
pub holds_or_not : (held : List (Option ℕ)) → ((w : ℕ) × (k : ℕ) × (get_or held w None ≡ Some k)) ⊎ ((k : ℕ) → is_held held k ≡ false)
holds_or_not [] = inr (λ k. refl)
holds_or_not (Some j ∷ held) = inl (0, j, refl)
holds_or_not (None ∷ held) = elim (holds_or_not held) [ inl there ↦ inl (suc there.0, there.1, there.2) | inr none ↦ inr none ]

-- once a worker holds something else, what others hold is as before
pub held_still : (held : List (Option ℕ)) (w k : ℕ) (x : Option ℕ) → is_number k (get_or held w None) ≡ false → is_number k x ≡ false
    → is_held (set held w x) k ≡ is_held held k
held_still [] w k x old new = refl
held_still (y ∷ held) zero k x old new = ap (λ (b : Bool). b || is_held held k) (new ∙ sym old)
held_still (y ∷ held) (suc w) k x old new = ap (λ (b : Bool). is_number k y || b) (held_still held w k x old new)

-- an operation that is fired has its value
pub given_same : (values : List (Option Datum)) (k : ℕ) (d : Datum) → k < length values → given_in (set values k (Some d)) k ≡ Some d
given_same values k d h = get_or-set_same values k (Some d) None h

-- all others are as before
pub given_other : (values : List (Option Datum)) (k j : ℕ) (d : Datum) → j ≢ k → given_in (set values k (Some d)) j ≡ given_in values j
given_other values k j d ne = get_or-set_other values k j (Some d) None ne

-- what was fired stays so
pub fired_still : (values : List (Option Datum)) (k j : ℕ) (d : Datum) → is_fired values j ≡ true → is_fired (set values k (Some d)) j ≡ true
fired_still [] k j d h = h
fired_still (x ∷ values) zero zero d h = refl
fired_still (x ∷ values) zero (suc j) d h = h
fired_still (x ∷ values) (suc k) zero d h = h
fired_still (x ∷ values) (suc k) (suc j) d h = fired_still values k j d h

-- one that is fired is among the steps
pub fired_within : (values : List (Option Datum)) (k : ℕ) → is_fired values k ≡ true → k < length values
fired_within [] k h = absurd (cc)
fired_within (x ∷ values) zero h = omega arith
fired_within (x ∷ values) (suc k) h = let low = fired_within values k h in omega arith

both_hold : (a b : Bool) → a ≡ true → b ≡ true → (a && b) ≡ true
both_hold true b h k = k
both_hold false b h k = absurd (cc)

-- so operands that are given stay so
pub are_given_still : (values : List (Option Datum)) (k : ℕ) (d : Datum) (operands : List Operand) → are_given values operands ≡ true
    → are_given (set values k (Some d)) operands ≡ true
are_given_still values k d [] all = refl
are_given_still values k d (Fixed e ∷ operands) all = are_given_still values k d operands all
are_given_still values k d (From j ∷ operands) all =
    both_hold (is_fired (set values k (Some d)) j) (are_given (set values k (Some d)) operands)
    (fired_still values k j d (both_left (is_fired values j) (are_given values operands) all))
    (are_given_still values k d operands (both_right (is_fired values j) (are_given values operands) all))

pub has_sources_still : (values : List (Option Datum)) (k : ℕ) (d : Datum) (s : Option Step) → has_sources values s ≡ true → has_sources (set values k (Some d)) s ≡ true
has_sources_still values k d None h = h
has_sources_still values k d (Some s) h = are_given_still values k d s.operands h

-- operands that do not come from it are given as before
pub are_given_without : (values : List (Option Datum)) (k : ℕ) (d : Datum) (operands : List Operand) → (Contains operands (From k) → ⊥)
    → are_given (set values k (Some d)) operands ≡ are_given values operands
are_given_without values k d [] without = refl
are_given_without values k d (Fixed e ∷ operands) without =
    are_given_without values k d operands (λ c. without (contains_behind (Fixed e) operands (From k) c))
are_given_without values k d (From j ∷ operands) without =
    go (same_or_not j k) (are_given_without values k d operands (λ c. without (contains_behind (From j) operands (From k) c)))
  where
    go : (j ≡ k) ⊎ (j ≢ k) → are_given (set values k (Some d)) operands ≡ are_given values operands
        → are_given (set values k (Some d)) (From j ∷ operands) ≡ are_given values (From j ∷ operands)
    go (inl e) rest = absurd (without (subst (λ (n : ℕ). Contains (From j ∷ operands) (From n)) e (contains_first (From j) operands)))
    go (inr ne) rest = λ i. is_some (given_other values k j d ne i) && rest i

-- one fewer is left
pub one_fewer : (values : List (Option Datum)) (k : ℕ) (d : Datum) → k < length values → is_fired values k ≡ false
    → left_in values ≡ suc (left_in (set values k (Some d)))
one_fewer [] k d h not = absurd (omega arith)
one_fewer (None ∷ values) zero d h not = refl
one_fewer (Some e ∷ values) zero d h not = absurd (cc)
one_fewer (None ∷ values) (suc k) d h not = ap (λ n. suc n) (one_fewer values k d (omega arith) not)
one_fewer (Some e ∷ values) (suc k) d h not = one_fewer values k d (omega arith) not

-- where something is left, there is a first operation that is not fired
pub first_left : (values : List (Option Datum)) → 0 < left_in values
    → (k : ℕ) × (k < length values) × (is_fired values k ≡ false) × ((j : ℕ) → j < k → is_fired values j ≡ true)
first_left [] h = absurd (omega arith)
first_left (None ∷ values) h = (0, omega arith, refl, λ j low. absurd (omega arith))
first_left (Some d ∷ values) h =
    let there = first_left values h in
    (suc there.0, omega (arith, there.1), there.2, λ j low. before there.0 there.3 j low)
  where
    before : (k : ℕ) → ((j : ℕ) → j < k → is_fired values j ≡ true) → (j : ℕ) → j < suc k → is_fired (Some d ∷ values) j ≡ true
    before k all zero low = refl
    before k all (suc j) low = all j (omega arith)

-- where nothing is left, all are fired
pub all_fired : (values : List (Option Datum)) → left_in values ≡ 0 → (k : ℕ) → k < length values → is_fired values k ≡ true
all_fired [] none k h = absurd (omega arith)
all_fired (None ∷ values) none k h = absurd (omega arith)
all_fired (Some d ∷ values) none zero h = refl
all_fired (Some d ∷ values) none (suc k) h = all_fired values none k (omega arith)
