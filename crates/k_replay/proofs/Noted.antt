-- The lists of the steps that each step is a source of.
use Rattle.std.proofs.Common.{◌≡◌, ◌≢◌, ℕ, ◌+◌, ◌<◌, ◌≤◌, ◌⊎◌, inl, inr, List, [], ◌∷◌, ◌++◌, length, take, get_or, set, Some, Contains, refl, sym, ◌∙◌, ap, subst, arith}
use Rattle.std.specs.Prelude.{slice_get}
use Rattle.std.proofs.Math.ListN.{length-set}
use Rattle.std.proofs.lemmas.List.{get_or-set_same, get_or-set_other, take_more, take_all, length-take-le}
use Rattle.std.proofs.lemmas.Option.{get_or_from_slice_get, slice_get_read}
use Rattle.std.proofs.lemmas.List.Elements.{Contains-append_left, Contains-push, Contains-push_cases}
use Rattle.k_replay_record.specs.declared.record.Operand.{Operand}
use Rattle.k_replay_record.specs.declared.record.Operand.TheVariants.{From}
use Rattle.k_replay_record.specs.declared.record.Step.{Step}
use Rattle.k_replay_record.specs.Records.{IsEarlier}
use Rattle.k_replay.specs.Kept.{AreUsers, Names, NamesBelow, Notes}
use Rattle.k_replay_record.proofs.Lists.{same_or_not, contains_cases, contains_none, place_of_push, same_number}

-- a step was added to the list of another
abbrev pub appended : List (List ℕ) → ℕ → ℕ → List (List ℕ)
appended users j k = set users j (get_or users j [] ++ k ∷ [])

at_same : (users : List (List ℕ)) (j k : ℕ) → j < length users → get_or (appended users j k) j [] ≡ get_or users j [] ++ k ∷ []
at_same users j k h = get_or-set_same users j (get_or users j [] ++ k ∷ []) [] h

at_other : (users : List (List ℕ)) (j k i : ℕ) → i ≢ j → get_or (appended users j k) i [] ≡ get_or users i []
at_other users j k i ne = get_or-set_other users j i (get_or users j [] ++ k ∷ []) [] ne

from_one : (d : Operand) (j : ℕ) → Contains (d ∷ []) (From j) → d ≡ From j
from_one d j c = elim (contains_cases d [] (From j) c) [ inl e ↦ e | inr there ↦ absurd (contains_none (From j) there) ]

-- a step is noted for its source
pub notes_from : (users : List (List ℕ)) (j k : ℕ) → j < length users → Notes users (appended users j k) (From j ∷ []) k
notes_from users j k h = record {
  lengths = length-set users j (get_or users j [] ++ k ∷ []);
  kept = λ i m n. kept i m n (same_or_not i j);
  noted = λ i c. noted i (same_number j i (from_one (From j) i c));
  only = λ i m n. only i m n (same_or_not i j);
}
  where
    here : (m : ℕ) → Contains (get_or users j [] ++ k ∷ []) m → Names (appended users j k) j m
    here m c = subst (λ (xs : List ℕ). Contains xs m) (sym (at_same users j k h)) c

    kept : (i m : ℕ) → Names users i m → (i ≡ j) ⊎ (i ≢ j) → Names (appended users j k) i m
    kept i m n (inl e) = subst (λ (x : ℕ). Names (appended users j k) x m) (sym e)
        (here m (Contains-append_left (get_or users j []) (k ∷ []) m (subst (λ (x : ℕ). Names users x m) e n)))
    kept i m n (inr ne) = subst (λ (xs : List ℕ). Contains xs m) (sym (at_other users j k i ne)) n

    noted : (i : ℕ) → j ≡ i → Names (appended users j k) i k
    noted i e = subst (λ (x : ℕ). Names (appended users j k) x k) e (here k (Contains-push (get_or users j []) k))

    only : (i m : ℕ) → Names (appended users j k) i m → (i ≡ j) ⊎ (i ≢ j) → Names users i m ⊎ (m ≡ k)
    only i m n (inr ne) = inl (subst (λ (xs : List ℕ). Contains xs m) (at_other users j k i ne) n)
    only i m n (inl e) =
        let at_j : Contains (get_or users j [] ++ k ∷ []) m
        = subst (λ (xs : List ℕ). Contains xs m) (at_same users j k h) (subst (λ (x : ℕ). Names (appended users j k) x m) e n) in
        elim (Contains-push_cases (get_or users j []) k m at_j) [
          | inl old ↦ inl (subst (λ (x : ℕ). Names users x m) (sym e) old)
          | inr new ↦ inr (sym new)
        ]

-- one operand behind others
pub notes_more : (a b d : List (List ℕ)) (operands : List Operand) (o : Operand) (k : ℕ)
    → Notes a b operands k → Notes b d (o ∷ []) k → Notes a d (operands ++ o ∷ []) k
notes_more a b d operands o k first second = record {
  lengths = second.lengths ∙ first.lengths;
  kept = λ i m n. second.kept i m (first.kept i m n);
  noted = λ j c. elim (Contains-push_cases operands o (From j) c) [
    | inl old ↦ second.kept j k (first.noted j old)
    | inr new ↦ second.noted j (0, omega arith, new)
  ];
  only = λ i m n. elim (second.only i m n) [ inl old ↦ first.only i m old | inr e ↦ inr e ];
}

-- all steps but the last were noted, and so is that one
pub users_more : (a b : List (List ℕ)) (steps : List Step) (s : Step)
    → AreUsers a steps → Notes a b s.operands (length steps) → AreUsers b (steps ++ s ∷ [])
users_more a b steps s all last k j t at from = go (place_of_push steps s k t at)
  where
    go : (slice_get steps k ≡ Some t) ⊎ ((k ≡ length steps) × (t ≡ s)) → Names b j k
    go (inl old) = last.kept j k (all k j t old from)
    go (inr new) = subst (λ (n : ℕ). Names b j n) (sym new.0)
        (last.noted j (subst (λ (x : Step). Contains x.operands (From j)) new.1 from))

pub below_more : (a b : List (List ℕ)) (operands : List Operand) (k : ℕ) → NamesBelow a k → Notes a b operands k → NamesBelow b (k + 1)
below_more a b operands k all last j m n = elim (last.only j m n) [ inl old ↦ (let h = all j m old in omega arith) | inr e ↦ omega arith ]

-- a step is noted for its source, behind those that were
pub notes_pushed : (users : List (List ℕ)) (o : Operand) (j k : ℕ) (list new : List ℕ) → o ≡ From j → IsEarlier k o → k < length users
    → list ≡ get_or users j list → new ≡ list ++ k ∷ [] → Notes users (set users j new) (o ∷ []) k
notes_pushed users o j k list new is early within at pushed =
    let low : j < k = subst (IsEarlier k) is early in
    let h : j < length users = omega arith in
    let here : get_or users j [] ≡ list = get_or_from_slice_get users j list [] (slice_get_read users (length users) j list refl h at) in
    let e : new ≡ get_or users j [] ++ k ∷ [] = pushed ∙ ap (λ (xs : List ℕ). xs ++ k ∷ []) (sym here) in
    subst (λ (x : List ℕ). Notes users (set users j x) (o ∷ []) k) (sym e) (subst (λ (x : Operand). Notes users (appended users j k) (x ∷ []) k) (sym is) (notes_from users j k h))

-- a step is noted for one operand more
pub notes_step : (a b d : List (List ℕ)) (operands : List Operand) (i : ℕ) (o : Operand) (k : ℕ) → i < length operands
    → Notes a b (take i operands) k → Notes b d (get_or operands i o ∷ []) k → Notes a d (take (i + 1) operands) k
notes_step a b d operands i o k h first second =
    subst (λ (xs : List Operand). Notes a d xs k) (sym (take_more operands i o h)) (notes_more a b d (take i operands) (get_or operands i o) k first second)

-- one step more was noted
pub users_step : (a b : List (List ℕ)) (steps : List Step) (i : ℕ) (s : Step) → i < length steps → s ≡ get_or steps i s
    → AreUsers a (take i steps) → Notes a b s.operands i → AreUsers b (take (i + 1) steps)
users_step a b steps i s h is all last =
    subst (λ (xs : List Step). AreUsers b xs) (sym (take_more steps i s h ∙ ap (λ (x : Step). take i steps ++ x ∷ []) (sym is)))
    (users_more a b (take i steps) s all (subst (λ (n : ℕ). Notes a b s.operands n) (sym (length-take-le i steps (omega arith))) last))

-- all steps were noted
pub users_all : (a : List (List ℕ)) (steps : List Step) (i : ℕ) → length steps ≤ i → AreUsers a (take i steps) → AreUsers a steps
users_all a steps i h all = subst (λ (xs : List Step). AreUsers a xs) (take_all i steps h) all
