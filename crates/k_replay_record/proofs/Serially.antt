-- The values of a serial run: each is what its step gives for the values of the whole list.
use Rattle.std.proofs.Common.{◌≡◌, ℕ, zero, suc, ◌+◌, ◌<◌, List, [], ◌∷◌, ◌++◌, length, map, Option, Some, All, Contains, refl, sym, ◌∙◌, ap, subst, arith, length-append}
use Rattle.std.specs.Prelude.{slice_get}
use Rattle.std.proofs.lemmas.Option.{none-some, same_Some}
use Rattle.std.proofs.lemmas.List.Elements.{All-contains}
use Rattle.k_replay_record.specs.declared.record.Datum.{Datum}
use Rattle.k_replay_record.specs.declared.record.Operand.{Operand}
use Rattle.k_replay_record.specs.declared.record.Operand.TheVariants.{Fixed, From}
use Rattle.k_replay_record.specs.declared.record.Step.{Step}
use Rattle.k_replay_record.specs.Acts.{or_nothing, value}
use Rattle.k_replay_record.specs.Records.{AreEarlier, IsEarlier}
use Rattle.k_replay_record.specs.Serial.{operand_value, serial, step_value, values_with}
use Rattle.k_replay_record.proofs.Lists.{contains_first, contains_behind, step_at}

-- the operands of a step come from earlier ones
pub earlier_at : (number : ℕ) (steps : List Step) → AreEarlier number steps → (k m : ℕ) (s : Step) → slice_get steps k ≡ Some s → m ≡ number + k
    → All (IsEarlier m) s.operands
earlier_at number [] all k m s at e = absurd (none-some s at)
earlier_at number (x ∷ steps) all zero m s at e =
    let same : number ≡ m = omega arith in
    subst (λ (n : ℕ). All (IsEarlier n) s.operands) same (subst (λ (y : Step). All (IsEarlier number) y.operands) (same_Some x s at) all.0)
earlier_at number (x ∷ steps) all (suc k) m s at e = earlier_at (number + 1) steps all.1 k m s at (omega arith)

-- operands read the same where their sources gave the same
pub operands_same : (f g : ℕ → Option Datum) (operands : List Operand) → ((j : ℕ) → Contains operands (From j) → f j ≡ g j)
    → map (operand_value f) operands ≡ map (operand_value g) operands
operands_same f g [] same = refl
operands_same f g (Fixed d ∷ operands) same =
    ap (λ (xs : List Datum). d ∷ xs) (operands_same f g operands (λ j c. same j (contains_behind (Fixed d) operands (From j) c)))
operands_same f g (From j ∷ operands) same =
    let first : or_nothing (f j) ≡ or_nothing (g j) = ap or_nothing (same j (contains_first (From j) operands)) in
    let rest : map (operand_value f) operands ≡ map (operand_value g) operands = operands_same f g operands (λ i c. same i (contains_behind (From j) operands (From i) c)) in
    λ i. first i ∷ rest i

-- a value that is there stays
kept : (before : List Datum) (steps : List Step) (k : ℕ) (d : Datum) → slice_get before k ≡ Some d → slice_get (values_with before steps) k ≡ Some d
unfolding values_with
kept before [] k d at = at
kept before (s ∷ steps) k d at = kept (before ++ step_value (slice_get before) s ∷ []) steps k d (place_kept before (step_value (slice_get before) s ∷ []) k d at)
  where
    place_kept : (xs ys : List Datum) (n : ℕ) (x : Datum) → slice_get xs n ≡ Some x → slice_get (xs ++ ys) n ≡ Some x
    place_kept [] ys n x h = absurd (none-some x h)
    place_kept (a ∷ xs) ys zero x h = h
    place_kept (a ∷ xs) ys (suc n) x h = place_kept xs ys n x h

behind : (xs : List Datum) (y : Datum) (n : ℕ) → n ≡ length xs → slice_get (xs ++ y ∷ []) n ≡ Some y
behind [] y zero e = refl
behind [] y (suc n) e = absurd (omega arith)
behind (x ∷ xs) y zero e = absurd (omega arith)
behind (x ∷ xs) y (suc n) e = behind xs y n (omega arith)

-- the value of a step among others, where it is number n of all
value_with : (before : List Datum) (steps : List Step) → AreEarlier (length before) steps → (k n : ℕ) (s : Step) → slice_get steps k ≡ Some s
    → n ≡ length before + k → slice_get (values_with before steps) n ≡ Some (step_value (slice_get (values_with before steps)) s)
unfolding values_with
value_with before [] early k n s at e = absurd (none-some s at)
value_with before (x ∷ steps) early (suc k) n s at e =
    let longer : length (before ++ step_value (slice_get before) x ∷ []) ≡ length before + 1 = length-append before (step_value (slice_get before) x ∷ []) in
    value_with (before ++ step_value (slice_get before) x ∷ []) steps (subst (λ (m : ℕ). AreEarlier m steps) (sym longer) early.1) k n s at (omega arith)
value_with before (x ∷ steps) early zero n s at e =
    let v : Datum = step_value (slice_get before) x in
    let all : List Datum = values_with (before ++ v ∷ []) steps in
    let there : slice_get all n ≡ Some v = kept (before ++ v ∷ []) steps n v (behind before v n (omega arith)) in
    let same : step_value (slice_get before) x ≡ step_value (slice_get all) x = ap (value x.act) (operands_same (slice_get before) (slice_get all) x.operands (source v)) in
    let whole : slice_get all n ≡ Some (step_value (slice_get all) x) = there ∙ ap (λ (d : Datum). Some d) same in
    subst (λ (y : Step). slice_get all n ≡ Some (step_value (slice_get all) y)) (same_Some x s at) whole
  where
    agree : (v : Datum) (j : ℕ) (d : Datum) → slice_get before j ≡ Some d → slice_get before j ≡ slice_get (values_with (before ++ v ∷ []) steps) j
    agree v j d h = h ∙ sym (kept (before ++ v ∷ []) steps j d (earlier before v j d h))
      where
        earlier : (xs : List Datum) (y : Datum) (n : ℕ) (x : Datum) → slice_get xs n ≡ Some x → slice_get (xs ++ y ∷ []) n ≡ Some x
        earlier [] y n x h = absurd (none-some x h)
        earlier (a ∷ xs) y zero x h = h
        earlier (a ∷ xs) y (suc n) x h = earlier xs y n x h

    source : (v : Datum) (j : ℕ) → Contains x.operands (From j) → slice_get before j ≡ slice_get (values_with (before ++ v ∷ []) steps) j
    source v j c =
        let low : j < length before = All-contains (IsEarlier (length before)) x.operands (From j) early.0 c in
        let d = step_at before j low in
        agree v j d.0 d.1

-- the value of a step in the serial run
pub serial_value : (steps : List Step) → AreEarlier 0 steps → (k : ℕ) (s : Step) → slice_get steps k ≡ Some s
    → slice_get (serial steps) k ≡ Some (step_value (slice_get (serial steps)) s)
serial_value steps early k s at = value_with [] steps early k k s at (omega arith)
