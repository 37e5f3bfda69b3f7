-- A step more behind a record.
use Rattle.std.proofs.Common.{◌≡◌, ℕ, zero, suc, ◌+◌, ◌<◌, List, [], ◌∷◌, ◌++◌, length, Option, None, true, All, refl, sym, ◌∙◌, ap, subst, arith, append_assoc, length-append}
use Rattle.std.specs.Prelude.{slice_get}
use Rattle.std.proofs.lemmas.List.{append-nil}
use Rattle.std.proofs.lemmas.List.Elements.{All-contains}
use Rattle.k_replay_record.specs.declared.record.Datum.{Datum}
use Rattle.k_replay_record.specs.declared.record.Operand.TheVariants.{From}
use Rattle.k_replay_record.specs.declared.record.Step.{Step}
use Rattle.k_replay_record.specs.Acts.{written, writes}
use Rattle.k_replay_record.specs.Records.{AreChained, AreEarlier, HasSource, IsEarlier, last_writer}
use Rattle.k_replay_record.specs.Recorded.{FitsAt, FitsBehind, IsRecorded, Recorded, last_of, with_step}
use Rattle.k_replay_record.specs.Serial.{bytes_of, serial, serial_bytes, step_bytes, step_value, values_with}
use Rattle.k_replay_record.proofs.Serially.{operands_same}

values_push : (before : List Datum) (steps : List Step) (s : Step)
    → values_with before (steps ++ s ∷ []) ≡ values_with before steps ++ step_value (slice_get (values_with before steps)) s ∷ []
unfolding values_with
values_push before [] s = refl
values_push before (x ∷ steps) s = values_push (before ++ step_value (slice_get before) x ∷ []) steps s

length_values : (before : List Datum) (steps : List Step) → length (values_with before steps) ≡ length before + length steps
unfolding values_with
length_values before [] = omega arith
length_values before (x ∷ steps) =
    let rest : length (values_with (before ++ step_value (slice_get before) x ∷ []) steps) ≡ length (before ++ step_value (slice_get before) x ∷ []) + length steps
    = length_values (before ++ step_value (slice_get before) x ∷ []) steps in
    rest ∙ (let longer : length (before ++ step_value (slice_get before) x ∷ []) ≡ length before + 1 = length-append before (step_value (slice_get before) x ∷ []) in omega arith)

-- there is a value for each step
pub length_serial : (steps : List Step) → length (serial steps) ≡ length steps
length_serial steps = length_values [] steps ∙ (let e : 0 + length steps ≡ length steps = omega arith in e)

earlier_push : (number : ℕ) (steps : List Step) (s : Step) → AreEarlier number steps → All (IsEarlier (number + length steps)) s.operands → AreEarlier number (steps ++ s ∷ [])
earlier_push number [] s all last = (subst (λ (n : ℕ). All (IsEarlier n) s.operands) (let e : number + 0 ≡ number = omega arith in e) last, tt)
earlier_push number (x ∷ steps) s all last =
    (all.0, earlier_push (number + 1) steps s all.1 (subst (λ (n : ℕ). All (IsEarlier n) s.operands) (let e : number + suc (length steps) ≡ number + 1 + length steps = omega arith in e) last))

chained_push : (last : Option ℕ) (number : ℕ) (steps : List Step) (s : Step) → AreChained last number steps
    → (writes s.act ≡ true → HasSource (last_of last number steps) s.operands) → AreChained last number (steps ++ s ∷ [])
chained_push last number [] s all linked = (linked, tt)
chained_push last number (x ∷ steps) s all linked = (all.0, chained_push (last_writer x.act number last) (number + 1) steps s all.1 linked)

last_push : (last : Option ℕ) (number : ℕ) (steps : List Step) (s : Step) → last_of last number (steps ++ s ∷ []) ≡ last_writer s.act (number + length steps) (last_of last number steps)
last_push last number [] s = ap (λ (n : ℕ). last_writer s.act n last) (let e : number ≡ number + 0 = omega arith in e)
last_push last number (x ∷ steps) s = last_push (last_writer x.act number last) (number + 1) steps s
    ∙ ap (λ (n : ℕ). last_writer s.act n (last_of (last_writer x.act number last) (number + 1) steps)) (let e : number + 1 + length steps ≡ number + suc (length steps) = omega arith in e)

-- bytes are the same where earlier values are
bytes_same : (f g : ℕ → Option Datum) (number : ℕ) (steps : List Step) → AreEarlier number steps → ((j : ℕ) → j < number + length steps → f j ≡ g j) → bytes_of f steps ≡ bytes_of g steps
bytes_same f g number [] all same = refl
bytes_same f g number (x ∷ steps) all same =
    let first : step_bytes f x ≡ step_bytes g x = ap (written x.act) (operands_same f g x.operands (λ j c. same j
    (let low : j < number = All-contains (IsEarlier number) x.operands (From j) all.0 c in omega arith))) in
    let rest : bytes_of f steps ≡ bytes_of g steps = bytes_same f g (number + 1) steps all.1 (λ j low. same j (omega arith)) in
    λ i. first i ++ rest i

bytes_push : (f : ℕ → Option Datum) (steps : List Step) (s : Step) → bytes_of f (steps ++ s ∷ []) ≡ bytes_of f steps ++ step_bytes f s
bytes_push f [] s = append-nil (step_bytes f s)
bytes_push f (x ∷ steps) s = ap (λ (bs : List ℕ). step_bytes f x ++ bs) (bytes_push f steps s) ∙ sym (append_assoc (step_bytes f x) (bytes_of f steps) (step_bytes f s))

get_before : (xs : List Datum) (y : Datum) (j : ℕ) → j < length xs → slice_get (xs ++ y ∷ []) j ≡ slice_get xs j
get_before [] y j h = absurd (omega arith)
get_before (x ∷ xs) y zero h = refl
get_before (x ∷ xs) y (suc j) h = get_before xs y j (omega arith)

-- the bytes of a step more
serial_bytes_push : (steps : List Step) (s : Step) → AreEarlier 0 steps → All (IsEarlier (length steps)) s.operands
    → serial_bytes (steps ++ s ∷ []) ≡ serial_bytes steps ++ step_bytes (slice_get (serial steps)) s
serial_bytes_push steps s all last =
    bytes_push after steps s ∙ (λ i. bytes_same after before 0 steps all (λ j low. same j (omega arith)) i ++ newest i)
  where
    before : ℕ → Option Datum
    before = slice_get (serial steps)

    after : ℕ → Option Datum
    after = slice_get (serial (steps ++ s ∷ []))

    same : (j : ℕ) → j < length steps → after j ≡ before j
    same j low = ap (λ (xs : List Datum). slice_get xs j) (values_push [] steps s)
        ∙ get_before (serial steps) (step_value (slice_get (serial steps)) s) j (subst (λ (n : ℕ). j < n) (sym (length_serial steps)) low)

    newest : step_bytes after s ≡ step_bytes before s
    newest = ap (written s.act) (operands_same after before s.operands (λ j c. same j (All-contains (IsEarlier (length steps)) s.operands (From j) last c)))

-- a record with one step more that fits
pub recorded_push : (r q : Recorded) (s : Step) (d : Datum) (bytes : List ℕ) → IsRecorded r → FitsBehind r.steps s → d ≡ step_value (slice_get r.values) s → bytes ≡ step_bytes (slice_get r.values) s
    → q ≡ with_step s d (record r { output = r.output ++ bytes }) → IsRecorded q
recorded_push r q s d bytes is fits value wrote e = subst IsRecorded (sym e) (record {
  earlier = earlier_push 0 r.steps s is.earlier (subst (λ (n : ℕ). All (IsEarlier n) s.operands) (let z : length r.steps ≡ 0 + length r.steps = omega arith in z) fits.earlier);
  chained = chained_push None 0 r.steps s is.chained fits.chained;
  values = (λ i. is.values i ++ (value ∙ ap (λ (vs : List Datum). step_value (slice_get vs) s) is.values) i ∷ []) ∙ sym (values_push [] r.steps s);
  output = (λ i. is.output i ++ (wrote ∙ ap (λ (vs : List Datum). step_bytes (slice_get vs) s) is.values) i) ∙ sym (serial_bytes_push r.steps s is.earlier fits.earlier);
  last = (λ i. last_writer s.act (count i) (is.last i)) ∙ sym (last_push None 0 r.steps s);
})
  where
    count : length r.values ≡ 0 + length r.steps
    count = ap length is.values ∙ length_serial r.steps ∙ (let z : length r.steps ≡ 0 + length r.steps = omega arith in z)

-- so many values are kept as there are steps
pub count_is : (r : Recorded) → IsRecorded r → length r.values ≡ length r.steps
count_is r is = ap length is.values ∙ length_serial r.steps

-- before any step
pub recorded_none : IsRecorded (record { steps = []; values = []; output = []; last = None })
unfolding values_with
recorded_none = record { earlier = tt; chained = tt; values = refl; output = refl; last = refl }

-- what is kept of the steps says where one fits
pub fits_same : (r : Recorded) (s : Step) → IsRecorded r → FitsAt (length r.values) r.last s → FitsBehind r.steps s
fits_same r s is fits = subst (λ (n : ℕ). FitsAt n (last_of None 0 r.steps) s) (count_is r is) (subst (λ (l : Option ℕ). FitsAt (length r.values) l s) is.last fits)

pub fits_back : (r : Recorded) (s : Step) → IsRecorded r → FitsBehind r.steps s → FitsAt (length r.values) r.last s
fits_back r s is fits = subst (λ (l : Option ℕ). FitsAt (length r.values) l s) (sym is.last) (subst (λ (n : ℕ). FitsAt n (last_of None 0 r.steps) s) (sym (count_is r is)) fits)
