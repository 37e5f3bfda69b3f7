-- The output, once one more operation is fired.
use Rattle.std.proofs.Common.{◌≡◌, ◌≢◌, ℕ, zero, suc, ◌<◌, ◌≤◌, ◌⊎◌, inl, inr, List, [], ◌∷◌, ◌++◌, length, take, drop, Option, Some, Bool, true, false, refl, sym, ◌∙◌, ap, subst, arith, append_assoc}
use Rattle.std.specs.Prelude.{slice_get, is_some}
use Rattle.std.proofs.lemmas.Bool.{both_ways, cases_eq, cases_lt}
use Rattle.std.proofs.lemmas.List.{append-nil}
use Rattle.std.proofs.lemmas.Option.{none-some, same_Some}
use Rattle.k_replay_record.specs.declared.record.Act.{Act}
use Rattle.k_replay_record.specs.declared.record.Act.TheVariants as act
use Rattle.k_replay_record.specs.declared.record.Datum.{Datum}
use Rattle.k_replay_record.specs.declared.record.Step.{Step}
use Rattle.k_replay_record.specs.Acts.{written, writes}
use Rattle.k_replay_record.specs.Serial.{bytes_of, operands_of, serial, step_bytes}
use Rattle.k_replay.specs.Plays.{Play, bytes_at, fired_by, given_in, is_fired}
use Rattle.k_replay.specs.Sound.{IsWritten}
use Rattle.k_replay.proofs.Firing.{fired_still, given_other, given_same}

-- what does not write has no bytes
pub none_written : (what : Act) (values : List Datum) → writes what ≡ false → written what values ≡ []
unfolding writes written
none_written act.Put values h = absurd (cc)
none_written (act.Print pieces) values h = absurd (cc)
none_written (act.Puts bytes) values h = absurd (cc)
none_written _ values h = refl

-- steps that do not write
abbrev pub NoneWrite : List Step → Type 0
NoneWrite steps = (i : ℕ) (s : Step) → slice_get steps i ≡ Some s → writes s.act ≡ false

none_of : (f : ℕ → Option Datum) (steps : List Step) → NoneWrite steps → bytes_of f steps ≡ []
none_of f [] none = refl
none_of f (s ∷ steps) none =
    let first : step_bytes f s ≡ [] = none_written s.act (operands_of f s) (none 0 s refl) in
    let rest : bytes_of f steps ≡ [] = none_of f steps (λ i t at. none (suc i) t at) in
    λ i. first i ++ rest i

-- the bytes of steps behind steps
bytes_behind : (f : ℕ → Option Datum) (xs ys : List Step) → bytes_of f (xs ++ ys) ≡ bytes_of f xs ++ bytes_of f ys
bytes_behind f [] ys = refl
bytes_behind f (s ∷ xs) ys = ap (λ (bs : List ℕ). step_bytes f s ++ bs) (bytes_behind f xs ys) ∙ sym (append_assoc (step_bytes f s) (bytes_of f xs) (bytes_of f ys))

-- where none writes from step m on, the steps up to a later one have the bytes of those up to m
bytes_between : (f : ℕ → Option Datum) (steps : List Step) (m k : ℕ) → m ≤ k
    → ((i : ℕ) (s : Step) → slice_get steps i ≡ Some s → m ≤ i → i < k → writes s.act ≡ false) → bytes_of f (take k steps) ≡ bytes_of f (take m steps)
bytes_between f steps zero zero h none = refl
bytes_between f [] zero (suc k) h none = refl
bytes_between f [] (suc m) (suc k) h none = refl
bytes_between f (s ∷ steps) (suc m) zero h none = absurd (omega arith)
bytes_between f [] (suc m) zero h none = absurd (omega arith)
bytes_between f (s ∷ steps) zero (suc k) h none =
    let first : step_bytes f s ≡ [] = none_written s.act (operands_of f s) (none 0 s refl (omega arith) (omega arith)) in
    let rest : bytes_of f (take k steps) ≡ [] = bytes_between f steps zero k (omega arith) (λ i t at low high. none (suc i) t at (omega arith) (omega arith)) in
    λ i. first i ++ rest i
bytes_between f (s ∷ steps) (suc m) (suc k) h none =
    ap (λ (bs : List ℕ). step_bytes f s ++ bs) (bytes_between f steps m k (omega arith) (λ i t at low high. none (suc i) t at (omega arith) (omega arith)))

-- the bytes of one step more
bytes_more : (f : ℕ → Option Datum) (steps : List Step) (k : ℕ) (s : Step) → slice_get steps k ≡ Some s
    → bytes_of f (take (suc k) steps) ≡ bytes_of f (take k steps) ++ step_bytes f s
bytes_more f [] k s at = absurd (none-some s at)
bytes_more f (x ∷ steps) zero s at = append-nil (step_bytes f x) ∙ ap (step_bytes f) (same_Some x s at)
bytes_more f (x ∷ steps) (suc k) s at =
    ap (λ (bs : List ℕ). step_bytes f x ++ bs) (bytes_more f steps k s at) ∙ sym (append_assoc (step_bytes f x) (bytes_of f (take k steps)) (step_bytes f s))

-- the output of the steps that were written, with those that are left
pub bytes_prefix : (f : ℕ → Option Datum) (steps : List Step) (m : ℕ) → bytes_of f (take m steps) ++ bytes_of f (drop m steps) ≡ bytes_of f steps
bytes_prefix f steps zero = refl
bytes_prefix f [] (suc m) = refl
bytes_prefix f (s ∷ steps) (suc m) =
    append_assoc (step_bytes f s) (bytes_of f (take m steps)) (bytes_of f (drop m steps)) ∙ ap (λ (bs : List ℕ). step_bytes f s ++ bs) (bytes_prefix f steps m)

-- nothing is left to write where all that writes stands before
pub bytes_whole : (f : ℕ → Option Datum) (steps : List Step) (m : ℕ) → ((i : ℕ) (s : Step) → slice_get steps i ≡ Some s → m ≤ i → writes s.act ≡ false)
    → bytes_of f (take m steps) ≡ bytes_of f steps
bytes_whole f steps zero none = sym (none_of f steps (λ i s at. none i s at (omega arith)))
bytes_whole f [] (suc m) none = refl
bytes_whole f (s ∷ steps) (suc m) none = ap (λ (bs : List ℕ). step_bytes f s ++ bs) (bytes_whole f steps m (λ i t at low. none (suc i) t at (omega arith)))

-- a step that does not write is fired
pub silent_written : (p : Play) (count w k : ℕ) (s : Step) → slice_get p.tape.steps k ≡ Some s → writes s.act ≡ false → IsWritten p count
    → IsWritten (fired_by w k p) count
silent_written p count w k s at silent o =
    let bytes : bytes_at p.values (slice_get p.tape.steps k) ≡ [] = ap (bytes_at p.values) at ∙ none_written s.act (operands_of (given_in p.values) s) silent in
    record {
      output = ap (λ (bs : List ℕ). p.output ++ bs) bytes ∙ append-nil p.output ∙ o.output;
      below = λ i t at_i wt low. fired_still p.values k i _ (o.below i t at_i wt low);
      above = λ i t at_i wt high. above i t at_i wt (cases_eq i k) (o.above i t at_i wt high);
    }
  where
    above : (i : ℕ) (t : Step) → slice_get p.tape.steps i ≡ Some t → writes t.act ≡ true → (i ≡ k) ⊎ (i ≢ k) → is_fired p.values i ≡ false
        → is_fired (fired_by w k p).values i ≡ false
    above i t at_i wt (inl e) not = absurd (both_ways (writes t.act) (subst (λ (x : Step). writes x.act ≡ false)
        (same_Some s t (sym at ∙ ap (λ (n : ℕ). slice_get p.tape.steps n) (sym e) ∙ at_i)) silent) wt)
    above i t at_i wt (inr ne) not = ap is_some (given_other p.values k i _ ne) ∙ not

-- a step that writes is fired, behind all that write before it
pub loud_written : (p : Play) (count w k : ℕ) (s : Step) → slice_get p.tape.steps k ≡ Some s → writes s.act ≡ true → IsWritten p count
    → k < length p.values → is_fired p.values k ≡ false
    → ((i : ℕ) (t : Step) → i < k → slice_get p.tape.steps i ≡ Some t → writes t.act ≡ true → is_fired p.values i ≡ true)
    → step_bytes (given_in p.values) s ≡ step_bytes (slice_get (serial p.tape.steps)) s
    → IsWritten (fired_by w k p) (suc k)
loud_written p count w k s at loud o within not before same =
    let count_low : count ≤ k = elim (cases_lt k count) [ inl low ↦ absurd (both_ways (is_fired p.values k) not (o.below k s at loud low)) | inr h ↦ h ] in
    let between : bytes_of serially (take k p.tape.steps) ≡ bytes_of serially (take count p.tape.steps)
    = bytes_between serially p.tape.steps count k count_low (λ i t at_i low high. quiet i t at_i low high (writes t.act) refl) in
    let bytes : bytes_at p.values (slice_get p.tape.steps k) ≡ step_bytes serially s = ap (bytes_at p.values) at ∙ same in
    record {
      output = (λ i. o.output i ++ bytes i) ∙ ap (λ (bs : List ℕ). bs ++ step_bytes serially s) (sym between) ∙ sym (bytes_more serially p.tape.steps k s at);
      below = λ i t at_i wt low. below i t at_i wt (cases_lt i k) low;
      above = λ i t at_i wt high. ap is_some (given_other p.values k i _ (λ e. omega arith)) ∙ o.above i t at_i wt (omega arith);
    }
  where
    serially : ℕ → Option Datum
    serially = slice_get (serial p.tape.steps)

    quiet : (i : ℕ) (t : Step) → slice_get p.tape.steps i ≡ Some t → count ≤ i → i < k → (b : Bool) → writes t.act ≡ b → writes t.act ≡ false
    quiet i t at_i low high false e = e
    quiet i t at_i low high true e = absurd (both_ways (is_fired p.values i) (o.above i t at_i e low) (before i t high at_i e))

    below : (i : ℕ) (t : Step) → slice_get p.tape.steps i ≡ Some t → writes t.act ≡ true → (i < k) ⊎ (k ≤ i) → i < suc k
        → is_fired (fired_by w k p).values i ≡ true
    below i t at_i wt (inl low) h = fired_still p.values k i _ (before i t low at_i wt)
    below i t at_i wt (inr high) h =
        let e : k ≡ i = omega arith in
        subst (λ (n : ℕ). is_fired (fired_by w k p).values n ≡ true) e (ap is_some (given_same p.values k _ within))
