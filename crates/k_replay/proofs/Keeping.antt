-- A play stays sound, whatever is given or fired.
use Rattle.std.proofs.Common.{◌≡◌, ◌≢◌, ℕ, zero, suc, ◌+◌, ◌<◌, ◌⊎◌, inl, inr, List, length, get_or, set, replicate, Option, Some, None, Bool, true, false, Contains, refl, sym, ◌∙◌, ap, subst, arith}
use Rattle.std.specs.Prelude.{◌&&◌, not, is_some, slice_get}
use Rattle.std.proofs.Math.ListN.{length-set}
use Rattle.std.proofs.lemmas.Bool.{and_parts, both_ways, cases_eq, not-true}
use Rattle.std.proofs.lemmas.List.{get_or-set_same, get_or-set_other, length-replicate}
use Rattle.std.proofs.lemmas.Option.{none-some, same_Some, slice_get_within}
use Rattle.k_replay_record.specs.declared.record.Datum.{Datum}
use Rattle.k_replay_record.specs.declared.record.Operand.TheVariants.{From}
use Rattle.k_replay_record.specs.declared.record.Record.{Record}
use Rattle.k_replay_record.specs.declared.record.Step.{Step}
use Rattle.k_replay_record.specs.Acts.{value, written, writes}
use Rattle.k_replay_record.specs.Records.{IsRecord}
use Rattle.k_replay_record.specs.Serial.{operands_of, serial}
use Rattle.k_replay.specs.Plays.{Play, are_given, fired_by, given_in, has_sources, held_by, is_fired, is_held, is_ready, started, value_at, with_held}
use Rattle.k_replay.specs.Sound.{IsSound, IsWritten}
use Rattle.k_replay.proofs.Chains.{writers_fired}
use Rattle.k_replay.proofs.Firing.{given_other, given_same, has_sources_still, held_there}
use Rattle.k_replay.proofs.Outputs.{loud_written, silent_written}
use Rattle.k_replay.proofs.Reading.{reads_serial, source_fired}
use Rattle.k_replay_record.proofs.Serially.{serial_value}

-- what is so of an operation that can be given
pub record CanGive (p : Play) (k : ℕ) : Type 0 where
  pub sources : has_sources p.values (slice_get p.tape.steps k) ≡ true
  pub not_fired : is_fired p.values k ≡ false
  pub not_held : is_held p.held k ≡ false

pub can_give_of : (p : Play) (k : ℕ) → is_ready p k ≡ true → CanGive p k
unfolding is_ready
can_give_of p k h =
    let parts = and_parts (has_sources p.values (slice_get p.tape.steps k)) (not (is_fired p.values k) && not (is_held p.held k)) h in
    let rest = and_parts (not (is_fired p.values k)) (not (is_held p.held k)) parts.1 in
    record { sources = parts.0; not_fired = not-true (is_fired p.values k) rest.0; not_held = not-true (is_held p.held k) rest.1 }

none_in : {A : Type 0} (n k : ℕ) → get_or {A = Option A} (replicate n None) k None ≡ None
none_in zero k = refl
none_in (suc n) zero = refl
none_in (suc n) (suc k) = none_in n k

pub none_fired : (n k : ℕ) → is_fired (replicate n None) k ≡ false
none_fired n k = ap is_some (none_in {A = Datum} n k)

-- at the start nothing is held or fired
pub started_sound : (tape : Record) (workers : ℕ) → IsRecord tape → IsSound (started tape workers)
started_sound tape workers is = record {
  tape = is;
  lengths = length-replicate (length tape.steps) None;
  sources_held = λ w k at. absurd (none-some k (sym (none_in {A = ℕ} workers w) ∙ at));
  not_fired = λ w k at. absurd (none-some k (sym (none_in {A = ℕ} workers w) ∙ at));
  once = λ v w k at other. absurd (none-some k (sym (none_in {A = ℕ} workers v) ∙ at));
  sources_fired = λ k at. absurd (both_ways (is_fired (replicate (length tape.steps) None) k) (none_fired (length tape.steps) k) at);
  value = λ k d at. absurd (none-some d (sym (none_in {A = Datum} (length tape.steps) k) ∙ at));
  written = (
    0,
    record {
      output = refl;
      below = λ k s at w low. absurd (omega arith);
      above = λ k s at w high. none_fired (length tape.steps) k;
    },
  );
}

-- an operation that can be given is given to a worker that holds none
pub given_sound : (p : Play) (w k : ℕ) → IsSound p → w < length p.held → held_by p w ≡ None → is_ready p k ≡ true → IsSound (with_held w (Some k) p)
given_sound p w k sound within free ready = record {
  tape = sound.tape;
  lengths = sound.lengths;
  sources_held = λ v m at. held v m at (cases_eq v w) (λ x. has_sources p.values (slice_get p.tape.steps x) ≡ true) can.sources (λ old. sound.sources_held v m old);
  not_fired = λ v m at. held v m at (cases_eq v w) (λ x. is_fired p.values x ≡ false) can.not_fired (λ old. sound.not_fired v m old);
  once = λ u v m at_u at_v. once u v m at_u at_v (cases_eq u w) (cases_eq v w);
  sources_fired = sound.sources_fired;
  value = sound.value;
  written = (sound.written.0, record { output = sound.written.1.output; below = sound.written.1.below; above = sound.written.1.above });
}
  where
    can : CanGive p k
    can = can_give_of p k ready

    now : held_by (with_held w (Some k) p) w ≡ Some k
    now = get_or-set_same p.held w (Some k) None within

    other : (v : ℕ) → v ≢ w → held_by (with_held w (Some k) p) v ≡ held_by p v
    other v ne = get_or-set_other p.held w v (Some k) None ne

    held : (v m : ℕ) → held_by (with_held w (Some k) p) v ≡ Some m → (v ≡ w) ⊎ (v ≢ w) → (P : ℕ → Type 0) → P k → (held_by p v ≡ Some m → P m) → P m
    held v m at (inl e) P here old = subst P (same_Some k m (sym now ∙ ap (λ (x : ℕ). held_by (with_held w (Some k) p) x) (sym e) ∙ at)) here
    held v m at (inr ne) P here old = old (sym (other v ne) ∙ at)

    -- no other worker holds it
    alone : (v m : ℕ) → m ≡ k → held_by p v ≡ Some m → ⊥
    alone v m e at = both_ways (is_held p.held k) can.not_held (held_there p.held v k (at ∙ ap (λ (x : ℕ). Some x) e))

    is_k : (v m : ℕ) → v ≡ w → held_by (with_held w (Some k) p) v ≡ Some m → m ≡ k
    is_k v m e at = same_Some m k (sym at ∙ ap (λ (x : ℕ). held_by (with_held w (Some k) p) x) e ∙ now)

    once : (u v m : ℕ) → held_by (with_held w (Some k) p) u ≡ Some m → held_by (with_held w (Some k) p) v ≡ Some m
        → (u ≡ w) ⊎ (u ≢ w) → (v ≡ w) ⊎ (v ≢ w) → u ≡ v
    once u v m at_u at_v (inl e) (inl f) = e ∙ sym f
    once u v m at_u at_v (inl e) (inr ne) = absurd (alone v m (is_k u m e at_u) (sym (other v ne) ∙ at_v))
    once u v m at_u at_v (inr ne) (inl f) = absurd (alone u m (is_k v m f at_v) (sym (other u ne) ∙ at_u))
    once u v m at_u at_v (inr ne) (inr nf) = sound.once u v m (sym (other u ne) ∙ at_u) (sym (other v nf) ∙ at_v)

-- the step whose sources are fired
pub step_of : (values : List (Option Datum)) (o : Option Step) → has_sources values o ≡ true → (s : Step) × (o ≡ Some s) × (are_given values s.operands ≡ true)
step_of values None h = absurd (cc)
step_of values (Some s) h = (s, refl, h)

-- the operation that a worker holds is fired
pub fired_sound : (p : Play) (w k : ℕ) → IsSound p → w < length p.held → held_by p w ≡ Some k → IsSound (fired_by w k p)
fired_sound p w k sound within holds = record {
  tape = sound.tape;
  lengths = length-set p.values k (Some v) ∙ sound.lengths;
  sources_held = λ u m at. has_sources_still p.values k v (slice_get p.tape.steps m) (sound.sources_held u m (still u m at));
  not_fired = λ u m at. ap is_some (given_other p.values k m v (apart u m at)) ∙ sound.not_fired u m (still u m at);
  once = λ t u m at_t at_u. sound.once t u m (still t m at_t) (still u m at_u);
  sources_fired = λ m at. sources m at (cases_eq m k);
  value = λ m d at. values m d at (cases_eq m k);
  written = output (writes s.act) refl;
}
  where
    step : (s : Step) × (slice_get p.tape.steps k ≡ Some s) × (are_given p.values s.operands ≡ true)
    step = step_of p.values (slice_get p.tape.steps k) (sound.sources_held w k holds)

    s : Step
    s = step.0

    v : Datum
    v = value_at p.values (slice_get p.tape.steps k)

    k_within : k < length p.values
    k_within = let h = slice_get_within p.tape.steps k s step.1 in omega (arith, h, sound.lengths)

    not_w : (u m : ℕ) → held_by (fired_by w k p) u ≡ Some m → u ≢ w
    not_w u m at e = none-some m (sym (get_or-set_same p.held w None None within) ∙ ap (λ (x : ℕ). held_by (fired_by w k p) x) (sym e) ∙ at)

    still : (u m : ℕ) → held_by (fired_by w k p) u ≡ Some m → held_by p u ≡ Some m
    still u m at = sym (get_or-set_other p.held w u None None (not_w u m at)) ∙ at

    apart : (u m : ℕ) → held_by (fired_by w k p) u ≡ Some m → m ≢ k
    apart u m at e = not_w u m at (sound.once u w k (still u m at ∙ ap (λ (x : ℕ). Some x) e) holds)

    sources : (m : ℕ) → is_fired (set p.values k (Some v)) m ≡ true → (m ≡ k) ⊎ (m ≢ k) → has_sources (set p.values k (Some v)) (slice_get p.tape.steps m) ≡ true
    sources m at (inl e) = has_sources_still p.values k v (slice_get p.tape.steps m)
        (subst (λ (x : ℕ). has_sources p.values (slice_get p.tape.steps x) ≡ true) (sym e) (sound.sources_held w k holds))
    sources m at (inr ne) = has_sources_still p.values k v (slice_get p.tape.steps m) (sound.sources_fired m (sym (ap is_some (given_other p.values k m v ne)) ∙ at))

    reads : operands_of (given_in p.values) s ≡ operands_of (slice_get (serial p.tape.steps)) s
    reads = reads_serial p.tape.steps p.values s sound.value step.2

    in_serial : slice_get (serial p.tape.steps) k ≡ Some v
    in_serial = serial_value p.tape.steps sound.tape.earlier k s step.1
        ∙ ap (λ (d : Datum). Some d) (sym (ap (value_at p.values) step.1 ∙ ap (value s.act) reads))

    values : (m : ℕ) (d : Datum) → given_in (set p.values k (Some v)) m ≡ Some d → (m ≡ k) ⊎ (m ≢ k) → slice_get (serial p.tape.steps) m ≡ Some d
    values m d at (inl e) = ap (slice_get (serial p.tape.steps)) e ∙ in_serial ∙ sym (given_same p.values k v k_within) ∙ ap (given_in (set p.values k (Some v))) (sym e) ∙ at
    values m d at (inr ne) = sound.value m d (sym (given_other p.values k m v ne) ∙ at)

    -- the sources of a fired operation are fired
    behind : (i n : ℕ) (t : Step) → slice_get p.tape.steps i ≡ Some t → n ≡ 0 + i → is_fired p.values n ≡ true → (j : ℕ) → Contains t.operands (From j) → is_fired p.values j ≡ true
    behind i n t at e f j c =
        let same : n ≡ i = omega arith in
        let there : has_sources p.values (slice_get p.tape.steps i) ≡ true = sound.sources_fired i (subst (λ (x : ℕ). is_fired p.values x ≡ true) same f) in
        source_fired p.values t.operands j (subst (λ (o : Option Step). has_sources p.values o ≡ true) at there) c

    before : (i : ℕ) (t : Step) → i < k → slice_get p.tape.steps i ≡ Some t → writes t.act ≡ true → writes s.act ≡ true → is_fired p.values i ≡ true
    before i t low at wt ws = writers_fired (is_fired p.values) p.tape.steps 0 None sound.tape.chained behind i k i t s low (omega arith) at wt step.1 ws
        (λ j c. source_fired p.values s.operands j step.2 c)

    output : (b : Bool) → writes s.act ≡ b → (count : ℕ) × IsWritten (fired_by w k p) count
    output false silent = (sound.written.0, silent_written p sound.written.0 w k s step.1 silent sound.written.1)
    output true loud = (
      suc k,
      loud_written p sound.written.0 w k s step.1 loud sound.written.1 k_within (sound.not_fired w k holds)
          (λ i t low at wt. before i t low at wt loud) (ap (written s.act) reads),
    )
