-- A play goes on while something is left, and its output is the run's.
use Rattle.std.proofs.Common.{◌≡◌, ℕ, ◌<◌, ◌≤◌, ◌⊎◌, inl, inr, List, [], ◌∷◌, ◌++◌, length, drop, Option, Some, None, Bool, true, false, refl, sym, ◌∙◌, ap, subst, arith, Contains}
use Rattle.std.specs.Prelude.{not, slice_get}
use Rattle.std.proofs.lemmas.Bool.{and_from, both_ways}
use Rattle.std.proofs.lemmas.List.Elements.{All-contains}
use Rattle.std.proofs.lemmas.Option.{none-some, slice_get_within}
use Rattle.k_replay_record.specs.declared.record.Datum.{Datum}
use Rattle.k_replay_record.specs.declared.record.Operand.{Operand}
use Rattle.k_replay_record.specs.declared.record.Operand.TheVariants.{Fixed, From}
use Rattle.k_replay_record.specs.declared.record.Step.{Step}
use Rattle.k_replay_record.specs.Acts.{writes}
use Rattle.k_replay_record.specs.Records.{IsEarlier}
use Rattle.k_replay_record.specs.Serial.{bytes_of, serial}
use Rattle.k_replay.specs.declared.answer.Deal.{Deal}
use Rattle.k_replay.specs.declared.answer.Deal.TheVariants.{Given, Held, Idle}
use Rattle.k_replay.specs.Calls.{IsHolding, Takes}
use Rattle.k_replay.specs.Orders.{GivesNext, IsGiven}
use Rattle.k_replay.specs.Plays.{Play, are_given, has_sources, held_by, is_fired, is_held, is_ready, left_in}
use Rattle.k_replay.specs.Sound.{IsSound}
use Rattle.k_replay.proofs.Firing.{all_fired, first_left, holds_or_not}
use Rattle.k_replay_record.proofs.Lists.{contains_first, contains_behind, step_at}
use Rattle.k_replay_record.proofs.Serially.{earlier_at}
use Rattle.k_replay.proofs.Outputs.{bytes_prefix, bytes_whole}

-- operands that come from fired operations are given
given_all : (values : List (Option Datum)) (operands : List Operand) → ((j : ℕ) → Contains operands (From j) → is_fired values j ≡ true) → are_given values operands ≡ true
given_all values [] all = refl
given_all values (Fixed d ∷ operands) all = given_all values operands (λ j c. all j (contains_behind (Fixed d) operands (From j) c))
given_all values (From k ∷ operands) all =
    and_from (is_fired values k) (are_given values operands) (all k (contains_first (From k) operands))
    (given_all values operands (λ j c. all j (contains_behind (From k) operands (From j) c)))

-- where nothing is held, the first operation that is not fired can be given
pub first_ready : (p : Play) → IsSound p → ((k : ℕ) → is_held p.held k ≡ false) → 0 < left_in p.values → (k : ℕ) × (is_ready p k ≡ true)
unfolding is_ready
first_ready p sound free some =
    let first = first_left p.values some in
    let k = first.0 in
    let step = step_at p.tape.steps k (let h : k < length p.values = first.1 in omega (arith, h, sound.lengths)) in
    let sources : are_given p.values step.0.operands ≡ true = given_all p.values step.0.operands
    (λ j c. first.3 j (All-contains (IsEarlier k) step.0.operands (From j) (earlier_at 0 p.tape.steps sound.tape.earlier k k step.0 step.1 (omega arith)) c)) in (
      k,
      and_from (has_sources p.values (slice_get p.tape.steps k)) _
          (subst (λ (o : Option Step). has_sources p.values o ≡ true) (sym step.1) sources)
          (and_from (not (is_fired p.values k)) (not (is_held p.held k)) (ap not first.2) (ap not (free k))),
    )

-- where something is left, a worker holds an operation, or one that takes is given one
pub goes_on : (p : Play) → IsSound p → 0 < left_in p.values → ((worker : ℕ) × IsHolding p worker) ⊎ GivesNext p
goes_on p sound some = elim (holds_or_not p.held) [
  | inl there ↦ inl (there.0, (there.1, there.2))
  | inr free ↦ inr (λ w deal after none takes. given w deal after none takes (first_ready p sound free some))
]
  where
    given : (w : ℕ) (deal : Deal) (after : Play) → held_by p w ≡ None → Takes p w deal after → (k : ℕ) × (is_ready p k ≡ true) → IsGiven deal
    given w (Given k) after none takes ready = tt
    given w (Held k) after none takes ready = absurd (none-some k (sym none ∙ takes.0))
    given w Idle after none takes ready = both_ways (is_ready p ready.0) (takes.1 ready.0) ready.1

-- the output is the beginning of the run's
pub prefix : (p : Play) → IsSound p → (rest : List ℕ) × (p.output ++ rest ≡ p.tape.output)
prefix p sound =
    let f : ℕ → Option Datum = slice_get (serial p.tape.steps) in
    let m : ℕ = sound.written.0 in
    (bytes_of f (drop m p.tape.steps), ap (λ (bs : List ℕ). bs ++ bytes_of f (drop m p.tape.steps)) sound.written.1.output ∙ bytes_prefix f p.tape.steps m ∙ sound.tape.output)

-- all of it where nothing is left
pub whole : (p : Play) → IsSound p → left_in p.values ≡ 0 → p.output ≡ p.tape.output
whole p sound none =
    let f : ℕ → Option Datum = slice_get (serial p.tape.steps) in
    let m : ℕ = sound.written.0 in
    sound.written.1.output ∙ bytes_whole f p.tape.steps m (λ i s at high. quiet i s at high (writes s.act) refl) ∙ sound.tape.output
  where
    quiet : (i : ℕ) (s : Step) → slice_get p.tape.steps i ≡ Some s → sound.written.0 ≤ i → (b : Bool) → writes s.act ≡ b → writes s.act ≡ false
    quiet i s at high false e = e
    quiet i s at high true e =
        let h : i < length p.tape.steps = slice_get_within p.tape.steps i s at in
        absurd (both_ways (is_fired p.values i) (sound.written.1.above i s at e high) (all_fired p.values none i (omega (arith, h, sound.lengths))))
