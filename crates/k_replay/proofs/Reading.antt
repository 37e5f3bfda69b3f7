-- What operands that are given read is what the serial run reads.
use Rattle.std.proofs.Common.{◌≡◌, ℕ, inl, inr, List, [], ◌∷◌, Option, Some, None, true, Contains, refl, sym, subst}
use Rattle.std.specs.Prelude.{is_some, slice_get}
use Rattle.k_replay_record.specs.declared.record.Datum.{Datum}
use Rattle.k_replay_record.specs.declared.record.Operand.{Operand}
use Rattle.k_replay_record.specs.declared.record.Operand.TheVariants.{Fixed, From}
use Rattle.k_replay_record.specs.declared.record.Step.{Step}
use Rattle.k_replay_record.specs.Serial.{operands_of, serial}
use Rattle.k_replay_record.proofs.Lists.{both_left, both_right, contains_cases, contains_none, same_number}
use Rattle.k_replay_record.proofs.Serially.{operands_same}
use Rattle.k_replay.specs.Plays.{are_given, given_in, is_fired}

-- the values that a play has are those of the serial run
abbrev pub AreSerial : List Step → List (Option Datum) → Type 0
AreSerial steps values = (k : ℕ) (d : Datum) → given_in values k ≡ Some d → slice_get (serial steps) k ≡ Some d

-- the source of operands that are given is fired
pub source_fired : (values : List (Option Datum)) (operands : List Operand) (j : ℕ) → are_given values operands ≡ true → Contains operands (From j) → is_fired values j ≡ true
source_fired values [] j all c = absurd (contains_none (From j) c)
source_fired values (Fixed d ∷ operands) j all c = elim (contains_cases (Fixed d) operands (From j) c) [
  | inl e ↦ absurd (let h : Fixed d ≡ From j = e in cc)
  | inr there ↦ source_fired values operands j all there
]
source_fired values (From i ∷ operands) j all c = elim (contains_cases (From i) operands (From j) c) [
  | inl e ↦ (let same : i ≡ j = same_number i j e in subst (λ (n : ℕ). is_fired values n ≡ true) same (both_left (is_fired values i) (are_given values operands) all))
  | inr there ↦ source_fired values operands j (both_right (is_fired values i) (are_given values operands) all) there
]

-- what operands that are given read is what the serial run reads
pub reads_serial : (steps : List Step) (values : List (Option Datum)) (s : Step) → AreSerial steps values → are_given values s.operands ≡ true
    → operands_of (given_in values) s ≡ operands_of (slice_get (serial steps)) s
reads_serial steps values s all given =
    operands_same (given_in values) (slice_get (serial steps)) s.operands
    (λ j c. agree j (given_in values j) refl (source_fired values s.operands j given c))
  where
    agree : (j : ℕ) (o : Option Datum) → given_in values j ≡ o → is_some o ≡ true → o ≡ slice_get (serial steps) j
    agree j None at some = absurd (cc)
    agree j (Some d) at some = sym (all j d at)
