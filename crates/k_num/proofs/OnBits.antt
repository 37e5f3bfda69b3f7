-- Operations on the n bits of values.
use Rattle.std.proofs.Common.{arith, ◌≡◌, ◌^◌, ◌%◌, ◌<◌, ◌≤◌, ℕ, ℤ, pos, sym, ap, ◌∙◌, bit_and, bit_or, bit_xor}
use Rattle.std.specs.Prelude.{max}
use Rattle.std.specs.Int.{bit_at}
use Rattle.std.specs.Int.Bits.{xor_assoc}
use Rattle.std.proofs.lemmas.Nat.{and_le_l, or_lt, xor_lt, and_comm, or_comm, xor_comm, and_assoc, and_mod, or_mod, xor_mod}
use Rattle.std.proofs.lemmas.Nat.Bits.{bit_at_or, same_from_bits}
use Rattle.k_num.specs.declared.numbers.Kind.{Kind}
use Rattle.k_num.specs.Kind.{width, remainder, value_of_bits}
use Rattle.k_num.specs.Arithmetic.{on_bits}
use Rattle.k_num.proofs.KindLaws.{remainder_below, remainder_alike, remainder-value_of_bits, same_value_of_bits, same_as_remainder, same_narrower}

-- an operation that works bit by bit, and whose operands may come in any order
pub record IsBitwise (op : ℕ → ℕ → ℕ) : Type 0 where
  pub below : (k a b : ℕ) → a < 2 ^ k → b < 2 ^ k → op a b < 2 ^ k
  pub comm : (a b : ℕ) → op a b ≡ op b a
  pub assoc : (a b c : ℕ) → op (op a b) c ≡ op a (op b c)
  pub low : (a b k : ℕ) → op a b % 2 ^ k ≡ op (a % 2 ^ k) (b % 2 ^ k)

max_assoc : (x y z : ℕ) → max (max x y) z ≡ max x (max y z)
max_assoc x y z = omega arith

or_assoc : (a b c : ℕ) → bit_or (bit_or a b) c ≡ bit_or a (bit_or b c)
or_assoc a b c =
    same_from_bits _ _ (λ i.
    bit_at_or (bit_or a b) c i ∙ ap (λ x. max x (bit_at c i)) (bit_at_or a b i) ∙ max_assoc (bit_at a i) (bit_at b i) (bit_at c i)
    ∙ sym (bit_at_or a (bit_or b c) i ∙ ap (λ x. max (bit_at a i) x) (bit_at_or b c i)))

pub and_below : (k a b : ℕ) → a < 2 ^ k → b < 2 ^ k → bit_and a b < 2 ^ k
and_below k a b p q = let small = and_le_l a b in omega arith

pub and_bitwise : IsBitwise bit_and
and_bitwise = record { below = and_below; comm = and_comm; assoc = λ a b c. and_assoc c a b; low = and_mod }

pub or_bitwise : IsBitwise bit_or
or_bitwise = record { below = or_lt; comm = or_comm; assoc = or_assoc; low = or_mod }

pub xor_bitwise : IsBitwise bit_xor
xor_bitwise = record { below = xor_lt; comm = xor_comm; assoc = xor_assoc; low = xor_mod }

module _ (op : ℕ → ℕ → ℕ) (bits : IsBitwise op) where
  -- the n bits of the result are the operation on the operands' n bits
  pub remainder-on_bits : (kind : Kind) (a b : ℤ) → remainder kind (on_bits op kind a b) ≡ op (remainder kind a) (remainder kind b)
  remainder-on_bits kind a b =
      remainder-value_of_bits kind (op (remainder kind a) (remainder kind b))
      (bits.below (width kind) (remainder kind a) (remainder kind b) (remainder_below kind a) (remainder_below kind b))

  pub on_bits_comm : (kind : Kind) (a b : ℤ) → on_bits op kind a b ≡ on_bits op kind b a
  on_bits_comm kind a b = ap (value_of_bits kind) (bits.comm (remainder kind a) (remainder kind b))

  pub on_bits_assoc : (kind : Kind) (a b c : ℤ) → on_bits op kind (on_bits op kind a b) c ≡ on_bits op kind a (on_bits op kind b c)
  on_bits_assoc kind a b c =
      ap (λ r. value_of_bits kind (op r (remainder kind c))) (remainder-on_bits kind a b)
      ∙ ap (value_of_bits kind) (bits.assoc (remainder kind a) (remainder kind b) (remainder kind c))
      ∙ sym (ap (λ r. value_of_bits kind (op (remainder kind a) r)) (remainder-on_bits kind b c))

  -- the low bits of a result are the result of the low bits
  pub low_bits_of_on_bits : (narrow wide : Kind) (a b : ℤ) → width narrow ≤ width wide
      → remainder narrow (on_bits op wide a b) ≡ remainder narrow (on_bits op narrow a b)
  low_bits_of_on_bits narrow wide a b h =
      remainder_alike narrow (on_bits op wide a b) (pos r) (same_narrower narrow wide (on_bits op wide a b) (pos r) h (same_value_of_bits wide r))
      ∙ bits.low (remainder wide a) (remainder wide b) (width narrow)
      ∙ ap (λ x. op x (remainder wide b % 2 ^ width narrow)) (low a)
      ∙ ap (λ x. op (remainder narrow a) x) (low b)
      ∙ sym (remainder-on_bits narrow a b)
    where
      r : ℕ
      r = op (remainder wide a) (remainder wide b)

      low : (v : ℤ) → remainder wide v % 2 ^ width narrow ≡ remainder narrow v
      low v = remainder_alike narrow (pos (remainder wide v)) v (same_narrower narrow wide (pos (remainder wide v)) v h (same_as_remainder wide v))
