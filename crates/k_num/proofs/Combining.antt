-- Operators modulo 2^n.
use Rattle.std.proofs.Common.{arith, ◌≡◌, ◌^◌, ◌≤◌, ◌*◌, true, ℕ, ℤ, ◌*ℤ◌, refl, sym, ap, subst, ◌∙◌, bit_and, bit_or, bit_xor}
use Rattle.std.specs.Prelude.{IfOk, Result, Ok, Err}
use Rattle.std.proofs.Math.IntN.{+ℤ_comm, +ℤ_assoc, *ℤ_comm}
use borrow.Author.Differences.{up, down, same_in, product_is}
use Rattle.k_num.specs.declared.numbers.Kind.{Kind}
use Rattle.k_num.specs.declared.numbers.Bin.{Bin}
use Rattle.k_num.specs.declared.numbers.Bin.TheVariants.{Add, Sub, Mul, And, Or, Xor}
use Rattle.k_num.specs.declared.numbers.NumTrap.{NumTrap}
use Rattle.k_num.specs.declared.numbers.NumTrap.TheVariants.{Overflow}
use Rattle.k_num.specs.Kind.{width, remainder, value_of_bits, converted}
use Rattle.k_num.specs.KindLaws.{IsSameModulo}
use Rattle.k_num.specs.Arithmetic.{exact, value, on_bits}
use Rattle.k_num.specs.ArithmeticLaws.{gives_number}
use Rattle.k_num.specs.Combining.{combined, is_modular, is_commutative, CombinedIsAlike, CombinedIsCommutative, CombinedIsAssociative, CombinedInAnyOrder, DifferenceIsSum, CombinedInNarrower, AssignedIsCombined, UnsignedNeverTraps, CombinedOnBits}
use Rattle.k_num.proofs.KindLaws.{same_self, same_sum, same_difference, same_product, same_narrower, remainder_alike, held_converted, same_converted, converted_alike, converted_held}
use Rattle.k_num.proofs.ArithmeticLaws.{held_on_bits, given_unsigned, value_converted}
use Rattle.k_num.proofs.OnBits.{IsBitwise, and_bitwise, or_bitwise, xor_bitwise, remainder-on_bits, on_bits_comm, on_bits_assoc, low_bits_of_on_bits}
use Rattle.k_num.proofs.Orders.{fold-IsPermutation}

product_assoc : (a b c : ℤ) → (a *ℤ b) *ℤ c ≡ a *ℤ (b *ℤ c)
product_assoc a b c =
    let p = product_is a b in
    let q = product_is b c in
    let r = product_is (a *ℤ b) c in
    let s = product_is a (b *ℤ c) in
    let p1 = ap (λ x. x * up c) p.0 in
    let p2 = ap (λ x. x * down c) p.0 in
    let p3 = ap (λ x. x * up c) p.1 in
    let p4 = ap (λ x. x * down c) p.1 in
    let q1 = ap (λ x. up a * x) q.0 in
    let q2 = ap (λ x. down a * x) q.0 in
    let q3 = ap (λ x. up a * x) q.1 in
    let q4 = ap (λ x. down a * x) q.1 in
    same_in ((a *ℤ b) *ℤ c) (a *ℤ (b *ℤ c)) (omega arith)

-- ---- exact results

exact_comm : (op : Bin) (kind : Kind) (a b : ℤ) → is_commutative op ≡ true → exact op kind a b ≡ exact op kind b a
exact_comm Add kind a b e = +ℤ_comm a b
exact_comm Mul kind a b e = *ℤ_comm a b
exact_comm And kind a b e = on_bits_comm bit_and and_bitwise kind a b
exact_comm Or kind a b e = on_bits_comm bit_or or_bitwise kind a b
exact_comm Xor kind a b e = on_bits_comm bit_xor xor_bitwise kind a b
exact_comm op kind a b e = cc

exact_assoc : (op : Bin) (kind : Kind) (a b c : ℤ) → is_commutative op ≡ true → exact op kind (exact op kind a b) c ≡ exact op kind a (exact op kind b c)
exact_assoc Add kind a b c e = +ℤ_assoc a b c
exact_assoc Mul kind a b c e = product_assoc a b c
exact_assoc And kind a b c e = on_bits_assoc bit_and and_bitwise kind a b c
exact_assoc Or kind a b c e = on_bits_assoc bit_or or_bitwise kind a b c
exact_assoc Xor kind a b c e = on_bits_assoc bit_xor xor_bitwise kind a b c
exact_assoc op kind a b c e = cc

on_bits_alike : (op : ℕ → ℕ → ℕ) (kind : Kind) (a b c d : ℤ) → IsSameModulo (2 ^ width kind) a b → IsSameModulo (2 ^ width kind) c d
    → IsSameModulo (2 ^ width kind) (on_bits op kind a c) (on_bits op kind b d)
on_bits_alike op kind a b c d s t =
    subst (λ z. IsSameModulo (2 ^ width kind) (on_bits op kind a c) z)
    (λ i. value_of_bits kind (op (remainder_alike kind a b s i) (remainder_alike kind c d t i)))
    (same_self (2 ^ width kind) (on_bits op kind a c))

exact_alike : (op : Bin) (kind : Kind) (a b c d : ℤ) → is_modular op ≡ true → IsSameModulo (2 ^ width kind) a b → IsSameModulo (2 ^ width kind) c d
    → IsSameModulo (2 ^ width kind) (exact op kind a c) (exact op kind b d)
exact_alike Add kind a b c d e s t = same_sum (2 ^ width kind) a b c d s t
exact_alike Sub kind a b c d e s t = same_difference (2 ^ width kind) a b c d s t
exact_alike Mul kind a b c d e s t = same_product (2 ^ width kind) a b c d s t
exact_alike And kind a b c d e s t = on_bits_alike bit_and kind a b c d s t
exact_alike Or kind a b c d e s t = on_bits_alike bit_or kind a b c d s t
exact_alike Xor kind a b c d e s t = on_bits_alike bit_xor kind a b c d s t
exact_alike op kind a b c d e s t = cc

on_bits_narrowed : (op : ℕ → ℕ → ℕ) → IsBitwise op → (narrow wide : Kind) (a b : ℤ) → width narrow ≤ width wide
    → converted narrow (on_bits op wide a b) ≡ converted narrow (on_bits op narrow a b)
on_bits_narrowed op bits narrow wide a b h = ap (value_of_bits narrow) (low_bits_of_on_bits op bits narrow wide a b h)

exact_narrowed : (op : Bin) (narrow wide : Kind) (a b : ℤ) → is_modular op ≡ true → width narrow ≤ width wide
    → converted narrow (exact op wide a b) ≡ converted narrow (exact op narrow a b)
exact_narrowed Add narrow wide a b e h = refl
exact_narrowed Sub narrow wide a b e h = refl
exact_narrowed Mul narrow wide a b e h = refl
exact_narrowed And narrow wide a b e h = on_bits_narrowed bit_and and_bitwise narrow wide a b h
exact_narrowed Or narrow wide a b e h = on_bits_narrowed bit_or or_bitwise narrow wide a b h
exact_narrowed Xor narrow wide a b e h = on_bits_narrowed bit_xor xor_bitwise narrow wide a b h
exact_narrowed op narrow wide a b e h = cc

-- ---- what is combined

modular_of : (op : Bin) → is_commutative op ≡ true → is_modular op ≡ true
modular_of Add e = refl
modular_of Mul e = refl
modular_of And e = refl
modular_of Or e = refl
modular_of Xor e = refl
modular_of op e = cc

number_of : (op : Bin) → is_modular op ≡ true → gives_number op ≡ true
number_of Add e = refl
number_of Sub e = refl
number_of Mul e = refl
number_of And e = refl
number_of Or e = refl
number_of Xor e = refl
number_of op e = cc

pub combined_alike : CombinedIsAlike
combined_alike op kind a b c d e s t = converted_alike kind (exact op kind a c) (exact op kind b d) (exact_alike op kind a b c d e s t)

pub combined_comm : CombinedIsCommutative
combined_comm op kind a b e = ap (converted kind) (exact_comm op kind a b e)

pub combined_assoc : CombinedIsAssociative
combined_assoc op kind a b c e =
    combined_alike op kind (combined op kind a b) (exact op kind a b) c c m (same_converted kind (exact op kind a b)) (same_self (2 ^ width kind) c)
    ∙ ap (converted kind) (exact_assoc op kind a b c e)
    ∙ sym (combined_alike op kind a a (combined op kind b c) (exact op kind b c) m (same_self (2 ^ width kind) a) (same_converted kind (exact op kind b c)))
  where
    m : is_modular op ≡ true
    m = modular_of op e

combined_turned : (op : Bin) (kind : Kind) → is_commutative op ≡ true → (a x y : ℤ)
    → combined op kind (combined op kind a x) y ≡ combined op kind (combined op kind a y) x
combined_turned op kind e a x y =
    combined_assoc op kind a x y e ∙ ap (λ z. combined op kind a z) (combined_comm op kind x y e) ∙ sym (combined_assoc op kind a y x e)

pub combined_in_any_order : CombinedInAnyOrder
combined_in_any_order op kind a xs ys e = fold-IsPermutation (combined op kind) (combined_turned op kind e) a xs ys

pub difference_is_sum : DifferenceIsSum
difference_is_sum kind a b = refl

pub combined_narrowed : CombinedInNarrower
combined_narrowed op narrow wide a b e h =
    converted_alike narrow (combined op wide a b) (exact op wide a b)
    (same_narrower narrow wide (combined op wide a b) (exact op wide a b) h (same_converted wide (exact op wide a b)))
    ∙ exact_narrowed op narrow wide a b e h

narrowed_where : (narrow : Kind) (whole part : ℤ) (r : Result ℤ NumTrap) → converted narrow whole ≡ part → IfOk r (λ z. z ≡ whole) → IfOk r (λ z. converted narrow z ≡ part)
narrowed_where narrow whole part (Ok z) e f = ap (converted narrow) f ∙ e
narrowed_where narrow whole part (Err trap) e f = tt

pub assigned_is_combined : AssignedIsCombined
assigned_is_combined op narrow wide a b e h =
    narrowed_where narrow (combined op wide (converted wide a) (converted wide b)) (combined op narrow a b) (value op wide (converted wide a) (converted wide b))
    (ap (converted narrow) (combined_alike op wide (converted wide a) a (converted wide b) b e (same_converted wide a) (same_converted wide b))
    ∙ combined_narrowed op narrow wide a b e h)
    (value_converted op wide (converted wide a) (converted wide b) (number_of op e) (held_converted wide a))

-- what the bits give is a value of the kind
kept_on_bits : (op : ℕ → ℕ → ℕ) → IsBitwise op → (kind : Kind) (a b : ℤ) → converted kind (on_bits op kind a b) ≡ on_bits op kind a b
kept_on_bits op bits kind a b = converted_held kind (on_bits op kind a b) (held_on_bits op kind a b (bits.below (width kind)))

pub unsigned_value : UnsignedNeverTraps
unsigned_value Add kind a b e u = given_unsigned Overflow kind (exact Add kind a b) u
unsigned_value Sub kind a b e u = given_unsigned Overflow kind (exact Sub kind a b) u
unsigned_value Mul kind a b e u = given_unsigned Overflow kind (exact Mul kind a b) u
unsigned_value And kind a b e u = ap (λ z. Ok z) (sym (kept_on_bits bit_and and_bitwise kind a b))
unsigned_value Or kind a b e u = ap (λ z. Ok z) (sym (kept_on_bits bit_or or_bitwise kind a b))
unsigned_value Xor kind a b e u = ap (λ z. Ok z) (sym (kept_on_bits bit_xor xor_bitwise kind a b))
unsigned_value op kind a b e u = cc

combined_on_bits : (op : ℕ → ℕ → ℕ) → IsBitwise op → (kind : Kind) (a b : ℤ)
    → remainder kind (converted kind (on_bits op kind a b)) ≡ op (remainder kind a) (remainder kind b)
combined_on_bits op bits kind a b = ap (remainder kind) (kept_on_bits op bits kind a b) ∙ remainder-on_bits op bits kind a b

pub works_on_bits : CombinedOnBits
works_on_bits = (combined_on_bits bit_and and_bitwise, combined_on_bits bit_or or_bitwise, combined_on_bits bit_xor xor_bitwise)
