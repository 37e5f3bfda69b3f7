-- Believed with a public law.
-- Operators modulo 2^n: what they combine may come in any order. Reductions rest on it.
use Rattle.std.specs.Prelude.{ℕ, ◌^◌, ◌≤◌, Bool, true, false, IfOk, ◌≡◌, List, ℤ, neg_ℤ, bit_and, bit_or, bit_xor, Ok}
use Rattle.std.specs.List.{fold}
use Rattle.std.specs.List.Sorted.{IsPermutation}
use Rattle.k_num.specs.declared.numbers.Kind.{Kind}
use Rattle.k_num.specs.declared.numbers.Bin.{Bin}
use Rattle.k_num.specs.declared.numbers.Bin.TheVariants.{Add, Sub, Mul, And, Or, Xor}
use Rattle.k_num.specs.Kind.{width, is_signed, remainder, converted}
use Rattle.k_num.specs.KindLaws.{IsSameModulo}
use Rattle.k_num.specs.Arithmetic.{exact, value}

-- what two numbers give modulo 2^n: the value of the kind that equals the exact result modulo 2^n
abbrev pub combined : Bin → Kind → ℤ → ℤ → ℤ
combined op kind a b = converted kind (exact op kind a b)

-- the operands may change places: `+`, `*`, `&`, `|` and `^`
abbrev pub is_commutative : Bin → Bool
is_commutative Add = true
is_commutative Mul = true
is_commutative And = true
is_commutative Or = true
is_commutative Xor = true
is_commutative op = false

-- the result modulo 2^n depends on the operands modulo 2^n alone: those, and `-`
abbrev pub is_modular : Bin → Bool
is_modular Sub = true
is_modular op = is_commutative op

-- the operands may change places
abbrev pub CombinedIsCommutative : Type 0
CombinedIsCommutative = (op : Bin) (kind : Kind) (a b : ℤ) → is_commutative op ≡ true → combined op kind a b ≡ combined op kind b a

-- it is free which two of three are combined first
abbrev pub CombinedIsAssociative : Type 0
CombinedIsAssociative = (op : Bin) (kind : Kind) (a b c : ℤ) → is_commutative op ≡ true
    → combined op kind (combined op kind a b) c ≡ combined op kind a (combined op kind b c)

-- so numbers that are combined with a first one may come in any order
abbrev pub CombinedInAnyOrder : Type 0
CombinedInAnyOrder = (op : Bin) (kind : Kind) (a : ℤ) (xs ys : List ℤ) → is_commutative op ≡ true → IsPermutation xs ys
    → fold (combined op kind) a xs ≡ fold (combined op kind) a ys

-- `-` combines with the negated number, so sums with signs may come in any order too
abbrev pub DifferenceIsSum : Type 0
DifferenceIsSum = (kind : Kind) (a b : ℤ) → combined Sub kind a b ≡ combined Add kind a (neg_ℤ b)

-- operands that are equal modulo 2^n give the same
abbrev pub CombinedIsAlike : Type 0
CombinedIsAlike = (op : Bin) (kind : Kind) (a b c d : ℤ) → is_modular op ≡ true → IsSameModulo (2 ^ width kind) a b → IsSameModulo (2 ^ width kind) c d
    → combined op kind a c ≡ combined op kind b d

-- what is combined in a kind and then converted to one that is no wider is what the latter combines
abbrev pub CombinedInNarrower : Type 0
CombinedInNarrower = (op : Bin) (narrow wide : Kind) (a b : ℤ) → is_modular op ≡ true → width narrow ≤ width wide
    → converted narrow (combined op wide a b) ≡ combined op narrow a b

-- the value of an operation whose operands were converted to its kind, once converted to a kind that is no wider, is what
-- the latter combines: so a compound assignment combines what the variable holds with the other operand
abbrev pub AssignedIsCombined : Type 0
AssignedIsCombined = (op : Bin) (narrow wide : Kind) (a b : ℤ) → is_modular op ≡ true → width narrow ≤ width wide
    → IfOk (value op wide (converted wide a) (converted wide b)) (λ z. converted narrow z ≡ combined op narrow a b)

-- an unsigned kind always has the value (6.2.5p9)
abbrev pub UnsignedNeverTraps : Type 0
UnsignedNeverTraps = (op : Bin) (kind : Kind) (a b : ℤ) → is_modular op ≡ true → is_signed kind ≡ false → value op kind a b ≡ Ok (combined op kind a b)

-- an operation bit by bit: the n bits of what it combines are the operation on the operands' n bits
abbrev pub WorksOnBits : Bin → (ℕ → ℕ → ℕ) → Type 0
WorksOnBits op of_bits = (kind : Kind) (a b : ℤ) → remainder kind (combined op kind a b) ≡ of_bits (remainder kind a) (remainder kind b)

-- `&`, `|` and `^` work bit by bit
abbrev pub CombinedOnBits : Type 0
CombinedOnBits = WorksOnBits And bit_and × WorksOnBits Or bit_or × WorksOnBits Xor bit_xor
