-- Believed with the theorem on the top call.
-- *Arithmetic*: the value of an operation, or why it has none, over whole numbers without bound (C17 6.5.3.3, 6.5.5 to 6.5.14).
use Rattle.std.specs.Prelude.{ℕ, ◌-◌, ◌^◌, Bool, ◌&&◌, ◌||◌, not, if◌then◌else◌, IsTrue, ℤ, pos, neg_ℤ, ◌+ℤ◌, ◌-ℤ◌, ◌*ℤ◌, int_le, int_lt, int_div, unsigned_abs, bit_and, bit_or, bit_xor, Result, Ok, Err}
use Rattle.std.specs.Int.{int_shr}
use Rattle.std.specs.Ordering.{int_eq}
use Rattle.k_num.specs.declared.numbers.Kind.{Kind}
use Rattle.k_num.specs.declared.numbers.Bin.{Bin}
use Rattle.k_num.specs.declared.numbers.Bin.TheVariants.{Add, Sub, Mul, Div, Rem, And, Or, Xor, Shl, Shr, Lt, Le, Gt, Ge, Eq, Ne, LogAnd, LogOr}
use Rattle.k_num.specs.declared.numbers.Un.{Un}
use Rattle.k_num.specs.declared.numbers.Un.TheVariants.{Neg, Complement, Not}
use Rattle.k_num.specs.declared.numbers.NumTrap.{NumTrap}
use Rattle.k_num.specs.declared.numbers.NumTrap.TheVariants.{Overflow, DivideByZero, Shift}
use Rattle.k_num.specs.Kind.{width, is_signed, is_held, remainder, value_of_bits}

-- 1 where a test holds, and 0 where not (6.5.8p6, 6.5.9p3, 6.5.13p3, 6.5.14p3)
abbrev pub truth : Bool → ℤ
truth holds = if holds then pos 1 else pos 0

-- the number compares equal to 0
abbrev pub is_zero : ℤ → Bool
is_zero a = int_eq a (pos 0)

-- an operation on the bits of two values of a kind (6.5.10p4, 6.5.11p4, 6.5.12p4)
abbrev pub on_bits : (ℕ → ℕ → ℕ) → Kind → ℤ → ℤ → ℤ
on_bits op kind a b = value_of_bits kind (op (remainder kind a) (remainder kind b))

-- the exact result of an operation on two values of a kind: `/` rounds toward zero (6.5.5p6), and `>>` rounds down (6.5.7p5)
abbrev pub exact : Bin → Kind → ℤ → ℤ → ℤ
exact Add kind a b = a +ℤ b
exact Sub kind a b = a -ℤ b
exact Mul kind a b = a *ℤ b
exact Div kind a b = int_div a b
exact Rem kind a b = a -ℤ (int_div a b *ℤ b)
exact And kind a b = on_bits bit_and kind a b
exact Or kind a b = on_bits bit_or kind a b
exact Xor kind a b = on_bits bit_xor kind a b
exact Shl kind a b = a *ℤ pos (2 ^ unsigned_abs b)
exact Shr kind a b = int_shr a (unsigned_abs b)
exact Lt kind a b = truth (int_lt a b)
exact Le kind a b = truth (int_le a b)
exact Gt kind a b = truth (int_lt b a)
exact Ge kind a b = truth (int_le b a)
exact Eq kind a b = truth (int_eq a b)
exact Ne kind a b = truth (not (int_eq a b))
exact LogAnd kind a b = truth (not (is_zero a) && not (is_zero b))
exact LogOr kind a b = truth (not (is_zero a) || not (is_zero b))

-- what a kind gives an exact result: the number where the kind holds it, its remainder modulo 2^n where the kind is
-- unsigned (6.2.5p9), else the trap (6.5p5)
abbrev pub given : NumTrap → Kind → ℤ → Result ℤ NumTrap
given trap kind z = if is_held kind z then Ok z else if is_signed kind then Err trap else Ok (pos (remainder kind z))

-- the right operand of a shift is neither negative nor the width or more (6.5.7p3)
abbrev pub is_distance : Kind → ℤ → Bool
is_distance kind b = int_le (pos 0) b && int_lt b (pos (width kind))

-- a value may be shifted left so far: a negative one may not (6.5.7p4)
abbrev pub can_shift_left : Kind → ℤ → ℤ → Bool
can_shift_left kind a b = is_distance kind b && not (is_signed kind && int_lt a (pos 0))

-- the value of a binary operation, or its trap
abbrev pub value : Bin → Kind → ℤ → ℤ → Result ℤ NumTrap
value Add kind a b = given Overflow kind (exact Add kind a b)
value Sub kind a b = given Overflow kind (exact Sub kind a b)
value Mul kind a b = given Overflow kind (exact Mul kind a b)
value Div kind a b = if is_zero b then Err DivideByZero else given Overflow kind (exact Div kind a b)
value Rem kind a b =
    if is_zero b then Err DivideByZero
    else if is_signed kind && not (is_held kind (exact Div kind a b)) then Err Overflow
    else Ok (exact Rem kind a b)
value Shl kind a b = if can_shift_left kind a b then given Shift kind (exact Shl kind a b) else Err Shift
value Shr kind a b = if is_distance kind b then Ok (exact Shr kind a b) else Err Shift
value op kind a b = Ok (exact op kind a b)

-- the value of a unary operation, or its trap (6.5.3.3): `~` changes each of the n bits
abbrev pub unary_value : Un → Kind → ℤ → Result ℤ NumTrap
unary_value Neg kind a = given Overflow kind (neg_ℤ a)
unary_value Complement kind a = Ok (value_of_bits kind (2 ^ width kind - 1 - remainder kind a))
unary_value Not kind a = Ok (truth (is_zero a))

-- the right operand of an operation on values of a kind is one too, but the distance of a shift may be of any kind
abbrev pub CanBeRight : Bin → Kind → ℤ → Type 0
CanBeRight Shl kind b = (other : Kind) × IsTrue (is_held other b)
CanBeRight Shr kind b = (other : Kind) × IsTrue (is_held other b)
CanBeRight op kind b = IsTrue (is_held kind b)
