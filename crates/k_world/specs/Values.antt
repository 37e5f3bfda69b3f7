-- Believed with the theorem on the top call.
-- Values by themselves: whether one is true, the pointers that no operation gives, and the number with which a run ends.
use Rattle.std.specs.Prelude.{ℕ, Bool, true, not, ℤ, pos, Option, Some, None}
use Rattle.k_num.specs.declared.numbers.Kind.TheVariants.{I32}
use Rattle.k_num.specs.Arithmetic.{is_zero}
use Rattle.k_num.specs.Kind.{converted}
use Rattle.k_world.specs.declared.value.Held.{Held}
use Rattle.k_world.specs.declared.value.Value.{Value}
use Rattle.k_world.specs.declared.value.Value.TheVariants as value

-- C17 6.8.4.1p2: a value is a number other than 0
abbrev pub is_true : Value → Bool
is_true (value.Number n) = not (is_zero n)
is_true (value.Pointer p) = true

-- a pointer to this element of an object, counted from 0, which no operation gave (C17 6.3.2.1p3)
abbrev pub pointer_to : ℕ → ℕ → Held
pointer_to object offset = record { value = value.Pointer (record { object = object; offset = offset }); source = None }

-- the number that a value is, as an int
abbrev pub int_of : Value → ℤ
int_of (value.Number n) = converted I32 n
int_of (value.Pointer p) = pos 0

-- C17 5.1.2.2.3p1: the number that main gives
abbrev pub exit_of : Option Held → ℤ
exit_of None = pos 0
exit_of (Some held) = int_of held.value
