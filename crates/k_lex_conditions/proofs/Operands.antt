-- Converted operands are those that an operation takes.
use Rattle.std.proofs.Common.{ℤ, IsTrue}
use Rattle.k_num.specs.declared.numbers.Kind.{Kind}
use Rattle.k_num.specs.declared.numbers.Bin.{Bin}
use Rattle.k_num.specs.declared.numbers.Bin.TheVariants.{Shl, Shr}
use Rattle.k_num.specs.Kind.{is_held}
use Rattle.k_num.specs.Arithmetic.{CanBeRight}
use Rattle.k_lex_conditions.specs.Values.{right_in}

-- the right operand, in its kind, can be one
pub can_be_right : (op : Bin) (kind own : Kind) (z : ℤ) → IsTrue (is_held (right_in op kind own) z) → CanBeRight op kind z
can_be_right Shl kind own z h = (own, h)
can_be_right Shr kind own z h = (own, h)
can_be_right op kind own z h = h
