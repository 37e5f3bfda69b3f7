-- The right operand of a binary operation.
use Rattle.std.proofs.Common.{ℤ, IsTrue}
use Rattle.k_num.specs.declared.numbers.Kind.{Kind}
use Rattle.k_num.specs.declared.numbers.Kind.TheVariants.{I64}
use Rattle.k_num.specs.declared.numbers.Bin.{Bin}
use Rattle.k_num.specs.declared.numbers.Bin.TheVariants.{Shl, Shr}
use Rattle.k_num.specs.Arithmetic.{CanBeRight}
use Rattle.k_num.specs.Kind.{is_held}
use Rattle.k_world.specs.Acts.{right_kind}

-- a value of the kind to which the right operand is converted may stand there
pub can_be_right : (op : Bin) (kind : Kind) (b : ℤ) → IsTrue (is_held (right_kind op kind) b) → CanBeRight op kind b
can_be_right Shl kind b h = (I64, h)
can_be_right Shr kind b h = (I64, h)
can_be_right op kind b h = h
