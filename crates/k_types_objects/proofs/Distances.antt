-- What the right operand of an operation may be.
use Rattle.std.proofs.Common.{ℤ, IsTrue}
use Rattle.k_num.specs.declared.numbers.Bin.{Bin}
use Rattle.k_num.specs.declared.numbers.Bin.TheVariants.{Shl, Shr}
use Rattle.k_num.specs.declared.numbers.Kind.{Kind}
use Rattle.k_num.specs.Kind.{is_held}
use Rattle.k_num.specs.Arithmetic.{CanBeRight}
use Rattle.k_types_objects.specs.Distances.{right_kind}

-- a value of that kind may stand there
pub can_be_right : (op : Bin) (kind : Kind) (b : ℤ) → IsTrue (is_held (right_kind op kind b) b) → CanBeRight op kind b
can_be_right Shl kind b h = (right_kind Shl kind b, h)
can_be_right Shr kind b h = (right_kind Shr kind b, h)
can_be_right op kind b h = h
