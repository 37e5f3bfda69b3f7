-- For contracts between crates: nobody has to believe it.
-- The kinds of the right operands of operations.
use Rattle.std.specs.Prelude.{if◌then◌else◌, ℤ, pos, int_lt}
use Rattle.k_num.specs.declared.numbers.Bin.{Bin}
use Rattle.k_num.specs.declared.numbers.Bin.TheVariants.{Shl, Shr}
use Rattle.k_num.specs.declared.numbers.Kind.{Kind}
use Rattle.k_num.specs.declared.numbers.Kind.TheVariants.{I64, U64}

-- C17 6.5.7p3: a kind that the right operand is of: the distance of a shift may be of any kind, so of the widest one of its sign
abbrev pub right_kind : Bin → Kind → ℤ → Kind
right_kind Shl kind b = if int_lt b (pos 0) then I64 else U64
right_kind Shr kind b = if int_lt b (pos 0) then I64 else U64
right_kind op kind b = kind
