use Rattle.std.proofs.Common.{arith}
use Rattle.k_math.proofs.UnitLaws.{low_power, high_power}
use Rattle.k_math.proofs.remainder.unit_power.Goals as goal

pub returns-then-k-lt52 : goal.returns-then-k-lt52
returns-then-k-lt52 c = low_power c.args.k c.real_of_code.result (omega (arith, c.if-k-lt52.true)) c.real_of_code.ensures

pub returns-else-k-lt52 : goal.returns-else-k-lt52
returns-else-k-lt52 c = high_power c.args.k c.real_of_code-else-k-lt52.result (omega (arith, c.if-k-lt52.false)) c.requires c.real_of_code-else-k-lt52.ensures
