use Rattle.std.proofs.Common.{arith}
use Rattle.k_world.proofs.Sorted.{not_one}
use Rattle.k_world.proofs.operands.one_value.Goals as goal

pub returns-in_default-2 : goal.returns-in_default-2
returns-in_default-2 c = not_one c.args.reads.now c.requires (λ e. omega (arith, e, c.in_default.len_at_least))
