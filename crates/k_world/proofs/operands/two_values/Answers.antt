use Rattle.std.proofs.Common.{arith}
use Rattle.k_world.proofs.Sorted.{not_two}
use Rattle.k_world.proofs.operands.two_values.Goals as goal

pub returns-in_default : goal.returns-in_default
returns-in_default c = not_two c.args.reads.now c.requires (λ e. omega (arith, e, c.in_default.len_below))

pub returns-in_default-2 : goal.returns-in_default-2
returns-in_default-2 c = not_two c.args.reads.now c.requires (λ e. omega (arith, e, c.in_default.len_at_least))
