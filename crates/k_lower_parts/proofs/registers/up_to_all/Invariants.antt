use Rattle.std.proofs.Common.{◌≡◌, drop, max}
use Rattle.k_code.specs.Named.{up_to_operands}
use Rattle.k_lower_parts.proofs.registers.up_to_all.Given as goal

abbrev pub invariant-loop-a : goal.invariant-loop-a
invariant-loop-a l = max l.most (up_to_operands (drop l.a-index l.args)) ≡ up_to_operands l.args
