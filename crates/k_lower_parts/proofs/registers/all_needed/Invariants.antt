use Rattle.std.proofs.Common.{◌≡◌, drop, max}
use Rattle.k_lower_code.specs.Functions.{registers_of}
use Rattle.k_lower_parts.proofs.registers.all_needed.Given as goal

abbrev pub invariant-loop-instr : goal.invariant-loop-instr
invariant-loop-instr l = max l.most (registers_of (drop l.instr-index l.instrs)) ≡ registers_of l.instrs
