use Rattle.std.proofs.Common.{◌≡◌, drop, max}
use Rattle.k_code.proofs.Decided.{all_needed}
use Rattle.k_code.proofs.validity.registers.all_needed.Given as goal

abbrev pub invariant-loop-instr : goal.invariant-loop-instr
invariant-loop-instr l = max l.most (all_needed (drop l.instr-index l.instrs)) ≡ all_needed l.instrs
