use Rattle.k_code.proofs.Decided.{are_needed, needed_done}
use Rattle.k_code.proofs.validity.registers.all_needed.Goals as goal

pub returns : goal.returns
returns c =
    are_needed c.args.instrs.now c.loop-instr.most (needed_done c.args.instrs.now c.loop-instr.instr-index c.loop-instr.most c.loop-instr-test.false c.loop-instr.invariant)
