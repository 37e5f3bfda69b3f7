use Rattle.std.proofs.Common.{None, sym, subst}
use Rattle.k_carry.specs.Steps.{Advances}
use Rattle.k_carry.proofs.Advancing.{left_told}
use Rattle.k_carry.proofs.advance.leave_now.Goals as goal

pub returns : goal.returns
returns c =
    subst (λ (m : _). Advances c.args.store.now c.args.instr.now (record { operation = m; entered = None; left = c.regions-left.result; end = c.leave-end.result }) c.leave-end.new.self)
    (sym c.moved-operation.ensures)
    (left_told c.args.store.now c.leave-end.new.self c.args.instr.now c.requires.kind.0 c.args.moves c.control.result c.regions-left.result c.leave-end.result
    c.requires.kind.1 c.requires.kind.2 c.control.ensures c.regions-left.ensures (c.leave-end.ensures c.requires.kind.0 c.requires.kind.1))
