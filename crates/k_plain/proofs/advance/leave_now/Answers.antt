use Rattle.k_plain.proofs.Advancing.{left}
use Rattle.k_plain.proofs.advance.leave_now.Goals as goal

pub returns : goal.returns
returns c =
    left c.args.store.now c.args.instr.now c.read_operands.new.reads.items c.control-under.result c.in_ok-read_operands.ensures c.control-under.ensures
    c.requires.kind.0 c.args.moves c.regions-count.result c.leave.result c.leave.new.self c.args.log.now.events c.note_moved.new.log.events c.note_exits.new.log.events
    c.requires.kind.1 c.requires.kind.2 c.regions-count.ensures c.in_ok-note_moved.ensures c.in_ok-note_exits.ensures (c.leave.ensures c.requires.kind.0 c.requires.kind.1)
