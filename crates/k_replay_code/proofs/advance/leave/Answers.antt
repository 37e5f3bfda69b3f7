use Rattle.k_replay_code.proofs.Leaving.{left, moved_adds, return_ended}
use Rattle.k_replay_code.proofs.advance.leave.Goals as goal

pub returns-in_ok-note_move-in-Ok : goal.returns-in_ok-note_move-in-Ok
returns-in_ok-note_move-in-Ok c =
    let k = c.requires.kind in
    left c.args.store.now c.args.instr.now c.requires.next k.0 k.1 (c.in-Ok.ensures k.0 k.1) c.leave.result c.leave.new.self c.args.tape.now.recorder
    c.note_move.new.tape.recorder (c.leave.ensures k.0 k.1)
    (moved_adds c.args.store.now c.args.instr.now c.requires.next k.0 k.1 (c.in-Ok.ensures k.0 k.1) c.read_operands.new.reads.items c.control-under.result
    c.args.tape.now.recorder c.note_move.new.tape.recorder c.in_ok-read_operands-in-Ok.ensures c.control-under.ensures c.in_ok-note_move-in-Ok.ensures)

pub returns-in-Err : goal.returns-in-Err
returns-in-Err c =
    return_ended c.args.store.now c.args.instr.now c.requires.next c.requires.kind.0 c.requires.kind.1 c.in-Err.end c.args.tape.now.recorder
    (c.in-Err.ensures c.requires.kind.0 c.requires.kind.1)
