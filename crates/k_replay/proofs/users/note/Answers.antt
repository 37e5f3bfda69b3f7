use Rattle.k_replay.proofs.Noted.{notes_step}
use Rattle.k_replay.proofs.users.note.Goals as goal

pub loop-operand-preserved : goal.loop-operand-preserved
loop-operand-preserved c =
    notes_step c.args.users.now.items c.loop-operand.users.items c.note_one.new.users.items c.args.operands.now c.loop-operand.operand-index _ c.args.k
    c.loop-operand-test.true c.loop-operand.invariant c.in_ok-note_one.ensures
