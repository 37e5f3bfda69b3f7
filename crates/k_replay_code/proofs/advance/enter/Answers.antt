use Rattle.k_replay_code.proofs.Leaving.{entered}
use Rattle.k_replay_code.proofs.advance.enter.Goals as goal

pub returns : goal.returns
returns c =
    entered c.args.store.now c.args.instr.now c.requires.next c.requires.kind.0 c.requires.kind.1 c.enter.new.self (c.enter.ensures c.requires.kind.0 c.requires.kind.1)
    c.args.tape.now.recorder
