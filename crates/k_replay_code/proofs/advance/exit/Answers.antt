use Rattle.k_replay_code.proofs.Leaving.{exited}
use Rattle.k_replay_code.proofs.advance.exit.Goals as goal

pub returns : goal.returns
returns c = exited c.args.store.now c.args.instr.now c.requires.next c.requires.kind c.exit.new.self c.exit.ensures c.args.tape.now.recorder
