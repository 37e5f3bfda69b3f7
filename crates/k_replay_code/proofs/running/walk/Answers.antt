use Rattle.std.proofs.lemmas.Result.{IfOk-weaker}
use Rattle.k_replay_code.specs.Running.{Stepped, setting_of}
use Rattle.k_replay_code.specs.Steps.{Advanced}
use Rattle.k_replay_code.proofs.Going.{finds, stepped}
use Rattle.k_replay_code.proofs.running.walk.Goals as goal

pub instruction-instr-requires : goal.instruction-instr-requires
instruction-instr-requires c = finds (setting_of c.args.program.now) c.args.store.now c.args.tape.now.recorder c.requires.code c.requires.stands

pub returns : goal.returns
returns c =
    IfOk-weaker c.advance.result (λ end. Advanced c.args.store.now end c.advance.new.store c.args.tape.now.recorder c.advance.new.tape.recorder)
    (λ end. Stepped (setting_of c.args.program.now) c.args.store.now end c.advance.new.store c.advance.new.tape.recorder)
    (λ end did. stepped (setting_of c.args.program.now) c.args.store.now c.args.tape.now.recorder c.requires.code c.requires.stands end c.advance.new.store
    c.advance.new.tape.recorder did) c.advance.ensures
