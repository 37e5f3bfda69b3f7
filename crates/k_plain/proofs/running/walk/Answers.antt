use Rattle.std.proofs.lemmas.Result.{IfOk-weaker}
use Rattle.k_plain.specs.Running.{Stepped}
use Rattle.k_plain.specs.Steps.{Advanced}
use Rattle.k_plain.proofs.Going.{finds, stepped}
use Rattle.k_plain.proofs.running.walk.Goals as goal

pub instruction-instr-requires : goal.instruction-instr-requires
instruction-instr-requires c = finds c.args.setting.now c.args.store.now c.args.log.now.events c.requires.code c.requires.stands

pub returns : goal.returns
returns c =
    IfOk-weaker c.advance.result (λ end. Advanced c.args.store.now end c.advance.new.store c.args.log.now.events c.advance.new.log.events)
    (λ end. Stepped c.args.setting.now c.args.store.now end c.advance.new.store c.advance.new.log.events)
    (λ end did. stepped c.args.setting.now c.args.store.now c.args.log.now.events c.requires.code c.requires.stands end c.advance.new.store c.advance.new.log.events did)
    c.advance.ensures
