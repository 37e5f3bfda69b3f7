use Rattle.std.proofs.Common.{Err, subst}
use Rattle.k_world.specs.declared.answer.Stop.{Stop}
use Rattle.k_hcpa_store.specs.Leads.{GoesAlone}
use Rattle.k_plain.proofs.Advancing.{gone_alone, if_stopped}
use Rattle.k_plain.proofs.advance.go_alone.Goals as goal

pub returns-in-Ok : goal.returns-in-Ok
returns-in-Ok c = gone_alone c.args.store.now c.args.instr.now.act c.alone.new.self c.args.log.now.events c.requires.kind.1 c.in-Ok.ensures.0

pub returns-in-Err : goal.returns-in-Err
returns-in-Err c =
    if_stopped c.args.store.now c.alone.new.self c.args.log.now.events c.in-Err.stop c.stopped.result
    (λ end is. subst (λ (s : Stop). GoesAlone c.args.store.now c.args.instr.now.act (Err s) c.alone.new.self) is c.in-Err.ensures) c.stopped.ensures
