use Rattle.std.proofs.Common.{Err, subst}
use Rattle.k_world.specs.declared.answer.Stop.{Stop}
use Rattle.k_hcpa_store.specs.Leads.{Operates, goes_by}
use Rattle.k_plain.proofs.Advancing.{if_stopped, operated, the_operation}
use Rattle.k_plain.proofs.advance.operate.Goals as goal

pub returns-in_ok-note_operation-in-Ok : goal.returns-in_ok-note_operation-in-Ok
returns-in_ok-note_operation-in-Ok c =
    let o = the_operation (goes_by c.args.instr.now.act) c.args.class c.requires.kind in
    operated c.args.store.now c.args.instr.now o.0 c.args.class c.in-Ok.done c.read_operands.new.reads.items c.operate.new.self c.args.log.now.events
    c.note_operation.new.log.events o.2 c.in_ok-read_operands.ensures (c.in-Ok.ensures o.0 o.1) c.in_ok-note_operation-in-Ok.ensures

pub returns-in-Err : goal.returns-in-Err
returns-in-Err c =
    let o = the_operation (goes_by c.args.instr.now.act) c.args.class c.requires.kind in
    if_stopped c.args.store.now c.operate.new.self c.args.log.now.events c.in-Err.stop c.stopped.result
    (λ end is. subst (λ (s : Stop). Operates c.args.store.now c.args.instr.now o.0 (Err s) c.operate.new.self) is (c.in-Err.ensures o.0 o.1)) c.stopped.ensures
