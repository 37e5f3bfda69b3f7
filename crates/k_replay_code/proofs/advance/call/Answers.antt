use Rattle.std.proofs.Common.{Ok, Err, subst}
use Rattle.k_world.specs.declared.answer.Stop.{Stop}
use Rattle.k_hcpa_store.specs.Leads.{Calls}
use Rattle.k_hcpa_store.specs.declared.answer.Calling.{Calling}
use Rattle.k_replay_code.proofs.Leaving.{call_ended, call_entered, call_overflowed, func_there, if_stopped, it_adds}
use Rattle.k_replay_code.proofs.advance.call.Goals as goal

pub returns-in_ok-note_call-in-Ok-Entered : goal.returns-in_ok-note_call-in-Ok-Entered
returns-in_ok-note_call-in-Ok-Entered c =
    let k = c.requires.kind in
    let f = func_there c.args.store.now c.args.instr.now c.requires.next k.0 k.1.0 k.1.1.0 k.1.1.1 in
    call_entered c.args.store.now c.args.instr.now c.requires.next k.0 k.1.0 k.1.1.0 k.1.1.1 f.0 c.call.new.self c.args.tape.now.recorder c.note_call.new.tape.recorder
    (subst (λ (a : Calling). Calls c.args.store.now c.args.instr.now f.0 (Ok a) c.call.new.self) c.in-Ok-Entered.field-0-is
    (c.in-Ok-Entered.ensures k.0 k.1.0 k.1.1.0 f.0 k.1.1.1 f.1))
    (it_adds c.args.store.now c.args.instr.now c.requires.next k.0 k.1.0 k.1.1.0 k.1.1.1 c.read_operands.new.reads.items c.control-under.result
    c.args.tape.now.recorder c.note_call.new.tape.recorder c.in_ok-read_operands.ensures c.control-under.ensures c.in_ok-note_call-in-Ok-Entered.ensures)

pub returns-in_ok-note_call-in-Ok-Overflowed : goal.returns-in_ok-note_call-in-Ok-Overflowed
returns-in_ok-note_call-in-Ok-Overflowed c =
    let k = c.requires.kind in
    let f = func_there c.args.store.now c.args.instr.now c.requires.next k.0 k.1.0 k.1.1.0 k.1.1.1 in
    call_overflowed c.args.store.now c.args.instr.now c.requires.next k.0 k.1.0 k.1.1.0 k.1.1.1 f.0 c.in-Ok-Overflowed.end c.call.new.self c.args.tape.now.recorder
    c.note_call-in-Ok-Overflowed.new.tape.recorder
    (subst (λ (a : Calling). Calls c.args.store.now c.args.instr.now f.0 (Ok a) c.call.new.self) c.in-Ok-Overflowed.field-0-is
    (c.in-Ok-Overflowed.ensures k.0 k.1.0 k.1.1.0 f.0 k.1.1.1 f.1))
    (it_adds c.args.store.now c.args.instr.now c.requires.next k.0 k.1.0 k.1.1.0 k.1.1.1 c.read_operands.new.reads.items c.control-under.result
    c.args.tape.now.recorder c.note_call-in-Ok-Overflowed.new.tape.recorder c.in_ok-read_operands.ensures c.control-under.ensures
    c.in_ok-note_call-in-Ok-Overflowed.ensures)

pub returns-in-Err : goal.returns-in-Err
returns-in-Err c =
    let k = c.requires.kind in
    let f = func_there c.args.store.now c.args.instr.now c.requires.next k.0 k.1.0 k.1.1.0 k.1.1.1 in
    if_stopped c.args.store.now c.call.new.self c.args.tape.now.recorder c.in-Err.stop c.stopped.result
    (λ end is. call_ended c.args.store.now c.args.instr.now c.requires.next k.0 k.1.0 k.1.1.0 k.1.1.1 end c.call.new.self c.args.tape.now.recorder
    (subst (λ (s : Stop). Calls c.args.store.now c.args.instr.now f.0 (Err s) c.call.new.self) is
    (c.in-Err.ensures k.0 k.1.0 k.1.1.0 f.0 k.1.1.1 f.1))) c.stopped.ensures
