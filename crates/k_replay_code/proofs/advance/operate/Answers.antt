use Rattle.std.proofs.Common.{Err, ◌∙◌, subst}
use Rattle.k_world.specs.Answers.{act_of}
use Rattle.k_world.specs.declared.answer.Stop.{Stop}
use Rattle.k_hcpa_store.specs.Leads.{Operates, goes_by}
use Rattle.k_replay_code.proofs.Leaving.{if_stopped}
use Rattle.k_replay_code.proofs.Making.{ended, noted, the_some}
use Rattle.k_replay_code.proofs.advance.operate.Goals as goal

pub returns-in_ok-note-in-Ok : goal.returns-in_ok-note-in-Ok
returns-in_ok-note-in-Ok c =
    let o = the_some (goes_by c.args.instr.now.act) c.requires.kind in
    noted c.args.store.now c.args.instr.now c.requires.next o.0 o.1 c.in-Ok.done c.make.new.self (act_of c.in-Some.act) c.read_operands.new.reads.items
    c.args.tape.now.recorder c.note.new.tape.recorder (c.in-Ok.ensures.made o.0 o.1) (c.in-Ok.ensures.operates o.0 o.1)
    (c.in_ok-same_source-in-Ok.ensures ∙ c.control-under.ensures) c.in-Some.ensures c.in_ok-read_operands.ensures c.in_ok-note-in-Ok.ensures

pub returns-in-Err : goal.returns-in-Err
returns-in-Err c =
    let o = the_some (goes_by c.args.instr.now.act) c.requires.kind in
    if_stopped c.args.store.now c.make.new.self c.args.tape.now.recorder c.in-Err.stop c.stopped.result
    (λ end is. ended c.args.store.now c.args.instr.now c.requires.next o.0 o.1 end c.args.tape.now.recorder c.make.new.self
    (subst (λ (s : Stop). Operates c.args.store.now c.args.instr.now o.0 (Err s) c.make.new.self) is (c.in-Err.ensures.operates o.0 o.1))) c.stopped.ensures
