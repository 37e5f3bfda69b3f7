use Rattle.std.proofs.Common.{Err, subst}
use Rattle.k_world.specs.declared.answer.Stop.{Stop}
use Rattle.k_hcpa_store.specs.Leads.{GoesAlone}
use Rattle.k_replay_code.proofs.Leaving.{ended_alone, gone_alone}
use Rattle.k_replay_code.proofs.advance.go_alone.Goals as goal

pub returns-in-Ok : goal.returns-in-Ok
returns-in-Ok c =
    gone_alone c.args.store.now c.args.instr.now c.requires.next c.requires.kind.0 c.requires.kind.1 c.alone.new.self c.in-Ok.ensures.0 c.args.tape.now.recorder

pub returns-in-Err-Ended : goal.returns-in-Err-Ended
returns-in-Err-Ended c =
    ended_alone c.args.store.now c.args.instr.now c.requires.next c.requires.kind.0 c.in-Err-Ended.end c.alone.new.self
    (subst (λ (s : Stop). GoesAlone c.args.store.now c.args.instr.now.act (Err s) c.alone.new.self) c.in-Err-Ended.field-0-is c.in-Err-Ended.ensures)
    c.args.tape.now.recorder
