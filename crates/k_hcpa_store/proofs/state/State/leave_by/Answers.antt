use Rattle.k_hcpa_store.proofs.Leaving.{leaves_told, may_none}
use Rattle.k_hcpa_store.proofs.state.State.leave_by.Goals as goal

pub leave-requires-clause-may : goal.leave-requires-clause-may
leave-requires-clause-may c = may_none c.args.self.now c.args.instr.now c.in-Return.value c.in-Return.is c.requires.may

pub returns-in-Return : goal.returns-in-Return
returns-in-Return c =
    let all = leaves_told c.args.self.now c.args.instr.now c.requires.sound c.requires.next c.in-Return.value c.in-Return.is c.leave.result c.leave.new.self c.leave.ensures in
    (λ value is. all.0, all.1)
