use Rattle.k_hcpa_store.proofs.Leaving.{may_told}
use Rattle.k_hcpa_store.proofs.state.State.may_return.Goals as goal

pub returns-in-Return : goal.returns-in-Return
returns-in-Return c = may_told c.args.self.now c.args.instr.now c.requires.next c.in-Return.value c.in-Return.is c.may_move.result c.may_move.ensures
