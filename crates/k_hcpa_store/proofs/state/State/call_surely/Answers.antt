use Rattle.std.proofs.Common.{Ok, subst}
use Rattle.k_hcpa_store.specs.declared.answer.Calling.{Calling}
use Rattle.k_hcpa_store.specs.Leads.{Calls}
use Rattle.k_hcpa_store.proofs.state.State.call_surely.Goals as goal

pub returns-in-Ok-Entered : goal.returns-in-Ok-Entered
returns-in-Ok-Entered c = (
  λ func args to f is found. subst (λ (x : Calling). Calls c.args.self.now c.args.instr.now f (Ok x) c.call.new.self) c.in-Ok-Entered.field-0-is (c.in-Ok-Entered.ensures.calls.0 func args to f is found),
  c.in-Ok-Entered.ensures.calls.1,
)
