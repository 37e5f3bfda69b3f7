use Rattle.std.proofs.Common.{sym}
use Rattle.k_hcpa_store.proofs.Operating.{pc_within}
use Rattle.k_hcpa_store.proofs.Sending.{calls_told, never_over}
use Rattle.k_hcpa_store.proofs.state.State.call.Goals as goal

pub call_function-requires-clause-next : goal.call_function-requires-clause-next
call_function-requires-clause-next c = pc_within c.args.self.now c.args.instr.now c.requires.sound c.requires.next

pub returns-in-Some-clause-calls : goal.returns-in-Some-clause-calls
returns-in-Some-clause-calls c =
    calls_told c.args.self.now c.args.instr.now c.requires.sound c.requires.next c.in-Call.func c.in-Call.args c.in-Call.to c.in-Some.f c.in-Call.is (sym c.in-Some.ensures)
    c.call_function.result c.call_function.new.self _ c.as_slice.ensures c.call_function.ensures

pub returns-in-Some-clause-limits : goal.returns-in-Some-clause-limits
returns-in-Some-clause-limits c within =
    never_over c.args.self.now c.args.instr.now c.requires.sound c.requires.next c.in-Call.func c.in-Call.args c.in-Call.to c.in-Some.f c.in-Call.is (sym c.in-Some.ensures)
    c.call_function.result c.call_function.new.self _ c.as_slice.ensures c.call_function.ensures within
