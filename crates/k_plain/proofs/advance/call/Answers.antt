use Rattle.std.proofs.Common.{◌≡◌, ◌<◌, ◌∙◌, List, Some, Ok, Err, length, slice_get, ap, sym, subst}
use Rattle.k_world.specs.declared.answer.Stop.{Stop}
use Rattle.k_code.specs.declared.code.Code.{Code}
use Rattle.k_code.specs.declared.code.CodeFunc.{CodeFunc}
use Rattle.k_hcpa_store.specs.Leads.{Calls}
use Rattle.k_hcpa_store.specs.declared.answer.Calling.{Calling}
use Rattle.k_plain.proofs.Advancing.{call_there, called, if_stopped, overflowed}
use Rattle.k_plain.proofs.advance.call.Goals as goal

pub function_at-f-requires : goal.function_at-f-requires
function_at-f-requires c =
    subst (λ (funcs : List CodeFunc). c.args.func < length funcs) (sym (c.as_slice.ensures ∙ ap (λ (code : Code). code.funcs) c.code-code.ensures))
    (call_there c.args.store.now c.args.instr.now c.args.func c.requires.kind.0 c.requires.kind.1.0 c.requires.next c.requires.kind.1.1)

pub returns-in_ok-note_enter-in-Ok-Entered : goal.returns-in_ok-note_enter-in-Ok-Entered
returns-in_ok-note_enter-in-Ok-Entered c =
    let at : slice_get c.args.store.now.code.funcs c.args.func ≡ Some c.function_at-f.result =
    ap (λ (funcs : List CodeFunc). slice_get funcs c.args.func) (sym (c.as_slice.ensures ∙ ap (λ (code : Code). code.funcs) c.code-code.ensures)) ∙ c.function_at-f.ensures in
    called c.args.store.now c.args.instr.now c.read_operands.new.reads.items c.control-under.result c.in_ok-read_operands.ensures c.control-under.ensures
    c.function_at-f.result c.call.new.self c.args.log.now.events c.note_under.new.log.events c.note_enter.new.log.events
    c.in_ok-note_under-in-Ok-Entered.ensures c.in_ok-note_enter-in-Ok-Entered.ensures
    (subst (λ (a : Calling). Calls c.args.store.now c.args.instr.now c.function_at-f.result (Ok a) c.call.new.self) c.in-Ok-Entered.field-0-is
    (c.in-Ok-Entered.ensures c.args.func c.requires.kind.0 c.requires.kind.1.0 c.function_at-f.result c.requires.kind.1.1 at))

pub returns-in_ok-note_under-in-Ok-Overflowed : goal.returns-in_ok-note_under-in-Ok-Overflowed
returns-in_ok-note_under-in-Ok-Overflowed c =
    let at : slice_get c.args.store.now.code.funcs c.args.func ≡ Some c.function_at-f.result =
    ap (λ (funcs : List CodeFunc). slice_get funcs c.args.func) (sym (c.as_slice.ensures ∙ ap (λ (code : Code). code.funcs) c.code-code.ensures)) ∙ c.function_at-f.ensures in
    overflowed c.args.store.now c.args.instr.now c.read_operands.new.reads.items c.control-under.result c.in_ok-read_operands.ensures c.control-under.ensures
    c.function_at-f.result c.in-Ok-Overflowed.end c.call.new.self c.args.log.now.events c.note_under-in-Ok-Overflowed.new.log.events
    c.in_ok-note_under-in-Ok-Overflowed.ensures
    (subst (λ (a : Calling). Calls c.args.store.now c.args.instr.now c.function_at-f.result (Ok a) c.call.new.self) c.in-Ok-Overflowed.field-0-is
    (c.in-Ok-Overflowed.ensures c.args.func c.requires.kind.0 c.requires.kind.1.0 c.function_at-f.result c.requires.kind.1.1 at))

pub returns-in-Err : goal.returns-in-Err
returns-in-Err c =
    let at : slice_get c.args.store.now.code.funcs c.args.func ≡ Some c.function_at-f.result =
    ap (λ (funcs : List CodeFunc). slice_get funcs c.args.func) (sym (c.as_slice.ensures ∙ ap (λ (code : Code). code.funcs) c.code-code.ensures)) ∙ c.function_at-f.ensures in
    if_stopped c.args.store.now c.call.new.self c.args.log.now.events c.in-Err.stop c.stopped.result
    (λ end is. subst (λ (s : Stop). Calls c.args.store.now c.args.instr.now c.function_at-f.result (Err s) c.call.new.self) is
    (c.in-Err.ensures c.args.func c.requires.kind.0 c.requires.kind.1.0 c.function_at-f.result c.requires.kind.1.1 at)) c.stopped.ensures
