use Rattle.std.proofs.Common.{ℕ, ◌≡◌, ◌+◌, ◌*◌, ◌<◌, ◌≤◌, List, [], ◌∷◌, length, slice_get, Some, Ok, Err, arith, refl, sym, ap, subst, ◌∙◌}
use Rattle.k_optab.specs.declared.class.Class.TheVariants as class
use Rattle.k_ending.specs.declared.ending.End.{End}
use Rattle.k_world.specs.declared.act.Act.TheVariants as does
use Rattle.k_world.specs.declared.answer.Stop.{Stop}
use Rattle.k_code.specs.declared.code.Code.{Code}
use Rattle.k_code.specs.declared.code.CodeFunc.{CodeFunc}
use Rattle.k_code.specs.declared.instruction.Arg.{Arg}
use Rattle.k_code.specs.Named.{operands}
use Rattle.k_hcpa_meaning.specs.Calls.{arguments_handed}
use Rattle.k_hcpa_meaning.specs.Locations.{operand_locations}
use Rattle.k_hcpa_meaning.specs.Summing.{Summing, region_entered}
use Rattle.k_hcpa_meaning.specs.Timings.{begun, operated, settled}
use Rattle.k_hcpa_store.specs.declared.answer.Calling.{Calling}
use Rattle.k_hcpa_store.specs.Kept.{Kept, configuration_of}
use Rattle.k_hcpa_store.specs.Leads.{Calls, EndsBehind, EndsHere, GoesOn, call_event}
use Rattle.k_optab.specs.declared.event.Event.TheVariants as event
use Rattle.k_hcpa_times.specs.Seen.{AreBelow, Seen, instance_entered, levels, made}
use Rattle.k_hcpa_steps.specs.Keeping.{Keeping, StopsAt, keeping}
use Rattle.k_hcpa_steps.proofs.Calling.{call_makes, call_operands, called_function, called_stands, entered_made, function_there, is_call, latency_fits, overflowed_made, overflowed_stops, parameters_fit}
use Rattle.k_hcpa_steps.proofs.Here.{operands_are_below, stops, unchanged}
use Rattle.k_hcpa_steps.proofs.Levels.{levels_called, levels_kept, shallow}
use Rattle.k_hcpa_steps.proofs.Reading.{call_reads, grown_by, operands_read, reads_within}
use Rattle.k_hcpa_steps.proofs.parts.Parts.call.Goals as goal

pub function_at-function-requires : goal.function_at-function-requires
function_at-function-requires g c =
    let old : Keeping = keeping c.args.self.now.store (g.T.Timed.seen c.args.self.now.times) c.args.self.now.summaries in
    let run = c.requires.running in
    let k = is_call c.args.instr.now.act c.requires.calls in
    subst (λ n. n < length c.code.result.now.funcs) (sym (c.function_of.ensures k.func k.args k.to k.is))
    (subst (λ (code : Code). k.func < length code.funcs) (sym c.code.ensures)
    (function_there run.setting run.count run.taken old c.args.instr.now run.is run.stands c.requires.next k.func k.args k.to k.is))

pub operate-requires-clause-args : goal.operate-requires-clause-args
operate-requires-clause-args g c =
    let old : Keeping = keeping c.args.self.now.store (g.T.Timed.seen c.args.self.now.times) c.args.self.now.summaries in
    let run = c.requires.running in
    let k = is_call c.args.instr.now.act c.requires.calls in
    subst (λ (seen : Seen). AreBelow c.first_register-first.result seen.registers c.arguments_of-args.result.now) (sym c.reserve_parameters.ensures.same)
    (subst (λ (args : List Arg). AreBelow c.first_register-first.result old.seen.registers args) (call_operands c.args.instr.now.act k.func k.args k.to k.is ∙ sym (c.arguments_of-args.ensures k.func k.args k.to k.is))
    (operands_are_below run.setting run.count run.taken old c.args.instr.now run.is run.stands c.requires.next c.first_register-first.result c.first_register-first.ensures.first c.first_register-first.ensures.few))

pub count-requires : goal.count-requires
count-requires g c =
    let old : Keeping = keeping c.args.self.now.store (g.T.Timed.seen c.args.self.now.times) c.args.self.now.summaries in
    let run = c.requires.running in
    latency_fits run.setting run.count run.taken old c.args.instr.now run.is run.stands c.requires.next

pub call_times-requires-clause-args : goal.call_times-requires-clause-args
call_times-requires-clause-args g c =
    let old : Keeping = keeping c.args.self.now.store (g.T.Timed.seen c.args.self.now.times) c.args.self.now.summaries in
    let run = c.requires.running in
    let k = is_call c.args.instr.now.act c.requires.calls in
    subst (λ (seen : Seen). AreBelow c.first_register-first.result seen.registers c.arguments_of-args.result.now) (sym c.reserve_parameters.ensures.same)
    (subst (λ (args : List Arg). AreBelow c.first_register-first.result old.seen.registers args) (call_operands c.args.instr.now.act k.func k.args k.to k.is ∙ sym (c.arguments_of-args.ensures k.func k.args k.to k.is))
    (operands_are_below run.setting run.count run.taken old c.args.instr.now run.is run.stands c.requires.next c.first_register-first.result c.first_register-first.ensures.first c.first_register-first.ensures.few))

pub call_times-requires-clause-to : goal.call_times-requires-clause-to
call_times-requires-clause-to g c =
    let old : Keeping = keeping c.args.self.now.store (g.T.Timed.seen c.args.self.now.times) c.args.self.now.summaries in
    let run = c.requires.running in
    let k = is_call c.args.instr.now.act c.requires.calls in
    let f : CodeFunc = c.function_at-function.result in
    let found : slice_get old.kept.code.funcs k.func ≡ Some f =
    called_function old.kept.code c.code.result.now k.func c.function_of.result f c.code.ensures (c.function_of.ensures k.func k.args k.to k.is) c.function_at-function.ensures in
    let on : GoesOn old.kept (call_event c.args.instr.now (configuration_of old.kept) ∷ event.Enter f.region ∷ []) c.call.new.self =
    subst (λ (x : Calling). Calls old.kept c.args.instr.now f (Ok x) c.call.new.self) c.in-Ok-Entered.field-0-is (c.in-Ok-Entered.ensures k.func k.args k.to f k.is found) in
    let fit = parameters_fit run.setting run.count run.taken old c.args.instr.now run.is run.stands c.requires.next k.func k.args k.to k.is f found (keeping c.call.new.self old.seen old.sum) on in
    let to_is = c.next_register-to.ensures.next in
    let limit = run.stands.registers in
    subst (λ (seen : Seen). c.next_register-to.result + f.params ≤ seen.registers) (sym c.reserve_parameters.ensures.same) (omega (arith, fit, to_is, limit))

pub call_times-requires-clause-few : goal.call_times-requires-clause-few
call_times-requires-clause-few g c =
    let old : Keeping = keeping c.args.self.now.store (g.T.Timed.seen c.args.self.now.times) c.args.self.now.summaries in
    let run = c.requires.running in
    let k = is_call c.args.instr.now.act c.requires.calls in
    let f : CodeFunc = c.function_at-function.result in
    let found : slice_get old.kept.code.funcs k.func ≡ Some f =
    called_function old.kept.code c.code.result.now k.func c.function_of.result f c.code.ensures (c.function_of.ensures k.func k.args k.to k.is) c.function_at-function.ensures in
    let on : GoesOn old.kept (call_event c.args.instr.now (configuration_of old.kept) ∷ event.Enter f.region ∷ []) c.call.new.self =
    subst (λ (x : Calling). Calls old.kept c.args.instr.now f (Ok x) c.call.new.self) c.in-Ok-Entered.field-0-is (c.in-Ok-Entered.ensures k.func k.args k.to f k.is found) in
    let fit = parameters_fit run.setting run.count run.taken old c.args.instr.now run.is run.stands c.requires.next k.func k.args k.to k.is f found (keeping c.call.new.self old.seen old.sum) on in
    let to_is = c.next_register-to.ensures.next in
    omega (arith, fit, to_is)

pub call_times-requires-clause-room : goal.call_times-requires-clause-room
call_times-requires-clause-room g c =
    let old : Keeping = keeping c.args.self.now.store (g.T.Timed.seen c.args.self.now.times) c.args.self.now.summaries in
    let run = c.requires.running in
    let k = is_call c.args.instr.now.act c.requires.calls in
    let f : CodeFunc = c.function_at-function.result in
    let found : slice_get old.kept.code.funcs k.func ≡ Some f =
    called_function old.kept.code c.code.result.now k.func c.function_of.result f c.code.ensures (c.function_of.ensures k.func k.args k.to k.is) c.function_at-function.ensures in
    let on : GoesOn old.kept (call_event c.args.instr.now (configuration_of old.kept) ∷ event.Enter f.region ∷ []) c.call.new.self =
    subst (λ (x : Calling). Calls old.kept c.args.instr.now f (Ok x) c.call.new.self) c.in-Ok-Entered.field-0-is (c.in-Ok-Entered.ensures k.func k.args k.to f k.is found) in
    let fit = parameters_fit run.setting run.count run.taken old c.args.instr.now run.is run.stands c.requires.next k.func k.args k.to k.is f found (keeping c.call.new.self old.seen old.sum) on in
    let to_is = c.next_register-to.ensures.next in
    c.in_ok-reserve_parameters.ensures.room (omega (arith, fit, to_is))

pub count-requires-in-Ok-Entered : goal.count-requires-in-Ok-Entered
count-requires-in-Ok-Entered g c =
    let old : Keeping = keeping c.args.self.now.store (g.T.Timed.seen c.args.self.now.times) c.args.self.now.summaries in
    let run = c.requires.running in
    latency_fits run.setting run.count run.taken old c.args.instr.now run.is run.stands c.requires.next

pub enter_instance-requires-clause-shallow : goal.enter_instance-requires-clause-shallow
enter_instance-requires-clause-shallow g c few =
    let old : Keeping = keeping c.args.self.now.store (g.T.Timed.seen c.args.self.now.times) c.args.self.now.summaries in
    let run = c.requires.running in
    let args : List Arg = c.arguments_of-args.result.now in
    let levels_same : levels (g.T.Timed.seen c.call_times.new.times) ≡ length old.seen.timing.paths =
    ap (λ (seen : Seen). levels seen) (c.call_times.ensures.times
    ∙ ap (λ (seen : Seen). made (λ t. settled c.args.instr.now.latency (arguments_handed c.first_register-first.result c.next_register-to.result c.function_at-function.result.params args (begun t))) seen) c.reserve_parameters.ensures.same)
    ∙ levels_called c.first_register-first.result c.next_register-to.result c.function_at-function.result.params args c.args.instr.now.latency old.seen.timing in
    let opened : c.count-in-Ok-Entered.new.self.opened ≡ old.sum.opened = ap (λ (sum : Summing). sum.opened) c.count-in-Ok-Entered.ensures in
    let low = shallow run.setting run.count run.taken old run.is run.stands c.args.self.now.depth run.deep (omega (arith, opened, few)) in
    omega (arith, levels_same, low)

pub enter_instance-requires-clause-same : goal.enter_instance-requires-clause-same
enter_instance-requires-clause-same g c =
    let old : Keeping = keeping c.args.self.now.store (g.T.Timed.seen c.args.self.now.times) c.args.self.now.summaries in
    let run = c.requires.running in
    let args : List Arg = c.arguments_of-args.result.now in
    let levels_same : levels (g.T.Timed.seen c.call_times.new.times) ≡ length old.seen.timing.paths =
    ap (λ (seen : Seen). levels seen) (c.call_times.ensures.times
    ∙ ap (λ (seen : Seen). made (λ t. settled c.args.instr.now.latency (arguments_handed c.first_register-first.result c.next_register-to.result c.function_at-function.result.params args (begun t))) seen) c.reserve_parameters.ensures.same)
    ∙ levels_called c.first_register-first.result c.next_register-to.result c.function_at-function.result.params args c.args.instr.now.latency old.seen.timing in
    levels_same ∙ levels_kept run.setting run.count run.taken old run.is run.stands
    ∙ ap (λ (sum : Summing). length sum.levels) (sym c.count-in-Ok-Entered.ensures)

pub returns-in-Err-Memory-clause-goes : goal.returns-in-Err-Memory-clause-goes
returns-in-Err-Memory-clause-goes g c s count taken set deep at =
    let old : Keeping = keeping c.args.self.now.store (g.T.Timed.seen c.args.self.now.times) c.args.self.now.summaries in
    let k = is_call c.args.instr.now.act c.requires.calls in
    let f : CodeFunc = c.function_at-function.result in
    let found : slice_get old.kept.code.funcs k.func ≡ Some f =
    called_function old.kept.code c.code.result.now k.func c.function_of.result f c.code.ensures (c.function_of.ensures k.func k.args k.to k.is) c.function_at-function.ensures in
    let new : Keeping = keeping c.call.new.self (g.T.Timed.seen c.reserve_parameters.new.times) c.args.self.now.summaries in
    unchanged old new
    (subst (λ (stop : Stop). Calls old.kept c.args.instr.now f (Err stop) new.kept) c.in-Err-Memory.field-0-is (c.in-Err-Memory.ensures k.func k.args k.to f k.is found))
    c.reserve_parameters.ensures.same refl

pub returns-in-Err-Ended-clause-goes : goal.returns-in-Err-Ended-clause-goes
returns-in-Err-Ended-clause-goes g c s count taken set deep at =
    let old : Keeping = keeping c.args.self.now.store (g.T.Timed.seen c.args.self.now.times) c.args.self.now.summaries in
    let k = is_call c.args.instr.now.act c.requires.calls in
    let f : CodeFunc = c.function_at-function.result in
    let found : slice_get old.kept.code.funcs k.func ≡ Some f =
    called_function old.kept.code c.code.result.now k.func c.function_of.result f c.code.ensures (c.function_of.ensures k.func k.args k.to k.is) c.function_at-function.ensures in
    let new : Keeping = keeping c.call.new.self (g.T.Timed.seen c.reserve_parameters.new.times) c.args.self.now.summaries in
    let here : EndsHere old.kept c.in-Err-Ended.end new.kept =
    subst (λ (stop : Stop). Calls old.kept c.args.instr.now f (Err stop) new.kept) c.in-Err-Ended.field-0-is (c.in-Err-Ended.ensures k.func k.args k.to f k.is found) in
    subst (λ (e : End). StopsAt s (count + 1) taken e new) (sym c.in-Err-Ended.end-is)
    (stops s count taken old c.args.instr.now set at c.requires.next c.in-Err-Ended.end new here c.reserve_parameters.ensures.same refl)

pub returns-in-Ok-Overflowed-clause-goes : goal.returns-in-Ok-Overflowed-clause-goes
returns-in-Ok-Overflowed-clause-goes g c s count taken set deep at =
    let old : Keeping = keeping c.args.self.now.store (g.T.Timed.seen c.args.self.now.times) c.args.self.now.summaries in
    let k = is_call c.args.instr.now.act c.requires.calls in
    let f : CodeFunc = c.function_at-function.result in
    let found : slice_get old.kept.code.funcs k.func ≡ Some f =
    called_function old.kept.code c.code.result.now k.func c.function_of.result f c.code.ensures (c.function_of.ensures k.func k.args k.to k.is) c.function_at-function.ensures in
    let ends : EndsBehind old.kept (call_event c.args.instr.now (configuration_of old.kept) ∷ []) c.in-Ok-Overflowed.end c.call.new.self =
    subst (λ (x : Calling). Calls old.kept c.args.instr.now f (Ok x) c.call.new.self) c.in-Ok-Overflowed.field-0-is (c.in-Ok-Overflowed.ensures k.func k.args k.to f k.is found) in
    let new : Keeping = keeping c.call.new.self (g.T.Timed.seen c.operate.new.self) c.count.new.self in
    subst (λ (e : End). StopsAt s (count + 1) taken e new) (sym c.in-Ok-Overflowed.end-is)
    (overflowed_stops s count taken old c.args.instr.now set at c.requires.next k.func k.args k.to k.is c.in-Ok-Overflowed.end new ends c.first_register-first.result c.first_register-first.ensures.first
    (c.operate.ensures.operated
    ∙ ap (λ (seen : Seen). made (operated (operand_locations c.first_register-first.result c.arguments_of-args.result.now) c.args.instr.now.latency) seen) c.reserve_parameters.ensures.same
    ∙ ap (λ (args : List Arg). made (operated (operand_locations c.first_register-first.result args) c.args.instr.now.latency) old.seen) (c.arguments_of-args.ensures k.func k.args k.to k.is))
    c.count.ensures)

pub returns-in-Ok-Overflowed-clause-reads : goal.returns-in-Ok-Overflowed-clause-reads
returns-in-Ok-Overflowed-clause-reads g c s count taken set at =
    let old : Keeping = keeping c.args.self.now.store (g.T.Timed.seen c.args.self.now.times) c.args.self.now.summaries in
    let k = is_call c.args.instr.now.act c.requires.calls in
    let f : CodeFunc = c.function_at-function.result in
    let found : slice_get old.kept.code.funcs k.func ≡ Some f =
    called_function old.kept.code c.code.result.now k.func c.function_of.result f c.code.ensures (c.function_of.ensures k.func k.args k.to k.is) c.function_at-function.ensures in
    let ends : EndsBehind old.kept (call_event c.args.instr.now (configuration_of old.kept) ∷ []) c.in-Ok-Overflowed.end c.call.new.self =
    subst (λ (x : Calling). Calls old.kept c.args.instr.now f (Ok x) c.call.new.self) c.in-Ok-Overflowed.field-0-is (c.in-Ok-Overflowed.ensures k.func k.args k.to f k.is found) in
    let args : List Arg = c.arguments_of-args.result.now in
    let same : levels (g.T.Timed.seen c.reserve_parameters.new.times) ≡ levels old.seen = ap (λ (seen : Seen). levels seen) c.reserve_parameters.ensures.same in
    let times : ℕ = 1 + length (operand_locations c.first_register-first.result args) in
    let grown = grown_by c.args.steps.now c.operate.new.steps (times * levels (g.T.Timed.seen c.reserve_parameters.new.times)) c.operate.ensures.steps in
    let named : operands c.args.instr.now.act ≡ args = call_operands c.args.instr.now.act k.func k.args k.to k.is ∙ sym (c.arguments_of-args.ensures k.func k.args k.to k.is) in
    let few = call_reads args c.args.instr.now.act named in
    let read = operands_read c.first_register-first.result args in
    reads_within s count taken old c.args.instr.now set at c.requires.next (class.Call, does.Call) (call_makes c.args.instr.now.act k.func k.args k.to k.is)
    (overflowed_made s count taken old c.args.instr.now set at c.requires.next k.func k.args k.to k.is c.in-Ok-Overflowed.end (keeping c.call.new.self old.seen old.sum) ends)
    times (levels (g.T.Timed.seen c.reserve_parameters.new.times)) c.args.steps.now c.operate.new.steps (omega (arith, few, read)) same grown.0 grown.1

pub returns-in-Ok-Entered-clause-goes : goal.returns-in-Ok-Entered-clause-goes
returns-in-Ok-Entered-clause-goes g c s count taken set deep at =
    let old : Keeping = keeping c.args.self.now.store (g.T.Timed.seen c.args.self.now.times) c.args.self.now.summaries in
    let k = is_call c.args.instr.now.act c.requires.calls in
    let f : CodeFunc = c.function_at-function.result in
    let found : slice_get old.kept.code.funcs k.func ≡ Some f =
    called_function old.kept.code c.code.result.now k.func c.function_of.result f c.code.ensures (c.function_of.ensures k.func k.args k.to k.is) c.function_at-function.ensures in
    let on : GoesOn old.kept (call_event c.args.instr.now (configuration_of old.kept) ∷ event.Enter f.region ∷ []) c.call.new.self =
    subst (λ (x : Calling). Calls old.kept c.args.instr.now f (Ok x) c.call.new.self) c.in-Ok-Entered.field-0-is (c.in-Ok-Entered.ensures k.func k.args k.to f k.is found) in
    let new : Keeping = keeping c.enter_instance.new.self.store (g.T.Timed.seen c.enter_instance.new.self.times) c.enter_instance.new.self.summaries in
    let depth : ℕ = c.args.self.now.depth in
    let latency : ℕ = c.args.instr.now.latency in
    let goes : GoesOn old.kept (call_event c.args.instr.now (configuration_of old.kept) ∷ event.Enter f.region ∷ []) new.kept =
    subst (λ (kept : Kept). GoesOn old.kept (call_event c.args.instr.now (configuration_of old.kept) ∷ event.Enter f.region ∷ []) kept) (sym c.enter_instance.ensures.store) on in
    called_stands s count taken old c.args.instr.now set at c.requires.next k.func k.args k.to k.is f found new goes depth c.first_register-first.result c.next_register-to.result deep c.first_register-first.ensures.first c.next_register-to.ensures.next
    (c.enter_instance.ensures.times
    ∙ ap (λ n. instance_entered depth n (g.T.Timed.seen c.call_times.new.times)) (ap (λ (sum : Summing). sum.opened) c.count-in-Ok-Entered.ensures)
    ∙ ap (λ (seen : Seen). instance_entered depth old.sum.opened seen) (c.call_times.ensures.times
    ∙ ap (λ (seen : Seen). made (λ t. settled latency (arguments_handed c.first_register-first.result c.next_register-to.result f.params c.arguments_of-args.result.now (begun t))) seen) c.reserve_parameters.ensures.same
    ∙ ap (λ (args : List Arg). made (λ t. settled latency (arguments_handed c.first_register-first.result c.next_register-to.result f.params args (begun t))) old.seen) (c.arguments_of-args.ensures k.func k.args k.to k.is)))
    (c.enter_instance.ensures.summaries ∙ ap (λ (sum : Summing). region_entered depth f.region sum) c.count-in-Ok-Entered.ensures)

pub returns-in-Ok-Entered-clause-reads : goal.returns-in-Ok-Entered-clause-reads
returns-in-Ok-Entered-clause-reads g c s count taken set at =
    let old : Keeping = keeping c.args.self.now.store (g.T.Timed.seen c.args.self.now.times) c.args.self.now.summaries in
    let k = is_call c.args.instr.now.act c.requires.calls in
    let f : CodeFunc = c.function_at-function.result in
    let found : slice_get old.kept.code.funcs k.func ≡ Some f =
    called_function old.kept.code c.code.result.now k.func c.function_of.result f c.code.ensures (c.function_of.ensures k.func k.args k.to k.is) c.function_at-function.ensures in
    let on : GoesOn old.kept (call_event c.args.instr.now (configuration_of old.kept) ∷ event.Enter f.region ∷ []) c.call.new.self =
    subst (λ (x : Calling). Calls old.kept c.args.instr.now f (Ok x) c.call.new.self) c.in-Ok-Entered.field-0-is (c.in-Ok-Entered.ensures k.func k.args k.to f k.is found) in
    let args : List Arg = c.arguments_of-args.result.now in
    let same : levels (g.T.Timed.seen c.reserve_parameters.new.times) ≡ levels old.seen = ap (λ (seen : Seen). levels seen) c.reserve_parameters.ensures.same in
    let named : operands c.args.instr.now.act ≡ args = call_operands c.args.instr.now.act k.func k.args k.to k.is ∙ sym (c.arguments_of-args.ensures k.func k.args k.to k.is) in
    reads_within s count taken old c.args.instr.now set at c.requires.next (class.Call, does.Call) (call_makes c.args.instr.now.act k.func k.args k.to k.is)
    (entered_made s count taken old c.args.instr.now set at c.requires.next k.func k.args k.to k.is f found (keeping c.call.new.self old.seen old.sum) on)
    (1 + length args) (levels (g.T.Timed.seen c.reserve_parameters.new.times)) c.args.steps.now c.call_times.new.steps (call_reads args c.args.instr.now.act named) same
    c.call_times.ensures.least c.call_times.ensures.steps
