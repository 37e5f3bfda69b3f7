use Rattle.std.proofs.Common.{ℕ, ◌+◌, ◌*◌, ◌^◌, ◌<◌, length, Option, Err, IfSome, refl, sym, ap, subst, ◌∙◌}
use Rattle.k_hcpa_times.specs.Seen.{AreBelow, Seen, levels, made as made_of}
use Rattle.k_ending.specs.declared.ending.End.{End}
use Rattle.k_world.specs.declared.answer.Stop.{Stop}
use Rattle.k_hcpa_store.specs.Kept.{configuration_of}
use Rattle.k_hcpa_store.specs.Leads.{EndsHere, Operates}
use Rattle.k_hcpa_instructions.specs.Kinds.{depends_by}
use Rattle.k_hcpa_instructions.specs.AtOnce.{operated_by}
use Rattle.k_code.specs.Named.{operands}
use Rattle.k_hcpa_steps.specs.Keeping.{Keeping, StopsAt, keeping}
use Rattle.k_hcpa_steps.proofs.Here.{each_if, element_below, goes_by_operation, operands_are_below, operation_kind, operation_stands, set_below, stored_below, stops, unchanged, work_fits}
use Rattle.k_hcpa_steps.proofs.Reading.{operation_reads}
use Rattle.k_hcpa_steps.proofs.Rooms.{held_room}
use Rattle.k_hcpa_steps.proofs.parts.Parts.operate.Goals as goal

pub reserve_result-requires-clause-to : goal.reserve_result-requires-clause-to
reserve_result-requires-clause-to g c =
    let old : Keeping = keeping c.args.self.now.store (g.T.Timed.seen c.args.self.now.times) c.args.self.now.summaries in
    let run = c.requires.running in
    let first = c.first_register-first.result in
    each_if c.register_of-to.result (λ r. (first + r < old.seen.registers) × (first + r < 2 ^ 32)) (λ r. first + r < old.seen.registers) (λ r both. both.0)
    (set_below run.setting run.count run.taken old c.args.instr.now run.is run.stands c.requires.next first c.first_register-first.ensures.first c.first_register-first.ensures.few
    c.register_of-to.result c.register_of-to.ensures)

pub reserve_result-requires-clause-few : goal.reserve_result-requires-clause-few
reserve_result-requires-clause-few g c =
    let old : Keeping = keeping c.args.self.now.store (g.T.Timed.seen c.args.self.now.times) c.args.self.now.summaries in
    let run = c.requires.running in
    let first = c.first_register-first.result in
    each_if c.register_of-to.result (λ r. (first + r < old.seen.registers) × (first + r < 2 ^ 32)) (λ r. first + r < 2 ^ 32) (λ r both. both.1)
    (set_below run.setting run.count run.taken old c.args.instr.now run.is run.stands c.requires.next first c.first_register-first.ensures.first c.first_register-first.ensures.few
    c.register_of-to.result c.register_of-to.ensures)

pub operation_times-requires-clause-operands : goal.operation_times-requires-clause-operands
operation_times-requires-clause-operands g c =
    let old : Keeping = keeping c.args.self.now.store (g.T.Timed.seen c.args.self.now.times) c.args.self.now.summaries in
    let run = c.requires.running in
    subst (λ (seen : Seen). AreBelow c.first_register-first.result seen.registers (operands c.args.instr.now.act)) (sym c.reserve_result.ensures.same)
    (operands_are_below run.setting run.count run.taken old c.args.instr.now run.is run.stands c.requires.next c.first_register-first.result c.first_register-first.ensures.first
    c.first_register-first.ensures.few)

pub operation_times-requires-clause-element : goal.operation_times-requires-clause-element
operation_times-requires-clause-element g c =
    let old : Keeping = keeping c.args.self.now.store (g.T.Timed.seen c.args.self.now.times) c.args.self.now.summaries in
    let run = c.requires.running in
    let made = operation_kind c.args.instr.now.act c.requires.operation in
    subst (λ (seen : Seen). IfSome c.in-Ok.done.element (λ e. e < seen.elements)) (sym c.reserve_result.ensures.same)
    (element_below run.setting run.count run.taken old c.args.instr.now run.is run.stands c.requires.next made.0.1 c.in-Ok.done.element (c.in-Ok.ensures made.0 made.1).1)

pub count-requires : goal.count-requires
count-requires g c =
    let old : Keeping = keeping c.args.self.now.store (g.T.Timed.seen c.args.self.now.times) c.args.self.now.summaries in
    let new : Keeping = keeping c.operate.new.self (g.T.Timed.seen c.args.self.now.times) c.args.self.now.summaries in
    let run = c.requires.running in
    let made = operation_kind c.args.instr.now.act c.requires.operation in
    let known = c.in-Ok.ensures made.0 made.1 in
    work_fits run.setting run.count run.taken old c.args.instr.now run.is run.stands c.requires.next made.0 made.1 c.first_register-first.result c.in-Ok.done.element
    c.first_register-first.ensures.first known.1 new _ known.0

pub returns-in-Err-Ended-clause-goes : goal.returns-in-Err-Ended-clause-goes
returns-in-Err-Ended-clause-goes g c s count taken set deep at =
    let old : Keeping = keeping c.args.self.now.store (g.T.Timed.seen c.args.self.now.times) c.args.self.now.summaries in
    let new : Keeping = keeping c.operate.new.self (g.T.Timed.seen c.reserve_result.new.times) c.args.self.now.summaries in
    let end : End = c.in-Err-Ended.end in
    let made = operation_kind c.args.instr.now.act c.requires.operation in
    let here : EndsHere old.kept end new.kept =
    subst (λ (stop : Stop). Operates old.kept c.args.instr.now made.0 (Err stop) new.kept) c.in-Err-Ended.field-0-is (c.in-Err-Ended.ensures made.0 made.1) in
    subst (λ (e : End). StopsAt s (count + 1) taken e new) (sym c.in-Err-Ended.end-is)
    (stops s count taken old c.args.instr.now set at c.requires.next end new here c.reserve_result.ensures.same refl)

pub reserve_result-requires-clause-element : goal.reserve_result-requires-clause-element
reserve_result-requires-clause-element g c =
    let old : Keeping = keeping c.args.self.now.store (g.T.Timed.seen c.args.self.now.times) c.args.self.now.summaries in
    let run = c.requires.running in
    subst (λ (some : Option ℕ). IfSome some (λ e. e < old.seen.elements)) (sym c.element_to_store-element.ensures)
    (stored_below run.setting run.count run.taken old c.args.instr.now run.is run.stands c.requires.next)

pub operation_times-requires-clause-room : goal.operation_times-requires-clause-room
operation_times-requires-clause-room g c =
    let made = operation_kind c.args.instr.now.act c.requires.operation in
    let known = goes_by_operation c.args.instr.now.act made.0 made.1 in
    held_room (g.T.Timed.room c.reserve_result.new.times) (configuration_of c.args.self.now.store) c.args.instr.now.act made.0 c.first_register-first.result c.register_of-to.result
    c.element_to_store-element.result c.in-Ok.done.element known.0 c.register_of-to.ensures c.element_to_store-element.ensures (c.in-Ok.ensures made.0 made.1).1
    c.in_ok-reserve_result.ensures.register c.in_ok-reserve_result.ensures.element

pub operation_times-requires-clause-below : goal.operation_times-requires-clause-below
operation_times-requires-clause-below g c =
    let old : Keeping = keeping c.args.self.now.store (g.T.Timed.seen c.args.self.now.times) c.args.self.now.summaries in
    let run = c.requires.running in
    let first = c.first_register-first.result in
    subst (λ (seen : Seen). IfSome c.register_of-to.result (λ r. first + r < seen.registers)) (sym c.reserve_result.ensures.same)
    (each_if c.register_of-to.result (λ r. (first + r < old.seen.registers) × (first + r < 2 ^ 32)) (λ r. first + r < old.seen.registers) (λ r both. both.0)
    (set_below run.setting run.count run.taken old c.args.instr.now run.is run.stands c.requires.next first c.first_register-first.ensures.first c.first_register-first.ensures.few
    c.register_of-to.result c.register_of-to.ensures))

pub operation_times-requires-clause-few : goal.operation_times-requires-clause-few
operation_times-requires-clause-few g c =
    let old : Keeping = keeping c.args.self.now.store (g.T.Timed.seen c.args.self.now.times) c.args.self.now.summaries in
    let run = c.requires.running in
    let first = c.first_register-first.result in
    each_if c.register_of-to.result (λ r. (first + r < old.seen.registers) × (first + r < 2 ^ 32)) (λ r. first + r < 2 ^ 32) (λ r both. both.1)
    (set_below run.setting run.count run.taken old c.args.instr.now run.is run.stands c.requires.next first c.first_register-first.ensures.first c.first_register-first.ensures.few
    c.register_of-to.result c.register_of-to.ensures)

pub returns-in-Ok-clause-goes : goal.returns-in-Ok-clause-goes
returns-in-Ok-clause-goes g c s count taken set deep at =
    let old : Keeping = keeping c.args.self.now.store (g.T.Timed.seen c.args.self.now.times) c.args.self.now.summaries in
    let new : Keeping = keeping c.operate.new.self (g.T.Timed.seen c.operation_times.new.times) c.count.new.self in
    let made = operation_kind c.args.instr.now.act c.requires.operation in
    let o = made.0 in
    let goes = made.1 in
    let known = c.in-Ok.ensures o goes in
    let first = c.first_register-first.result in
    let element = c.in-Ok.done.element in
    let i = c.args.instr.now in
    operation_stands s count taken old c.args.instr.now set at c.requires.next o goes c.first_register-first.result c.in-Ok.done.element
    c.first_register-first.ensures.first known.1 new _ known.0
    (c.operation_times.ensures.times ∙ ap (λ (seen : Seen). made_of (operated_by first i element) seen) c.reserve_result.ensures.same) c.count.ensures

pub returns-in-Err-Memory-clause-goes : goal.returns-in-Err-Memory-clause-goes
returns-in-Err-Memory-clause-goes g c s count taken set deep at =
    let old : Keeping = keeping c.args.self.now.store (g.T.Timed.seen c.args.self.now.times) c.args.self.now.summaries in
    let new : Keeping = keeping c.operate.new.self (g.T.Timed.seen c.reserve_result.new.times) c.args.self.now.summaries in
    let made = operation_kind c.args.instr.now.act c.requires.operation in
    unchanged old new
    (subst (λ (stop : Stop). Operates old.kept c.args.instr.now made.0 (Err stop) new.kept) c.in-Err-Memory.field-0-is (c.in-Err-Memory.ensures made.0 made.1))
    c.reserve_result.ensures.same refl

pub returns-in-Ok-clause-reads : goal.returns-in-Ok-clause-reads
returns-in-Ok-clause-reads g c s count taken set at =
    let old : Keeping = keeping c.args.self.now.store (g.T.Timed.seen c.args.self.now.times) c.args.self.now.summaries in
    let new : Keeping = keeping c.operate.new.self (g.T.Timed.seen c.operation_times.new.times) c.count.new.self in
    let made = operation_kind c.args.instr.now.act c.requires.operation in
    operation_reads s count taken old c.args.instr.now set at c.requires.next made.0 made.1 new _ _ (c.in-Ok.ensures made.0 made.1).0 c.first_register-first.result c.in-Ok.done.element
    c.args.steps.now c.operation_times.new.steps
    (c.operation_times.ensures.steps
    ∙ ap (λ (seen : Seen). c.args.steps.now + (1 + length (depends_by c.first_register-first.result c.args.instr.now.act c.in-Ok.done.element)) * levels seen) c.reserve_result.ensures.same)
