use Rattle.std.proofs.Common.{ℕ, ◌+◌, ◌*◌, List, [], ◌∷◌, length, Option, Some, arith, refl, sym, ap, subst, ◌∙◌}
use Rattle.std.specs.Prelude.{min}
use Rattle.k_optab.specs.declared.class.Class.TheVariants as class
use Rattle.k_world.specs.declared.act.Act.TheVariants as does
use Rattle.k_code.specs.declared.instruction.Arg.{Arg}
use Rattle.k_hcpa_meaning.specs.Calls.{given_back}
use Rattle.k_hcpa_meaning.specs.Locations.{operand_locations}
use Rattle.k_hcpa_meaning.specs.Summing.{operation_made, regions_left}
use Rattle.k_hcpa_meaning.specs.Timings.{Timing, all_left_below, operated, saved_kept, settled}
use Rattle.k_hcpa_store.specs.Kept.{configuration_of}
use Rattle.k_hcpa_times.specs.Seen.{AreBelow, ForRegister, Room, Seen, levels, made}
use Rattle.k_hcpa_steps.specs.Keeping.{Keeping, keeping}
use Rattle.k_hcpa_steps.proofs.Calling.{latency_fits}
use Rattle.k_hcpa_steps.proofs.Here.{each_if, operands_are_below}
use Rattle.k_hcpa_steps.proofs.Levels.{levels_begun, levels_kept, levels_live, levels_moved, regions_below}
use Rattle.k_hcpa_steps.proofs.Reading.{grown_by, may_make, reads_within, return_makes, return_operands, return_reads}
use Rattle.k_hcpa_steps.proofs.Returning.{returned_goes}
use Rattle.k_hcpa_steps.proofs.parts.Parts.return_value.Goals as goal

pub begin_return-requires : goal.begin_return-requires
begin_return-requires g c =
    let old : Keeping = keeping c.args.self.now.store (g.T.Timed.seen c.args.self.now.times) c.args.self.now.summaries in
    let run = c.requires.running in
    subst (λ (args : List Arg). AreBelow c.first_register-first.result old.seen.registers args) (return_operands c.args.instr.now.act c.args.a c.requires.act)
    (operands_are_below run.setting run.count run.taken old c.args.instr.now run.is run.stands c.requires.next c.first_register-first.result c.first_register-first.ensures.first
    c.first_register-first.ensures.few)

pub leave_instances-requires-clause-work : goal.leave_instances-requires-clause-work
leave_instances-requires-clause-work g c =
    let old : Keeping = keeping c.args.self.now.store (g.T.Timed.seen c.args.self.now.times) c.args.self.now.summaries in
    let run = c.requires.running in
    latency_fits run.setting run.count run.taken old c.args.instr.now run.is run.stands c.requires.next

pub leave_instances-requires-clause-levels : goal.leave_instances-requires-clause-levels
leave_instances-requires-clause-levels g c =
    let old : Keeping = keeping c.args.self.now.store (g.T.Timed.seen c.args.self.now.times) c.args.self.now.summaries in
    let run = c.requires.running in
    ap (λ (seen : Seen). levels seen) c.begin_return.ensures.times ∙ levels_begun c.first_register-first.result c.args.a old.seen.timing
    ∙ levels_kept run.setting run.count run.taken old run.is run.stands

pub give_back-requires-clause-room : goal.give_back-requires-clause-room
give_back-requires-clause-room g c =
    let old : Room → Type 0 = g.T.Timed.room c.args.self.now.times in
    let new : Room → Type 0 = g.T.Timed.room c.settle.new.self in
    each_if c.args.back (λ r. old (ForRegister r)) (λ r. new (ForRegister r)) (λ r has. c.settle.ensures.kept.registers r (c.begin_return.ensures.kept (ForRegister r) has)) c.requires.room

pub returns-in_err-leave_instances-clause-reads : goal.returns-in_err-leave_instances-clause-reads
returns-in_err-leave_instances-clause-reads g c s count taken set at =
    let old : Keeping = keeping c.args.self.now.store (g.T.Timed.seen c.args.self.now.times) c.args.self.now.summaries in
    let first = c.first_register-first.result in
    let grown = grown_by c.args.steps.now c.begin_return.new.steps ((1 + length (operand_locations first (c.args.a ∷ []))) * levels old.seen) c.begin_return.ensures.steps in
    reads_within s count taken old c.args.instr.now set at c.requires.next (class.Move, does.Move) (return_makes c.args.instr.now.act c.args.a c.requires.act)
    (may_make s count taken old c.args.instr.now set at c.requires.next c.args.a c.requires.act c.requires.may)
    (1 + length (operand_locations first (c.args.a ∷ []))) (levels old.seen) c.args.steps.now c.begin_return.new.steps
    (return_reads first c.args.a c.args.instr.now.act c.requires.act) refl grown.0 grown.1

pub returns-clause-reads : goal.returns-clause-reads
returns-clause-reads g c s count taken set at =
    let old : Keeping = keeping c.args.self.now.store (g.T.Timed.seen c.args.self.now.times) c.args.self.now.summaries in
    let first = c.first_register-first.result in
    let grown = grown_by c.args.steps.now c.begin_return.new.steps ((1 + length (operand_locations first (c.args.a ∷ []))) * levels old.seen) c.begin_return.ensures.steps in
    reads_within s count taken old c.args.instr.now set at c.requires.next (class.Move, does.Move) (return_makes c.args.instr.now.act c.args.a c.requires.act)
    (may_make s count taken old c.args.instr.now set at c.requires.next c.args.a c.requires.act c.requires.may)
    (1 + length (operand_locations first (c.args.a ∷ []))) (levels old.seen) c.args.steps.now c.begin_return.new.steps
    (return_reads first c.args.a c.args.instr.now.act c.requires.act) refl grown.0 grown.1

pub leave_all-requires-clause-levels : goal.leave_all-requires-clause-levels
leave_all-requires-clause-levels g c =
    let old : Keeping = keeping c.args.self.now.store (g.T.Timed.seen c.args.self.now.times) c.args.self.now.summaries in
    let run = c.requires.running in
    let first = c.first_register-first.result in
    let back : Option ℕ = c.args.back in
    let saved : ℕ = c.saved_before-saved.result in
    let latency : ℕ = c.args.instr.now.latency in
    ap (λ (seen : Seen). levels seen)
    (c.keep_saved.ensures.dropped ∙ ap (λ (seen : Seen). made (saved_kept saved) seen) c.give_back.ensures
    ∙ ap (λ (seen : Seen). made (λ t. saved_kept saved (given_back back t)) seen) c.settle.ensures.settled
    ∙ ap (λ (seen : Seen). made (λ t. saved_kept saved (given_back back (settled latency t))) seen) c.begin_return.ensures.times)
    ∙ levels_moved first c.args.a latency back old.seen.timing
    ∙ levels_live run.setting run.count run.taken old run.is run.stands
    ∙ ap (λ d. min d old.sum.opened) run.deep ∙ ap (λ n. min c.args.self.now.depth n) (sym c.opened-opened.ensures.opened)

pub leave_all-requires-clause-open : goal.leave_all-requires-clause-open
leave_all-requires-clause-open g c =
    let old : Keeping = keeping c.args.self.now.store (g.T.Timed.seen c.args.self.now.times) c.args.self.now.summaries in
    let run = c.requires.running in
    let below = regions_below run.setting run.count run.taken old run.is run.stands in
    let regions = c.regions-regions.ensures in
    let opened = c.opened-opened.ensures.opened in
    omega (arith, below, regions, opened)

pub returns-clause-goes : goal.returns-clause-goes
returns-clause-goes g c s count taken set deep at =
    let old : Keeping = keeping c.args.self.now.store (g.T.Timed.seen c.args.self.now.times) c.args.self.now.summaries in
    let new : Keeping = keeping c.leave-ended.new.self (g.T.Timed.seen c.leave_all.new.self) c.leave_instances.new.summaries in
    let depth : ℕ = c.args.self.now.depth in
    let first = c.first_register-first.result in
    let back : Option ℕ = c.args.back in
    let saved : ℕ = c.saved_before-saved.result in
    let latency : ℕ = c.args.instr.now.latency in
    let moved : Timing → Timing = λ t. saved_kept saved (given_back back (operated (operand_locations first (c.args.a ∷ [])) latency t)) in
    let regions : ℕ = (let at_now = configuration_of old.kept in at_now.frame.regions + 1) in
    returned_goes s count taken old c.args.instr.now set at c.requires.next (Some c.args.a) c.requires.act c.requires.may depth first back saved deep
    c.first_register-first.ensures.first c.requires.back c.saved_before-saved.ensures new
    (c.leave_all.ensures.left
    ∙ ap (λ (seen : Seen). made (all_left_below depth c.opened-opened.result c.regions-regions.result) seen)
    (c.keep_saved.ensures.dropped ∙ ap (λ (seen : Seen). made (saved_kept saved) seen) c.give_back.ensures
    ∙ ap (λ (seen : Seen). made (λ t. saved_kept saved (given_back back t)) seen) c.settle.ensures.settled
    ∙ ap (λ (seen : Seen). made (λ t. saved_kept saved (given_back back (settled latency t))) seen) c.begin_return.ensures.times)
    ∙ ap (λ n. made (λ t. all_left_below depth n c.regions-regions.result (moved t)) old.seen) c.opened-opened.ensures.opened
    ∙ ap (λ n. made (λ t. all_left_below depth old.sum.opened n (moved t)) old.seen) c.regions-regions.ensures)
    (c.in_ok-leave_instances.ensures.ok
    ∙ ap (λ (seen : Seen). regions_left depth (let u : Timing = settled latency seen.timing in u.paths) c.regions-regions.result (operation_made latency old.sum)) c.begin_return.ensures.times
    ∙ ap (λ n. regions_left depth (let u : Timing = operated (operand_locations first (c.args.a ∷ [])) latency old.seen.timing in u.paths) n (operation_made latency old.sum)) c.regions-regions.ensures)
    c.leave-ended.result (c.leave-ended.ensures (Some c.args.a) c.requires.act)
