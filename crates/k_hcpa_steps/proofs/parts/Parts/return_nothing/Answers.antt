use Rattle.std.proofs.Common.{ℕ, ◌≡◌, ◌+◌, List, length, Option, None, arith, refl, ap, ◌∙◌}
use Rattle.k_hcpa_meaning.specs.Calls.{cleared_back}
use Rattle.k_hcpa_meaning.specs.Locations.{first_register}
use Rattle.k_hcpa_meaning.specs.Summing.{Summing, operation_made, regions_left}
use Rattle.k_hcpa_meaning.specs.Timings.{Timing, all_left_below, saved_kept}
use Rattle.k_hcpa_store.specs.Kept.{configuration_of}
use Rattle.k_hcpa_times.specs.Seen.{Seen, made}
use Rattle.k_hcpa_steps.specs.Keeping.{Keeping, keeping}
use Rattle.k_hcpa_steps.proofs.Calling.{latency_fits}
use Rattle.k_hcpa_steps.proofs.Levels.{levels_kept, regions_below}
use Rattle.k_hcpa_steps.proofs.Returning.{returned_goes}
use Rattle.k_hcpa_steps.proofs.parts.Parts.return_nothing.Goals as goal

pub leave_all-requires-clause-work : goal.leave_all-requires-clause-work
leave_all-requires-clause-work g c =
    let old : Keeping = keeping c.args.self.now.store (g.T.Timed.seen c.args.self.now.times) c.args.self.now.summaries in
    let run = c.requires.running in
    let fits = latency_fits run.setting run.count run.taken old c.args.instr.now run.is run.stands c.requires.next in
    omega (arith, fits)

pub leave_all-requires-clause-paths : goal.leave_all-requires-clause-paths
leave_all-requires-clause-paths g c =
    let old : Keeping = keeping c.args.self.now.store (g.T.Timed.seen c.args.self.now.times) c.args.self.now.summaries in
    let run = c.requires.running in
    ap (λ (paths : List ℕ). length paths) c.paths.ensures ∙ levels_kept run.setting run.count run.taken old run.is run.stands

pub leave_all-requires-2-clause-open : goal.leave_all-requires-2-clause-open
leave_all-requires-2-clause-open g c =
    let old : Keeping = keeping c.args.self.now.store (g.T.Timed.seen c.args.self.now.times) c.args.self.now.summaries in
    let run = c.requires.running in
    let below = regions_below run.setting run.count run.taken old run.is run.stands in
    let regions = c.regions-regions.ensures in
    let opened = c.opened-opened.ensures.opened in
    omega (arith, below, regions, opened)

pub returns-clause-goes : goal.returns-clause-goes
returns-clause-goes g c s count taken set deep at =
    let old : Keeping = keeping c.args.self.now.store (g.T.Timed.seen c.args.self.now.times) c.args.self.now.summaries in
    let new : Keeping = keeping c.leave-ended.new.self (g.T.Timed.seen c.leave_all-2.new.self) c.leave_all.new.self in
    let depth : ℕ = c.args.self.now.depth in
    let back : Option ℕ = c.args.back in
    let saved : ℕ = c.saved_before-saved.result in
    let cleared : Timing → Timing = λ t. saved_kept saved (cleared_back back t) in
    let nothing : operation_made 0 old.sum ≡ old.sum = (let same : old.sum.work + 0 ≡ old.sum.work = omega arith in λ j. record old.sum { work = same j }) in
    returned_goes s count taken old c.args.instr.now set at c.requires.next None c.requires.act c.requires.may depth
    (first_register old.kept.code (configuration_of old.kept)) back saved deep refl c.requires.back c.saved_before-saved.ensures new
    (c.leave_all-2.ensures.left
    ∙ ap (λ (seen : Seen). made (all_left_below depth c.opened-opened.result c.regions-regions.result) seen)
    (c.keep_saved.ensures.dropped ∙ ap (λ (seen : Seen). made (saved_kept saved) seen) c.clear_back.ensures)
    ∙ ap (λ n. made (λ t. all_left_below depth n c.regions-regions.result (cleared t)) old.seen) c.opened-opened.ensures.opened
    ∙ ap (λ n. made (λ t. all_left_below depth old.sum.opened n (cleared t)) old.seen) c.regions-regions.ensures)
    (c.in_ok-leave_all.ensures.ok
    ∙ ap (λ (paths : List ℕ). regions_left depth paths c.regions-regions.result (operation_made 0 old.sum)) c.paths.ensures
    ∙ ap (λ n. regions_left depth old.seen.timing.paths n (operation_made 0 old.sum)) c.regions-regions.ensures
    ∙ ap (λ (sum : Summing). regions_left depth old.seen.timing.paths (let at_now = configuration_of old.kept in at_now.frame.regions + 1) sum) nothing)
    c.leave-ended.result (c.leave-ended.ensures None c.requires.act)
