use Rattle.std.proofs.Common.{◌≡◌, ◌∷◌, [], arith, sym, ap, subst, ◌∙◌}
use Rattle.k_hcpa_meaning.specs.Summing.{region_entered}
use Rattle.k_optab.specs.declared.event.Event.TheVariants as event
use Rattle.k_hcpa_store.specs.Kept.{Kept}
use Rattle.k_hcpa_store.specs.Leads.{GoesOn}
use Rattle.k_hcpa_steps.specs.Keeping.{Keeping, keeping}
use Rattle.k_hcpa_steps.proofs.Levels.{entered_stands, is_enter, levels_kept, regions_below}
use Rattle.k_hcpa_steps.proofs.parts.Parts.enter.Goals as goal

pub enter-requires-clause-enters : goal.enter-requires-clause-enters
enter-requires-clause-enters g c = is_enter c.args.instr.now.act c.requires.enters

pub enter-requires-clause-few : goal.enter-requires-clause-few
enter-requires-clause-few g c =
    let old : Keeping = keeping c.args.self.now.store (g.T.Timed.seen c.args.self.now.times) c.args.self.now.summaries in
    let run = c.requires.running in
    let below = regions_below run.setting run.count run.taken old run.is run.stands in
    let opened = c.opened.ensures.opened in
    let most = c.opened.ensures.few in
    let entered = run.stands.stands.entered in
    let few = run.few in
    omega (arith, below, opened, most, entered, few)

pub enter_instance-requires-clause-same : goal.enter_instance-requires-clause-same
enter_instance-requires-clause-same g c =
    let old : Keeping = keeping c.args.self.now.store (g.T.Timed.seen c.args.self.now.times) c.args.self.now.summaries in
    let run = c.requires.running in
    levels_kept run.setting run.count run.taken old run.is run.stands

pub returns-clause-goes : goal.returns-clause-goes
returns-clause-goes g c s count taken set deep at =
    let old : Keeping = keeping c.args.self.now.store (g.T.Timed.seen c.args.self.now.times) c.args.self.now.summaries in
    let new : Keeping = keeping c.enter_instance.new.self.store (g.T.Timed.seen c.enter_instance.new.self.times) c.enter_instance.new.self.summaries in
    let found = is_enter c.args.instr.now.act c.requires.enters in
    let region = found.0 in
    let same : c.region_of.result ≡ region = c.region_of.ensures region found.1 in
    entered_stands s count taken old c.args.instr.now set at c.requires.next c.args.self.now.depth deep new region found.1
    (subst (λ (k : Kept). GoesOn old.kept (event.Enter region ∷ []) k) (sym c.enter_instance.ensures.store) (c.enter.ensures region found.1))
    c.enter_instance.ensures.times
    (c.enter_instance.ensures.summaries ∙ ap (λ r. region_entered c.args.self.now.depth r old.sum) same)
