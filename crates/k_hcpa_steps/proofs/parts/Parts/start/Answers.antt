use Rattle.std.proofs.Common.{Ok, sym, ap, subst, ◌∙◌}
use Rattle.k_hcpa_meaning.specs.Summing.{Summing, region_entered}
use Rattle.k_hcpa_standing.specs.Standing.{Setting}
use Rattle.k_hcpa_store.specs.Kept.{Kept}
use Rattle.k_hcpa_store.specs.Leads.{Starts}
use Rattle.k_hcpa_times.specs.Seen.{Seen, instance_entered}
use Rattle.k_hcpa_steps.specs.Keeping.{Keeping, keeping}
use Rattle.k_hcpa_steps.proofs.Beginning.{start_stands}
use Rattle.k_hcpa_steps.proofs.parts.Parts.start.Goals as goal

pub returns : goal.returns
returns g c =
    let s : Setting = record { code = c.args.code.now; input = c.args.input.now; budget = c.args.budget; depth = c.args.depth } in
    let seen : Seen = g.T.Timed.seen c.args.times in
    let new : Keeping = keeping c.enter_instance.new.self.store (g.T.Timed.seen c.enter_instance.new.self.times) c.enter_instance.new.self.summaries in (
      c.enter_instance.ensures.depth,
      start_stands s c.requires.setting c.function_at-main.result c.function_at-main.ensures new
          (subst (λ (kept : Kept). Starts s.code s.input s.budget (Ok kept)) (sym c.enter_instance.ensures.store) c.in-Ok.ensures)
          seen c.requires.timing c.requires.entries c.requires.registers c.requires.elements
          (c.enter_instance.ensures.times ∙ ap (λ (sum : Summing). instance_entered s.depth sum.opened seen) c.in-Ok-new.ensures)
          (c.enter_instance.ensures.summaries ∙ ap (λ (sum : Summing). region_entered s.depth c.function_at-main.result.region sum) c.in-Ok-new.ensures),
    )
