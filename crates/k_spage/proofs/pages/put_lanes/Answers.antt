use Rattle.k_shadow_rows.specs.Given.{IsGiven}
use Rattle.k_spage.proofs.Paged.{page_changed}
use Rattle.k_spage.proofs.pages.put_lanes.Goals as goal

pub returns-clause-given : goal.returns-clause-given
returns-clause-given g c =
    page_changed (λ old new. IsGiven (g.V.TimeLanes.time c.args.times) c.args.place c.args.stamp c.args.depth old new) c.args.pages.now.slots c.args.key c.index_mut-rows.result.now c.put_lanes.new.self c.index_mut-rows.ensures.value c.put_lanes.ensures.given
