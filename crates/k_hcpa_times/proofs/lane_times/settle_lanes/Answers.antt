use Rattle.std.proofs.Common.{ℕ, take, sym, ap, ◌∙◌}
use Rattle.k_shadow.specs.Content.{at_levels}
use Rattle.k_shadow.proofs.Levels.{length-at_levels}
use Rattle.k_hcpa_meaning.specs.Timings.{later}
use Rattle.k_hcpa_times.specs.Lanes.{Laid}
use Rattle.k_hcpa_times.proofs.InLanes.{lanes_after, lanes_latest, take_levels}
use Rattle.k_hcpa_times.proofs.lane_times.settle_lanes.Goals as goal

pub returns-clause-times : goal.returns-clause-times
returns-clause-times g c count reach few up fits =
    let time = g.V.TimeLanes.time in
    lanes_after count g.V.TimeLanes.count reach c.args.latency (time c.delayed-times.result) (time c.args.waits) few up fits c.delayed-times.ensures

pub returns-clause-paths : goal.returns-clause-paths
returns-clause-paths g c count few =
    let time = g.V.TimeLanes.time in
    let lanes = g.V.TimeLanes.count in
    let times : ℕ → ℕ = time c.delayed-times.result in
    let old : ℕ → ℕ = time c.lanes.inside.paths in
    let new : ℕ → ℕ = time c.later-lanes-inside.result in
    take_levels count lanes new few ∙ lanes_latest count lanes new old times few c.later-lanes-inside.ensures
    ∙ ap (λ ls. later ls (at_levels count times)) (sym (take_levels count lanes old few) ∙ ap (λ (l : Laid). take count l.paths) c.lanes.view_is)

pub returns-clause-paths_lanes : goal.returns-clause-paths_lanes
returns-clause-paths_lanes g c = length-at_levels g.V.TimeLanes.count (g.V.TimeLanes.time c.later-lanes-inside.result)
