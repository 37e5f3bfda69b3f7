use Rattle.std.proofs.Common.{◌≡◌, ◌≤◌, length, ap, ◌∙◌, arith}
use Rattle.k_shadow.proofs.Levels.{length-at_levels}
use Rattle.k_hcpa_times.specs.Lanes.{Laid}
use Rattle.k_hcpa_times.proofs.InLanes.{take_levels}
use Rattle.k_hcpa_times.proofs.lane_times.restore_control.Goals as goal

pub returns-clause-control : goal.returns-clause-control
returns-clause-control g c =
    let lanes = g.V.TimeLanes.count in
    let count = length c.args.control.now.current in
    let was : lanes ≡ c.args.lanes.now.lanes = ap (λ (l : Laid). l.lanes) c.lanes.view_is in
    let few : count ≤ lanes = omega (arith, was, c.requires.shallow) in
    take_levels count lanes (g.V.TimeLanes.time c.saved_lanes.result) few ∙ c.saved_lanes.ensures.times

pub returns-clause-control_lanes : goal.returns-clause-control_lanes
returns-clause-control_lanes g c = length-at_levels g.V.TimeLanes.count (g.V.TimeLanes.time c.saved_lanes.result) ∙ ap (λ (l : Laid). l.lanes) c.lanes.view_is
