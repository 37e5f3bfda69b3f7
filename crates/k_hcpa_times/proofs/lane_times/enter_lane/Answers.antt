use Rattle.std.proofs.Common.{◌<◌, ap, ◌∙◌, arith}
use Rattle.k_shadow.proofs.Levels.{length-at_levels}
use Rattle.k_hcpa_times.specs.Lanes.{Laid}
use Rattle.k_hcpa_times.proofs.InLanes.{lanes_entered}
use Rattle.k_hcpa_times.proofs.lane_times.enter_lane.Goals as goal

pub returns-clause-control : goal.returns-clause-control
returns-clause-control g c done =
    let time = g.V.TimeLanes.time in
    let lanes = g.V.TimeLanes.count in
    let room : c.args.level < lanes = omega arith in
    let step = c.with_time-lanes-inside in
    lanes_entered c.args.level lanes (time step.result) (time c.lanes.inside.control) c.args.lanes.now.control (ap (λ (l : Laid). l.control) c.lanes.view_is) room step.ensures.here step.ensures.others

pub returns-clause-paths : goal.returns-clause-paths
returns-clause-paths g c done =
    let time = g.V.TimeLanes.time in
    let lanes = g.V.TimeLanes.count in
    let room : c.args.level < lanes = omega arith in
    let step = c.with_time-lanes-inside-2 in
    lanes_entered c.args.level lanes (time step.result) (time c.lanes.inside.paths) c.args.lanes.now.paths (ap (λ (l : Laid). l.paths) c.lanes.view_is) room step.ensures.here step.ensures.others

pub returns-clause-control_lanes : goal.returns-clause-control_lanes
returns-clause-control_lanes g c done = length-at_levels g.V.TimeLanes.count (g.V.TimeLanes.time c.with_time-lanes-inside.result) ∙ ap (λ (l : Laid). l.lanes) c.lanes.view_is

pub returns-clause-paths_lanes : goal.returns-clause-paths_lanes
returns-clause-paths_lanes g c done = length-at_levels g.V.TimeLanes.count (g.V.TimeLanes.time c.with_time-lanes-inside-2.result) ∙ ap (λ (l : Laid). l.lanes) c.lanes.view_is
