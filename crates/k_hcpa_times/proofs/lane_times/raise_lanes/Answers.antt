use Rattle.std.proofs.Common.{refl}
use Rattle.k_hcpa_times.proofs.InLanes.{lanes_raised}
use Rattle.k_hcpa_times.proofs.lane_times.raise_lanes.Goals as goal

pub returns-clause-raised : goal.returns-clause-raised
returns-clause-raised g c =
    let time = g.V.TimeLanes.time in
    lanes_raised _ c.args.location (time c.later_lanes.result) (time c.args.times) (g.S.Shadow.content c.args.shadow.now).levels refl c.later_lanes.ensures.times
