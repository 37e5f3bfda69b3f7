use Rattle.std.proofs.Common.{◌≡◌, ◌≤◌, length, ap, arith}
use Rattle.k_hcpa_times.specs.Lanes.{Laid}
use Rattle.k_hcpa_times.proofs.InLanes.{lanes_back}
use Rattle.k_hcpa_times.proofs.lane_times.set_paths.Goals as goal

pub returns : goal.returns
returns g c =
    let lanes = g.V.TimeLanes.count in
    let was : lanes ≡ c.args.lanes.now.lanes = ap (λ (l : Laid). l.lanes) c.lanes.view_is in
    let few : length c.args.paths.now ≤ lanes = omega (arith, was, c.requires.few) in
    let wide : lanes ≤ length c.widened-wide.result = omega (arith, was, c.requires.most, c.widened-wide.ensures.size) in
    lanes_back (g.V.TimeLanes.time c.lanes.inside.paths) lanes c.widened-wide.result c.copy_from_slice.new.self c.as_mut_slice-paths.result.now c.args.paths.now c.args.lanes.now.paths
    (ap (λ (l : Laid). l.paths) c.lanes.view_is) c.as_mut_slice-paths.ensures.times few wide c.widened-wide.ensures.times c.copy_from_slice.ensures.after
