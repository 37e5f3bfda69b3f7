use Rattle.std.proofs.Common.{◌≡◌, ◌+◌, ◌^◌, ◌<◌, length, refl, ap, sym, ◌∙◌, arith}
use Rattle.k_shadow.specs.Content.{Content, depth}
use Rattle.k_hcpa_meaning.specs.Timings.{Timing}
use Rattle.k_hcpa_times.specs.Lanes.{locations_from, with_lanes}
use Rattle.k_hcpa_times.specs.Seen.{seen_of}
use Rattle.k_hcpa_times.proofs.LanesGiven.{none_operated, operated_at}
use Rattle.k_hcpa_times.proofs.location_times.in_lanes.LocationTimesLaned.move_lanes.Goals as goal

pub returns-clause-gets : goal.returns-clause-gets
returns-clause-gets g c =
    let s = c.args.self.now in
    let from = c.args.from in
    let latency = c.args.latency in
    let content : Content = g.R.Shadow.content s.registers in
    let admitted : Content = g.R.Shadow.content c.admit_lanes.new.shadow in
    let same : admitted ≡ content = c.admit_lanes.ensures.same in
    let t : Timing = (with_lanes c.args.lanes.now (seen_of content (g.P.Shadow.content s.elements) s.control s.in_cell s.out_cell s.row s.paths)).timing in
    let counts : depth admitted ≡ length s.paths = ap (λ (x : Content). length x.levels) same ∙ s.levels.registers in
    let fits : s.reach + latency < 2 ^ 32 = omega arith in
    let op = operated_at (locations_from from) latency t c.args.lanes.now.control c.args.lanes.now.paths c.operate_lanes-times.new.lanes.paths (g.V.TimeLanes.time c.operate_lanes-times.result) _ _ counts
    (c.operate_lanes-times.ensures.operated t (sym (ap (λ (x : Content). x.levels) same))) refl refl in
    record { room_there = c.if-not-admit_lanes.ensures.room refl; within = none_operated s.reach latency from.sources from.left from.right t _ _ op c.requires.laned.within s.within.registers fits }
