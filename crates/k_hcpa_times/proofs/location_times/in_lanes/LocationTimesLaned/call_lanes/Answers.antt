use Rattle.std.proofs.Common.{◌+◌, refl, arith}
use Rattle.k_shadow.specs.Content.{Content}
use Rattle.k_hcpa_meaning.specs.Calls.{arguments_handed}
use Rattle.k_hcpa_meaning.specs.Timings.{Timing, begun, settled}
use Rattle.k_hcpa_times.specs.Lanes.{with_lanes}
use Rattle.k_hcpa_times.specs.Seen.{seen_of}
use Rattle.k_hcpa_times.proofs.LanesHanded.{registers_changed}
use Rattle.k_hcpa_times.proofs.Within.{within_more, within_registers}
use Rattle.k_hcpa_times.proofs.location_times.in_lanes.LocationTimesLaned.call_lanes.Goals as goal

pub invariant_of-self-clause-within : goal.invariant_of-self-clause-within
invariant_of-self-clause-within g c =
    let s = c.args.self.now in
    let reach = s.reach + c.args.latency in
    let more = within_more {n = reach} (omega arith) s.within in
    within_registers (c.call_with-times.ensures.within reach more.registers) more.row more

pub returns-clause-called : goal.returns-clause-called
returns-clause-called g c =
    let s = c.args.self.now in
    let old : Content = g.R.Shadow.content s.registers in
    let new : Content = g.R.Shadow.content c.call_with-times.new.registers in
    let elements : Content = g.P.Shadow.content s.elements in
    let called = c.call_with-times.ensures in
    let change : Timing → Timing = λ t. settled c.args.latency (arguments_handed c.args.first c.args.to c.args.params c.args.args.now (begun t)) in
    let t : Timing = let all = with_lanes c.args.lanes.now (seen_of old elements s.control s.in_cell s.out_cell s.row s.paths) in all.timing in
    registers_changed old new elements s.control s.in_cell s.out_cell s.row s.paths c.args.lanes.now c.call_with-times.new.lanes change (g.V.TimeLanes.time c.call_with-times.result)
    s.levels.registers called.entries called.limit called.control (called.called t refl)
