use Rattle.std.proofs.Common.{◌+◌, ◌^◌, ◌<◌, length, refl, arith}
use Rattle.k_shadow.specs.Content.{Content}
use Rattle.k_hcpa_meaning.specs.Timings.{Timing}
use Rattle.k_hcpa_times.specs.Lanes.{locations_from, with_lanes}
use Rattle.k_hcpa_times.specs.Seen.{seen_of}
use Rattle.k_hcpa_times.proofs.LanesGiven.{content_given, element_given, none_operated, operated_at}
use Rattle.k_hcpa_times.proofs.Within.{none_written, within_elements, within_more}
use Rattle.k_hcpa_times.proofs.location_times.in_lanes.LocationTimesLaned.store_lanes.Goals as goal

pub invariant_of-self-2-clause-within : goal.invariant_of-self-2-clause-within
invariant_of-self-2-clause-within g c =
    let s = c.args.self.now in
    let from = c.args.from in
    let latency = c.args.latency in
    let elements : Content = g.P.Shadow.content s.elements in
    let t : Timing = (with_lanes c.args.lanes.now (seen_of (g.R.Shadow.content s.registers) elements s.control s.in_cell s.out_cell s.row s.paths)).timing in
    let fits : s.reach + latency < 2 ^ 32 = omega arith in
    let op = operated_at (locations_from from) latency t c.args.lanes.now.control c.args.lanes.now.paths c.operate_lanes-times.new.lanes.paths (g.V.TimeLanes.time c.operate_lanes-times.result) _ _ s.levels.registers
    (c.operate_lanes-times.ensures.operated t refl) refl refl in
    let times = none_operated s.reach latency from.sources from.left from.right t _ _ op c.requires.laned.within s.within.registers fits in
    let given = content_given c.args.element (length s.paths) (g.V.TimeLanes.time c.operate_lanes-times.result) elements _ _ c.admit_lanes.ensures.same s.levels.elements c.put_lanes.ensures.content in
    let more = within_more {n = s.reach + latency} (omega arith) s.within in
    within_elements (none_written (s.reach + latency) c.args.element _ elements _ given times more.elements) more

pub returns-clause-given : goal.returns-clause-given
returns-clause-given g c done =
    let s = c.args.self.now in
    let registers : Content = g.R.Shadow.content s.registers in
    let elements : Content = g.P.Shadow.content s.elements in
    let t : Timing = (with_lanes c.args.lanes.now (seen_of registers elements s.control s.in_cell s.out_cell s.row s.paths)).timing in
    let old = c.args.lanes.now in
    let new = c.operate_lanes-times.new.lanes in
    let op = operated_at (locations_from c.args.from) c.args.latency t old.control old.paths new.paths (g.V.TimeLanes.time c.operate_lanes-times.result) _ _ s.levels.registers (c.operate_lanes-times.ensures.operated t refl) refl refl in
    let given = content_given c.args.element (length s.paths) (g.V.TimeLanes.time c.operate_lanes-times.result) elements _ _ c.admit_lanes.ensures.same s.levels.elements c.put_lanes.ensures.content in
    element_given registers _ elements s.control s.in_cell s.out_cell s.row s.paths old new (locations_from c.args.from) c.args.latency c.args.element (g.V.TimeLanes.time c.operate_lanes-times.result) given c.operate_lanes-times.ensures.control op
