use Rattle.std.proofs.Common.{◌≡◌, ◌≤◌, ◌+◌, ◌^◌, ◌<◌, ℕ, length, take, refl, sym, ◌∙◌, arith}
use Rattle.k_shadow.specs.Content.{Content, at_levels}
use Rattle.k_shadow.proofs.Levels.{length-at_levels}
use Rattle.k_hcpa_meaning.specs.Timings.{Timing, operated}
use Rattle.k_hcpa_times.specs.Lanes.{Laid, locations_from, with_lanes}
use Rattle.k_hcpa_times.specs.Seen.{seen_of}
use Rattle.k_hcpa_times.proofs.InLanes.{take_levels}
use Rattle.k_hcpa_times.proofs.LanesGiven.{control_given, none_operated, operated_at}
use Rattle.k_hcpa_times.proofs.Within.{none_same}
use Rattle.k_hcpa_times.proofs.location_times.in_lanes.LocationTimesLaned.test_lanes.Goals as goal

pub returns-clause-laned : goal.returns-clause-laned
returns-clause-laned g c =
    let s = c.args.self.now in
    let from = c.args.from in
    let latency = c.args.latency in
    let old = c.args.lanes.now in
    let laned = c.requires.laned in
    let count = length s.paths in
    let lanes = g.V.TimeLanes.count in
    let times : ℕ → ℕ = g.V.TimeLanes.time c.operate_lanes-times.result in
    let was : old.lanes ≡ lanes = c.operate_lanes-times.ensures.was in
    let shallow : count ≤ lanes = omega (arith, was, laned.shallow) in
    let t : Timing = (with_lanes old (seen_of (g.R.Shadow.content s.registers) (g.P.Shadow.content s.elements) s.control s.in_cell s.out_cell s.row s.paths)).timing in
    let fits : s.reach + latency < 2 ^ 32 = omega arith in
    let op = operated_at (locations_from from) latency t old.control old.paths c.operate_lanes-times.new.lanes.paths times _ _ s.levels.registers
    (c.operate_lanes-times.ensures.operated t refl) refl refl in
    record {
      most = omega (arith, was, laned.most);
      sources = length-at_levels lanes times;
      paths = length-at_levels lanes (g.V.TimeLanes.time c.lanes.inside.paths);
      shallow = shallow;
      few = laned.few;
      small = fits;
      admits = laned.admits;
      within = none_same (s.reach + latency) (take count (at_levels lanes times)) (at_levels count times) (take_levels count lanes times shallow)
          (none_operated s.reach latency from.sources from.left from.right t _ _ op laned.within s.within.registers fits);
    }

pub returns-clause-given : goal.returns-clause-given
returns-clause-given g c done =
    let s = c.args.self.now in
    let registers : Content = g.R.Shadow.content s.registers in
    let elements : Content = g.P.Shadow.content s.elements in
    let locations = locations_from c.args.from in
    let old = c.args.lanes.now in
    let raised = c.operate_lanes-times.new.lanes in
    let count = length s.paths in
    let lanes = g.V.TimeLanes.count in
    let times : ℕ → ℕ = g.V.TimeLanes.time c.operate_lanes-times.result in
    let shallow : count ≤ lanes = omega (arith, c.operate_lanes-times.ensures.was, c.requires.laned.shallow) in
    let new : Laid = record { lanes = lanes; control = at_levels lanes times; paths = at_levels lanes (g.V.TimeLanes.time c.lanes.inside.paths) } in
    let t : Timing = (with_lanes old (seen_of registers elements s.control s.in_cell s.out_cell s.row s.paths)).timing in
    let op = operated_at locations c.args.latency t old.control old.paths raised.paths times _ _ s.levels.registers (c.operate_lanes-times.ensures.operated t refl) refl refl in
    let here : operated locations c.args.latency t ≡ record t { row = at_levels count times; paths = take count new.paths }
    = op ∙ (λ i. record t { row = at_levels count times; paths = take count ((sym c.lanes.view_is) i).paths }) in
    control_given registers elements s.control s.in_cell s.out_cell s.row s.paths old new locations c.args.latency times (take_levels count lanes times shallow) here
