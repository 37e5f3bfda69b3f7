use Rattle.std.proofs.Common.{◌≡◌, length, refl, ap, arith}
use Rattle.k_shadow.specs.Content.{Content}
use Rattle.k_hcpa_times.specs.Lanes.{Laid}
use Rattle.k_hcpa_times.proofs.LanesGiven.{content_given}
use Rattle.k_hcpa_times.proofs.Within.{none_written, within_registers}
use Rattle.k_hcpa_times.proofs.location_times.in_lanes.LocationTimesLaned.hold_lanes.Goals as goal

pub put_lanes-requires-clause-within : goal.put_lanes-requires-clause-within
put_lanes-requires-clause-within g c =
    let was : g.V.TimeLanes.count ≡ c.args.lanes.now.lanes = ap (λ (l : Laid). l.lanes) c.lanes.view_is in
    omega (arith, was, c.requires.laned.most)

pub put_lanes-requires-clause-shallow : goal.put_lanes-requires-clause-shallow
put_lanes-requires-clause-shallow g c =
    let was : g.V.TimeLanes.count ≡ c.args.lanes.now.lanes = ap (λ (l : Laid). l.lanes) c.lanes.view_is in
    omega (arith, was, c.requires.laned.shallow, c.args.self.now.levels.registers)

pub invariant_of-self-clause-within : goal.invariant_of-self-clause-within
invariant_of-self-clause-within g c =
    let s = c.args.self.now in
    let content : Content = g.R.Shadow.content s.registers in
    let given = content_given c.args.to (length s.paths) (g.V.TimeLanes.time c.args.times) content content _ refl s.levels.registers c.put_lanes.ensures.content in
    within_registers (none_written s.reach c.args.to _ content _ given c.requires.gets.within s.within.registers) s.within.row s.within
