use Rattle.std.proofs.Common.{◌≡◌, ◌≤◌, length, take, ap, arith}
use Rattle.k_shadow.specs.Content.{at_levels}
use Rattle.k_shadow.proofs.Entries.{levels_counted}
use Rattle.k_shadow.proofs.Levels.{front-at_levels}
use Rattle.k_shadow.proofs.control.Control.set_lanes.Goals as goal

pub returns : goal.returns
returns g c =
    let s = c.self.inside in
    let new = c.copy_lanes.new.to in
    let live = s.versions.live in
    let within : length live ≤ length s.current = omega (arith, c.self.invariant.0) in
    let same : length live ≡ length c.args.self.now.current = levels_counted s.current live c.args.self.now within (ap (λ x. x.current) c.self.view_is) in
    let few : length live ≤ g.V.TimeLanes.count = omega (arith, same, c.requires.shallow) in
    let room_for : length live ≤ length new = omega (arith, few, c.requires.within) in
    let current : take (length live) new ≡ at_levels (length c.args.self.now.current) (g.V.TimeLanes.time c.args.times)
    = front-at_levels (length live) (length c.args.self.now.current) (g.V.TimeLanes.time c.args.times) new same room_for (λ k lt. c.copy_lanes.ensures.times k (omega (arith, few, same, lt))) in
    record { current = λ i. record { current = current i; saved = (c.self.view_is i).saved; entries = (c.self.view_is i).entries; room = (c.self.view_is i).room } }
