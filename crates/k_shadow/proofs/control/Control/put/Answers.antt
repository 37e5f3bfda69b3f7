use Rattle.std.proofs.Common.{◌≡◌, ◌≤◌, length, take, ap, sym, ◌∙◌, arith}
use Rattle.k_shadow.proofs.Entries.{levels_counted, front_is}
use Rattle.k_shadow.proofs.control.Control.put.Goals as goal

pub returns : goal.returns
returns c =
    let s = c.self.inside in
    let new = c.copy_times.new.to in
    let within : length s.versions.live ≤ length s.current = omega (arith, c.self.invariant.0) in
    let same : length s.versions.live ≡ length c.args.self.now.current = levels_counted s.current s.versions.live c.args.self.now within (ap (λ x. x.current) c.self.view_is) in
    let as_many : length c.args.times.now ≡ length s.versions.live = c.requires ∙ sym same in
    let room_for : length s.versions.live ≤ length new = omega (arith, c.self.invariant.0) in
    let current : take (length s.versions.live) new ≡ c.args.times.now = front_is new s.versions.live c.args.times.now room_for as_many (λ k lt. c.copy_times.ensures k (omega (arith, as_many))) in
    record { current = λ i. record { current = current i; saved = (c.self.view_is i).saved; entries = (c.self.view_is i).entries; room = (c.self.view_is i).room } }
