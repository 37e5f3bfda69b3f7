use Rattle.std.proofs.Common.{◌≤◌, length, take, ◌∙◌, ap, arith, nat_lt, vec_len}
use Rattle.k_shadow.specs.Rows.{stack_in}
use Rattle.k_shadow.specs.Stack.{level_left}
use Rattle.k_shadow.proofs.Rows.{WereGiven-take}
use Rattle.k_shadow.proofs.Entries.{kept-left, stack_in-left, one_level_fewer}
use Rattle.k_shadow.proofs.control.Control.leave.Goals as goal

pub invariant_of-self : goal.invariant_of-self
invariant_of-self c =
    let s = c.self.inside in
    let within : length s.versions.live ≤ length s.current = omega (arith, c.self.invariant.0) in
    rw c.leave.ensures.left (one_level_fewer s.versions.live c.self.invariant.0, c.self.invariant.1, WereGiven-take _ _ _ c.self.invariant.2, c.self.invariant.3, λ on. kept-left s.rows.items s.count s.current s.versions.live within (c.self.invariant.4 on), c.self.invariant.5)

pub returns : goal.returns
returns c =
    let s = c.self.inside in
    let rows = take s.count s.rows.items in
    let room = nat_lt s.count (vec_len s.rows) in
    let within : length s.versions.live ≤ length s.current = omega (arith, c.self.invariant.0) in
    record {
      left = ap (λ v. stack_in s.current rows v room) c.leave.ensures.left ∙ stack_in-left s.current rows s.versions room within ∙ ap level_left c.self.view_is;
    }
