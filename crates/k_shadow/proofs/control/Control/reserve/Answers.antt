use Rattle.std.proofs.Common.{◌≤◌, ap, ◌∙◌, arith, vec_len}
use Rattle.k_shadow.specs.Rows.{times_of}
use Rattle.k_shadow.proofs.control.Control.reserve.Goals as goal

pub invariant_of-self : goal.invariant_of-self
invariant_of-self c =
    let s = c.self.inside in
    let more : s.count ≤ vec_len c.add_row.new.rows = omega (arith, c.self.invariant.3, c.add_row.ensures.longer) in
    (c.self.invariant.0, c.add_row.ensures.stamped s.versions.given c.self.invariant.1, c.self.invariant.2, more, λ on. ap (λ row. times_of row s.versions.live) c.add_row.ensures.at ∙ c.self.invariant.4 on, c.self.invariant.5)
