use Rattle.std.proofs.Common.{◌≡◌, ◌≤◌, length, ap, arith, rules, vec_len}
use Rattle.k_shadow.proofs.Entries.{saved-dropped}
use Rattle.k_shadow.proofs.control.Control.keep.Goals as goal

pub returns-clause-saved : goal.returns-clause-saved
returns-clause-saved c =
    let s = c.self.inside in
    let counted : vec_len s.rows ≡ length s.rows.items = search rules in
    let within : s.count ≤ length s.rows.items = omega (arith, counted, c.self.invariant.3) in
    saved-dropped s.rows.items s.versions.live s.count c.args.self.now.saved within (ap (λ x. x.saved) c.self.view_is)
