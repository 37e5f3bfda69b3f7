use Rattle.std.proofs.Common.{arith}
use Rattle.k_shadow.specs.Content.{without}
use Rattle.k_shadow.proofs.Changed.{each_made}
use Rattle.k_shadow.proofs.maps.clear_in_all.Goals as goal

pub returns-clause-times : goal.returns-clause-times
returns-clause-times c =
    let h = c.loop-level.invariant in
    each_made (without c.args.first c.args.count) c.args.maps.now c.loop-level.maps h.same_length (λ k d lt at. h.done k d (omega (arith, h.same_length)) at)
