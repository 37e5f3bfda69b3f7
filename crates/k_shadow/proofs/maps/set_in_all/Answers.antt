use Rattle.std.proofs.Common.{arith}
use Rattle.k_shadow.proofs.Changed.{each_set}
use Rattle.k_shadow.proofs.maps.set_in_all.Goals as goal

pub returns-clause-times : goal.returns-clause-times
returns-clause-times c =
    let h = c.loop-level.invariant in
    each_set c.args.loc c.args.times.now c.args.maps.now c.loop-level.maps h.same_length c.requires.each (λ k d lt at. h.done k d (omega (arith, h.same_length)) at)
