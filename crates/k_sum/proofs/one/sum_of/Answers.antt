use Rattle.std.proofs.Common.{◌-◌, arith}
use Rattle.k_sum.proofs.Bounds.{bounds_one}
use Rattle.k_sum.proofs.one.sum_of.Goals as goal

pub returns-clause-bounds : goal.returns-clause-bounds
returns-clause-bounds c =
    let count = c.len-root.ensures.count in
    let some = c.requires.profile.some in
    bounds_one c.args.saved c.requires _ c.in_ok-exits.exits c.in_ok-exits.ensures (c.len-root.result - 1) c.entry.result.now (omega arith) c.entry.ensures.value
    c.in_ok-roots.roots c.in_ok-roots.ensures
