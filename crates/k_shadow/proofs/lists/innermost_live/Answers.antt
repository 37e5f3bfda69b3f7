use Rattle.std.proofs.Common.{◌≤◌, ◌-◌, get_or, rules}
use Rattle.k_shadow.proofs.Rows.{up_to}
use Rattle.k_shadow.proofs.lists.innermost_live.Goals as goal

pub returns-else-stamp-numbers-clause-live : goal.returns-else-stamp-numbers-clause-live
returns-else-stamp-numbers-clause-live c =
    let live = c.loop-live.live in
    let last : get_or c.args.numbers.now (live - 1) 0 ≤ c.args.stamp = search rules in
    up_to c.args.numbers.now c.args.stamp live c.requires last c.loop-live.invariant.few
