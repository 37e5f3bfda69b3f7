use Rattle.std.proofs.Common.{◌≡◌, [], length}
use Rattle.k_carry_storage_pairs.specs.Firsts.{listed}
use Rattle.k_carry_storage_pairs.proofs.firsts.list_firsts.Given as goal

-- the rest leads to what all lead to
abbrev pub invariant-loop-start : goal.invariant-loop-start
invariant-loop-start l = listed l.rest l.fn.origins l.firsts.items ≡ listed l.fn.starts l.fn.origins []

abbrev pub decreases-loop-start : goal.decreases-loop-start
decreases-loop-start l = length l.rest
