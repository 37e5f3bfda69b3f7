use Rattle.std.proofs.Common.{◌≡◌, None, length}
use Rattle.k_carry_storage_pairs.specs.Firsts.{least}
use Rattle.k_carry_storage_pairs.proofs.firsts.least_from.Given as goal

-- the rest leads to what all lead to
abbrev pub invariant-loop-origin : goal.invariant-loop-origin
invariant-loop-origin l = least l.fn.start l.rest l.best ≡ least l.fn.start l.fn.origins None

abbrev pub decreases-loop-origin : goal.decreases-loop-origin
decreases-loop-origin l = length l.rest
