use Rattle.std.proofs.Common.{◌≡◌, length}
use Rattle.k_carry_pairs.specs.Gathered.{some_carries}
use Rattle.k_carry_pairs.proofs.levels.some_carries.Given as goal

-- none of those before carries it
abbrev pub invariant-loop-level : goal.invariant-loop-level
invariant-loop-level l = some_carries l.fn.number l.rest ≡ some_carries l.fn.number l.fn.levels

abbrev pub decreases-loop-level : goal.decreases-loop-level
decreases-loop-level l = length l.rest
