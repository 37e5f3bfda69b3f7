use Rattle.std.proofs.Common.{◌≡◌, drop}
use Rattle.k_world.specs.Operands.{are_set}
use Rattle.k_world.proofs.operands.are_set.Given as goal

abbrev pub invariant-loop-read : goal.invariant-loop-read
invariant-loop-read l = are_set (drop l.read-index l.reads) ≡ are_set l.fn.reads
