use Rattle.std.proofs.Common.{◌≡◌, ◌++◌, map}
use Rattle.k_sum.specs.Exits.{exit_of}
use Rattle.k_sum.proofs.exits.Exits.list.Given as goal

abbrev pub invariant-loop-value : goal.invariant-loop-value
invariant-loop-value l = l.exits ++ map exit_of l.value-iterator ≡ l.self
