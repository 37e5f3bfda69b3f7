use Rattle.std.proofs.Common.{◌≡◌, ◌∷◌, replicate, Some, None}
use Rattle.k_code.specs.Balances.{nothing_open}
use Rattle.k_code.proofs.validity.balances.at_entry.Given as goal

abbrev pub invariant-loop-k : goal.invariant-loop-k
invariant-loop-k l = l.list.items ≡ Some nothing_open ∷ replicate l.k None
