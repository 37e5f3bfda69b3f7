use Rattle.std.proofs.Common.{◌≡◌, length, map}
use Rattle.k_pragma.specs.Names.{are_apart, name_of}
use Rattle.k_pragma.proofs.names.are_apart.Given as goal

abbrev pub invariant-loop-first : goal.invariant-loop-first
invariant-loop-first l = are_apart (map (name_of l.names) l.rest) ≡ are_apart (map (name_of l.names) l.numbers)

abbrev pub decreases-loop-first : goal.decreases-loop-first
decreases-loop-first l = length l.rest
