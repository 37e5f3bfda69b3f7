use Rattle.std.proofs.Common.{◌≡◌, length}
use Rattle.k_carry_pairs.specs.Carried.{AreSorted}
use Rattle.k_carry_pairs.specs.Gathered.{depended, found_before}
use Rattle.k_carry_pairs.proofs.levels.depend.Given as goal

-- the rest of the levels leads to what all lead to
abbrev pub invariant-loop-level : goal.invariant-loop-level
invariant-loop-level l = record {
  on : depended l.rest l.fn.origin l.fn.to l.found.items ≡ depended l.fn.levels l.fn.origin l.fn.to l.initial.found.items;
  sorted : AreSorted found_before l.found.items;
}

abbrev pub decreases-loop-level : goal.decreases-loop-level
decreases-loop-level l = length l.rest
