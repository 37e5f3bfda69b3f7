use Rattle.std.proofs.Common.{◌≡◌, length}
use Rattle.k_carry_pairs.specs.Carried.{AreSorted}
use Rattle.k_carry_pairs.specs.Gathered.{found_all, found_before}
use Rattle.k_carry_pairs.proofs.gathering.depend_all.Given as goal

-- the rest of the operations leads to what all lead to
abbrev pub invariant-loop-origin : goal.invariant-loop-origin
invariant-loop-origin l = record {
  on : found_all l.fn.levels l.rest l.fn.to l.found.items ≡ found_all l.fn.levels l.fn.origins l.fn.to l.initial.found.items;
  sorted : AreSorted found_before l.found.items;
}

abbrev pub decreases-loop-origin : goal.decreases-loop-origin
decreases-loop-origin l = length l.rest
