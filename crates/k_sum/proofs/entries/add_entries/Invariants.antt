use Rattle.std.proofs.Common.{length}
use Rattle.k_dict_entries.specs.Entries.{AreInterned}
use Rattle.k_sum.proofs.Joins.{Joining}
use Rattle.k_sum.proofs.entries.add_entries.Given as goal

abbrev pub invariant-loop-entry : goal.invariant-loop-entry
invariant-loop-entry l = record {
  joining : Joining l.fn.dict l.entries l.rest l.dict l.numbers;
  interned : AreInterned l.dict;
}

abbrev pub decreases-loop-entry : goal.decreases-loop-entry
decreases-loop-entry l = length l.rest
