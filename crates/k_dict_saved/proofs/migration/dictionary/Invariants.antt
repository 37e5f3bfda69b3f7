use Rattle.std.proofs.Common.{length}
use Rattle.k_dict_saved.proofs.Migrating.{Migrating}
use Rattle.k_dict_saved.proofs.migration.dictionary.Given as goal

abbrev pub invariant-loop-entry : goal.invariant-loop-entry
invariant-loop-entry l = Migrating l.entries l.rest l.dict l.numbers

abbrev pub decreases-loop-entry : goal.decreases-loop-entry
decreases-loop-entry l = length l.rest
