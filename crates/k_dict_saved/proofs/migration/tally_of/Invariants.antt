use Rattle.std.proofs.Common.{length}
use Rattle.k_dict_saved.proofs.Migrating.{Renumbering}
use Rattle.k_dict_saved.proofs.migration.tally_of.Given as goal

abbrev pub invariant-loop-run : goal.invariant-loop-run
invariant-loop-run l = Renumbering l.numbers l.runs l.rest l.tally

abbrev pub decreases-loop-run : goal.decreases-loop-run
decreases-loop-run l = length l.rest
