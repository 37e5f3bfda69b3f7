use Rattle.std.proofs.Common.{◌≡◌, ◌+◌, length}
use Rattle.k_dict_entries.specs.Entries.{NameBelow}
use Rattle.k_dict_entries.specs.Tallies.{total}
use Rattle.k_dict_saved.specs.Migration.{renumbered}
use Rattle.k_sum.proofs.entries.count_renumbered.Given as goal

abbrev pub invariant-loop-run : goal.invariant-loop-run
invariant-loop-run l = record {
  whole : renumbered l.numbers l.rest l.tally ≡ renumbered l.numbers l.runs l.fn.tally;
  sum : total l.tally + total l.rest ≡ total l.fn.tally + total l.runs;
  below : NameBelow (length l.numbers) l.rest;
}

abbrev pub decreases-loop-run : goal.decreases-loop-run
decreases-loop-run l = length l.rest
