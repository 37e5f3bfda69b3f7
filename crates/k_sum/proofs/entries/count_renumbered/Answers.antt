use Rattle.std.proofs.Common.{◌+◌, length}
use Rattle.k_dict_entries.specs.Tallies.{total}
use Rattle.k_dict_saved.specs.Migration.{renumbered}
use Rattle.k_sum.proofs.Joins.{below_more, fits, numbered_whole, sum_more}
use Rattle.k_sum.proofs.entries.count_renumbered.Goals as goal

pub number_at-number-requires : goal.number_at-number-requires
number_at-number-requires c =
    (below_more (length c.args.numbers.now) c.loop-run.rest.now c.in-Some.later.now c.in-Some.run'.now c.loop-run.invariant.below c.in-Some.ensures.cases.0).0

pub add-requires : goal.add-requires
add-requires c =
    fits c.number_at-number.result (total c.args.tally.now + total c.args.runs.now) c.loop-run.tally c.loop-run.rest.now c.in-Some.later.now c.in-Some.run'.now
    c.loop-run.invariant.sum c.in-Some.ensures.cases.0 c.requires.few

pub loop-run-preserved : goal.loop-run-preserved
loop-run-preserved c = record {
  whole = numbered_whole c.args.numbers.now c.number_at-number.result c.loop-run.tally c.add.new.self c.loop-run.rest.now c.in-Some.later.now
      (renumbered c.args.numbers.now c.args.runs.now c.args.tally.now) c.in-Some.run'.now c.loop-run.invariant.whole c.in-Some.ensures.cases.0
      c.number_at-number.ensures c.in_ok-add.ensures.ok;
  sum = sum_more c.number_at-number.result (total c.args.tally.now + total c.args.runs.now) c.loop-run.tally c.add.new.self c.loop-run.rest.now
      c.in-Some.later.now c.in-Some.run'.now c.loop-run.invariant.sum c.in-Some.ensures.cases.0 c.in_ok-add.ensures.ok;
  below = (below_more (length c.args.numbers.now) c.loop-run.rest.now c.in-Some.later.now c.in-Some.run'.now c.loop-run.invariant.below c.in-Some.ensures.cases.0).1;
}
