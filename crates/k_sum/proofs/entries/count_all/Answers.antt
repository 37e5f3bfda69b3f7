use Rattle.std.proofs.Common.{◌+◌}
use Rattle.k_dict_entries.specs.Tallies.{total}
use Rattle.k_sum.specs.Joining.{counted_all}
use Rattle.k_sum.proofs.Joins.{fits, own_whole, sum_more}
use Rattle.k_sum.proofs.entries.count_all.Goals as goal

pub add-requires : goal.add-requires
add-requires c =
    fits c.in-Some.run'.now.entry (total c.args.tally.now + total c.args.runs.now) c.loop-run.tally c.loop-run.rest.now c.in-Some.later.now c.in-Some.run'.now
    c.loop-run.invariant.sum c.in-Some.ensures.cases.0 c.requires

pub loop-run-preserved : goal.loop-run-preserved
loop-run-preserved c = record {
  whole = own_whole c.loop-run.tally c.add.new.self c.loop-run.rest.now c.in-Some.later.now (counted_all c.args.runs.now c.args.tally.now) c.in-Some.run'.now
      c.loop-run.invariant.whole c.in-Some.ensures.cases.0 c.in_ok-add.ensures.ok;
  sum = sum_more c.in-Some.run'.now.entry (total c.args.tally.now + total c.args.runs.now) c.loop-run.tally c.add.new.self c.loop-run.rest.now
      c.in-Some.later.now c.in-Some.run'.now c.loop-run.invariant.sum c.in-Some.ensures.cases.0 c.in_ok-add.ensures.ok;
}
