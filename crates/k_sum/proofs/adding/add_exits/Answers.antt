use Rattle.std.proofs.Common.{◌+◌}
use Rattle.k_sum.specs.Exits.{total, with_exits}
use Rattle.k_sum.proofs.ExitLists.{exit_fits, exits_more, exits_whole}
use Rattle.k_sum.proofs.adding.add_exits.Goals as goal

pub add_exit-requires : goal.add_exit-requires
add_exit-requires c =
    exit_fits (total c.args.all.now + total c.args.exits.now) c.loop-exit.all c.loop-exit.rest.now c.in-Some.later.now c.in-Some.exit.now
    c.loop-exit.invariant.sum c.in-Some.ensures.cases.0 c.requires

pub loop-exit-preserved : goal.loop-exit-preserved
loop-exit-preserved c = record {
  whole = exits_whole c.loop-exit.all c.add_exit.new.all c.loop-exit.rest.now c.in-Some.later.now (with_exits c.args.all.now c.args.exits.now) c.in-Some.exit.now
      c.loop-exit.invariant.whole c.in-Some.ensures.cases.0 c.in_ok-add_exit.ensures;
  sum = exits_more (total c.args.all.now + total c.args.exits.now) c.loop-exit.all c.add_exit.new.all c.loop-exit.rest.now c.in-Some.later.now c.in-Some.exit.now
      c.loop-exit.invariant.sum c.in-Some.ensures.cases.0 c.in_ok-add_exit.ensures;
}
