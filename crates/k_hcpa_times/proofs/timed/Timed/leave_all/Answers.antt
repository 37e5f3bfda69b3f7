use Rattle.std.proofs.Common.{arith}
use Rattle.k_hcpa_times.proofs.Leaving.{left_first, levels_behind}
use Rattle.k_hcpa_times.proofs.timed.Timed.leave_all.Goals as goal

pub loop-left-preserved : goal.loop-left-preserved
loop-left-preserved g c =
    let seen = g.Self.Timed.seen in
    let s = seen c.loop-left.self in
    let t = seen c.leave_below.new.self in
    record {
      live = levels_behind c.args.depth c.args.count c.loop-left.left s t c.leave_below.ensures.left c.loop-left.invariant.live;
      same = left_first c.args.depth c.args.count c.args.regions c.loop-left.left s t _ (omega (arith, c.loop-left-test.true)) c.leave_below.ensures.left c.loop-left.invariant.same;
    }
