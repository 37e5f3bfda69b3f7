use Rattle.k_hcpa_times.proofs.Args.{below_on, raised_on, levels_on, steps_on}
use Rattle.std.proofs.Common.{◌∙◌}
use Rattle.k_hcpa_times.proofs.timed.Timed.raise_all.Goals as goal

pub loop-arg-preserved : goal.loop-arg-preserved
loop-arg-preserved g c =
    let seen = g.Self.Timed.seen in
    let a = c.in-Some.arg.now in
    let rest = c.in-Some.more.now in
    let whole = c.loop-arg.rest.now in
    let s = seen c.loop-arg.self in
    let t = seen c.raise_arg.new.self in
    let same = c.in-Some.ensures.cases.0 in
    let is = c.raise_arg.ensures.raised in
    let live = levels_on c.args.first a s t is in
    let before = c.loop-arg.invariant in
    record {
      below = below_on c.args.first a rest whole s t same is before.below;
      raised = raised_on c.args.first a rest whole s t _ same is before.raised;
      kept = λ at h. c.raise_arg.ensures.kept at (before.kept at h);
      live = live ∙ before.live;
      steps = steps_on c.args.first a rest whole c.args.args.now s t c.loop-arg.steps c.raise_arg.new.steps c.args.steps.now same live c.raise_arg.ensures.steps before.steps;
    }
