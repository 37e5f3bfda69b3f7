use Rattle.std.proofs.Common.{◌+◌, ◌*◌, ◌≤◌, ◌∙◌, ap, arith, length, subst}
use Rattle.k_hcpa_times.specs.Seen.{levels}
use Rattle.k_hcpa_times.proofs.Args.{below_handed, handed_on, levels_handed, steps_handed, few_reads}
use Rattle.k_hcpa_times.proofs.timed.Timed.hand_all.Goals as goal

pub loop-given-preserved : goal.loop-given-preserved
loop-given-preserved g c =
    let seen = g.Self.Timed.seen in
    let a = c.in-Some.arg.now in
    let rest = c.in-Some.more.now in
    let whole = c.loop-given.rest.now in
    let s = seen c.loop-given.self in
    let t = seen c.hand_arg.new.self in
    let to = c.args.to + c.loop-given.given in
    let same = c.in-Some.ensures.cases.0 in
    let is = c.hand_arg.ensures.handed in
    let live = levels_handed c.args.first to a s t is in
    let before = c.loop-given.invariant in
    record {
      below = below_handed c.args.first to a rest whole s t same is before.below;
      within = omega (arith, c.loop-given-test.true);
      same = handed_on c.args.first c.args.to c.loop-given.given c.args.count a rest whole s t _ (omega (arith, c.loop-given-test.true)) same is before.same;
      kept = λ at h. c.hand_arg.ensures.kept at (before.kept at h);
      limit = ap (λ x. x.registers) is ∙ before.limit;
      live = live ∙ before.live;
      least = omega (arith, before.least, c.hand_arg.ensures.least);
      most = steps_handed a rest whole c.args.args.now (levels s) (levels t) c.loop-given.steps c.hand_arg.new.steps c.args.steps.now same live c.hand_arg.ensures.steps before.most;
    }

pub returns-clause-steps : goal.returns-clause-steps
returns-clause-steps g c =
    let s = g.Self.Timed.seen c.loop-given.self in
    let args = c.args.args.now in
    let reads = few_reads c.args.first (levels s) c.loop-given.rest.now in
    let at_s : c.raise_all.new.steps ≤ c.args.steps.now + length args * levels s = omega (arith, reads, c.raise_all.ensures.steps, c.loop-given.invariant.most) in
    subst (λ n. c.raise_all.new.steps ≤ c.args.steps.now + length args * n) c.loop-given.invariant.live at_s
