use Rattle.std.proofs.Common.{◌+◌, length, ap, ◌∙◌, arith}
use Rattle.k_shadow.specs.Content.{Content, depth}
use Rattle.k_hcpa_times.proofs.Args.{steps_handed}
use Rattle.k_hcpa_times.proofs.LanesHanded.{holds_handed, left_further, left_none, still_below}
use Rattle.k_hcpa_times.proofs.lane_times.hand_all_lanes.Goals as goal

pub loop-arg-preserved : goal.loop-arg-preserved
loop-arg-preserved g c =
    let content = g.S.Shadow.content in
    let time = g.V.TimeLanes.time in
    let a = c.in-Some.arg.now in
    let rest = c.in-Some.more.now in
    let whole = c.loop-arg.rest.now in
    let old : Content = content c.args.registers.now in
    let now : Content = content c.loop-arg.registers in
    let next : Content = content c.hand_lanes-waits.new.registers in
    let same = c.in-Some.ensures.cases.0 in
    let before = c.loop-arg.invariant in
    let step = c.hand_lanes-waits.ensures.handed in
    let to = c.args.to + c.loop-arg.given in
    record {
      below = still_below c.args.first now.limit next.limit a rest whole same step.limit before.below;
      holds = holds_handed c.args.first to 1 _ now next (time c.loop-arg.waits) (time c.hand_lanes-waits.result) step g.V.TimeLanes.count before.holds;
      count = omega (arith, ap (λ xs. length xs) same, before.count);
      entries = step.entries ∙ before.entries;
      limit = step.limit ∙ before.limit;
      live = step.levels ∙ before.live;
      room = λ at most h. c.hand_lanes-waits.ensures.kept at most (before.room at most h);
      handed = left_further c.args.first c.args.to c.loop-arg.given c.args.count a c.args.args.now rest whole old now next (time c.args.waits) (time c.loop-arg.waits) (time c.hand_lanes-waits.result)
          (omega (arith, ap (λ xs. length xs) same, before.count, c.requires.few)) same before.live step before.handed;
      least = omega (arith, before.least, c.hand_lanes-waits.ensures.least);
      most = steps_handed a rest whole c.args.args.now (depth now) (depth next) c.loop-arg.steps c.hand_lanes-waits.new.steps c.args.steps.now same step.levels c.hand_lanes-waits.ensures.steps before.most;
    }

pub returns-clause-handed : goal.returns-clause-handed
returns-clause-handed g c =
    let content = g.S.Shadow.content in
    let time = g.V.TimeLanes.time in
    let now = c.loop-arg.invariant in
    left_none c.args.first c.args.to c.loop-arg.given c.args.count c.args.args.now c.loop-arg.rest.now (content c.args.registers.now) (content c.loop-arg.registers) (time c.args.waits)
    (time c.loop-arg.waits) c.in_default.ensures.cases now.entries now.limit now.live now.handed
