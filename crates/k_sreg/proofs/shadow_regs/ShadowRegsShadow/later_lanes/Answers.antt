use Rattle.std.proofs.Common.{◌+◌, ◌∙◌, ap, sym, refl, arith}
use Rattle.k_shadow.proofs.Contents.{depth_counted, lanes_here}
use Rattle.k_shadow_rows.specs.Rows.{row_in}
use Rattle.k_sreg.proofs.shadow_regs.ShadowRegsShadow.later_lanes.Goals as goal

pub later_lanes-requires-clause-stamp : goal.later_lanes-requires-clause-stamp
later_lanes-requires-clause-stamp g c =
    let s = c.args.self.now in
    omega (arith, s.stamped c.args.loc, c.requires.few)

pub later_lanes-requires-clause-shallow : goal.later_lanes-requires-clause-shallow
later_lanes-requires-clause-shallow g c =
    let s = c.args.self.now in
    omega (arith, c.depth-depth.ensures.count, depth_counted (row_in s.rows) s.versions 2097152, c.requires.shallow)

pub returns-clause-times : goal.returns-clause-times
returns-clause-times g c =
    let s = c.args.self.now in
    let rows = row_in s.rows in
    lanes_here c.depth-depth.result rows s.versions 2097152 c.args.loc (rows c.args.loc) c.starts-starts.result.now (g.V.TimeLanes.time c.args.before) (g.V.TimeLanes.time c.later_lanes.result) refl c.requires.few (omega (arith, c.depth-depth.ensures.count, depth_counted rows s.versions 2097152)) c.starts-starts.ensures.starts c.later_lanes.ensures.times c.requires.small

pub returns-clause-steps : goal.returns-clause-steps
returns-clause-steps g c =
    let s = c.args.self.now in
    c.later_lanes.ensures.steps ∙ ap (λ n. c.args.steps.now + n) (c.depth-depth.ensures.count ∙ sym (depth_counted (row_in s.rows) s.versions 2097152))
