use Rattle.std.proofs.Common.{◌∙◌, arith}
use Rattle.k_shadow.proofs.Contents.{depth_counted, content-stamped}
use Rattle.k_shadow_rows.specs.Rows.{row_in}
use Rattle.k_sreg.proofs.shadow_regs.ShadowRegsShadow.put_lanes.Goals as goal

pub put_lanes-requires-clause-row : goal.put_lanes-requires-clause-row
put_lanes-requires-clause-row g c = (c.requires.room.0.0, omega (arith, c.requires.room.0.1, c.depth-depth.ensures.count))

pub put_lanes-requires-clause-depth : goal.put_lanes-requires-clause-depth
put_lanes-requires-clause-depth g c =
    let s = c.args.self.now in
    omega (arith, c.requires.shallow, c.depth-depth.ensures.count, depth_counted (row_in s.rows) s.versions 2097152)

pub returns-clause-content : goal.returns-clause-content
returns-clause-content g c =
    let s = c.args.self.now in
    let rows = row_in s.rows in
    let is = c.put_lanes.ensures.given in
    let stamp = c.last_given-stamp.ensures in
    content-stamped rows (row_in c.put_lanes.new.self) s.versions 2097152 c.args.loc (g.V.TimeLanes.time c.args.times) stamp.given is.others (is.stamped ∙ stamp.last) (λ k lt. is.given k (omega (arith, lt, c.depth-depth.ensures.count)))
