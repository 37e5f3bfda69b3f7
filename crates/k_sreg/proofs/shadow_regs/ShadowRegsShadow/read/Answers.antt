use Rattle.std.proofs.Common.{◌∙◌, ap, refl, arith}
use Rattle.k_shadow.specs.Rows.{row_time}
use Rattle.k_shadow.proofs.Contents.{depth_counted, time_here}
use Rattle.k_shadow_rows.specs.Rows.{row_in}
use Rattle.k_sreg.proofs.shadow_regs.ShadowRegsShadow.read.Goals as goal

pub number-requires : goal.number-requires
number-requires g c =
    let s = c.args.self.now in
    omega (arith, depth_counted (row_in s.rows) s.versions 2097152, c.requires.live)

pub returns-clause-time : goal.returns-clause-time
returns-clause-time g c =
    let s = c.args.self.now in
    let rows = row_in s.rows in
    let level = c.args.level in
    let here = time_here rows s.versions 2097152 c.args.loc (rows c.args.loc) s.versions.live refl refl level c.requires.live in
    c.time.ensures.time ∙ ap (λ n. row_time (rows c.args.loc) n level) c.number.ensures.number ∙ here
