use Rattle.std.proofs.Common.{◌∙◌, sym}
use Rattle.k_shadow.proofs.Contents.{depth_counted}
use Rattle.k_shadow_rows.specs.Rows.{row_in}
use Rattle.k_sreg.proofs.shadow_regs.ShadowRegsShadow.depth.Goals as goal

pub returns : goal.returns
returns c =
    let s = c.args.self.now in
    record { count = c.depth.ensures.count ∙ sym (depth_counted (row_in s.rows) s.versions 2097152) }
