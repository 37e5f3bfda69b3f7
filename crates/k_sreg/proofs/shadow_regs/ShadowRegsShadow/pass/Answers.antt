use Rattle.k_shadow.proofs.Contents.{content-passed}
use Rattle.k_shadow_rows.specs.Rows.{row_in}
use Rattle.k_sreg.proofs.shadow_regs.ShadowRegsShadow.pass.Goals as goal

pub returns-clause-content : goal.returns-clause-content
returns-clause-content g c =
    let s = c.args.self.now in
    content-passed (row_in s.rows) (row_in c.copy.new.self) s.versions 2097152 c.args.from c.args.to c.copy.ensures.others c.copy.ensures.here
