use Rattle.std.proofs.Common.{◌∙◌, ap, arith}
use Rattle.k_shadow.specs.Rows.{content_of}
use Rattle.k_shadow.proofs.Contents.{depth_counted, content-entered}
use Rattle.k_shadow_rows.specs.Rows.{row_in}
use Rattle.k_sreg.proofs.shadow_regs.ShadowRegsShadow.enter.Goals as goal

pub enter-requires-clause-shallow : goal.enter-requires-clause-shallow
enter-requires-clause-shallow c =
    let s = c.args.self.now in
    omega (arith, depth_counted (row_in s.rows) s.versions 2097152, c.requires.shallow)

pub invariant_of-self : goal.invariant_of-self
invariant_of-self c = record { stamped = λ loc. omega (arith, c.args.self.now.stamped loc, ap (λ v. v.given) c.enter.ensures.entered) }

pub returns : goal.returns
returns c =
    let s = c.args.self.now in
    record { content = ap (λ v. content_of (row_in s.rows) v 2097152) c.enter.ensures.entered ∙ content-entered (row_in s.rows) s.versions 2097152 s.stamped }
