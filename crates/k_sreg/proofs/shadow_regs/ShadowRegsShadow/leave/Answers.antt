use Rattle.std.proofs.Common.{◌∙◌, ap, arith}
use Rattle.k_shadow.specs.Rows.{content_of}
use Rattle.k_shadow.proofs.Contents.{depth_counted, content-left}
use Rattle.k_shadow_rows.specs.Rows.{row_in}
use Rattle.k_sreg.proofs.shadow_regs.ShadowRegsShadow.leave.Goals as goal

pub leave-requires : goal.leave-requires
leave-requires c =
    let s = c.args.self.now in
    omega (arith, depth_counted (row_in s.rows) s.versions 2097152, c.requires)

pub invariant_of-self : goal.invariant_of-self
invariant_of-self c = record { stamped = λ loc. omega (arith, c.args.self.now.stamped loc, ap (λ v. v.given) c.leave.ensures.left) }

pub returns : goal.returns
returns c =
    let s = c.args.self.now in
    record { content = ap (λ v. content_of (row_in s.rows) v 2097152) c.leave.ensures.left ∙ content-left (row_in s.rows) s.versions 2097152 }
