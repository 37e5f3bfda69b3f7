use Rattle.std.proofs.Common.{◌∙◌, ap, arith}
use Rattle.k_shadow.specs.Rows.{content_of}
use Rattle.k_shadow.proofs.Contents.{depth_counted, content-left}
use Rattle.k_spage.specs.Pages.{paged_row}
use Rattle.k_spage.proofs.shadow_pages.ShadowPagesShadow.leave.Goals as goal

pub leave-requires : goal.leave-requires
leave-requires c =
    let s = c.args.self.now in
    omega (arith, depth_counted (paged_row s.pages.slots s.table.items) s.versions 4194304, c.requires)

pub invariant_of-self-clause-stamped : goal.invariant_of-self-clause-stamped
invariant_of-self-clause-stamped c = λ loc. omega (arith, c.args.self.now.stamped loc, ap (λ v. v.given) c.leave.ensures.left)

pub returns-clause-content : goal.returns-clause-content
returns-clause-content c =
    let s = c.args.self.now in
    ap (λ v. content_of (paged_row s.pages.slots s.table.items) v 4194304) c.leave.ensures.left ∙ content-left (paged_row s.pages.slots s.table.items) s.versions 4194304
