use Rattle.std.proofs.Common.{◌∙◌, ap, arith}
use Rattle.k_shadow.specs.Rows.{content_of}
use Rattle.k_shadow.proofs.Contents.{depth_counted, content-entered}
use Rattle.k_spage.specs.Pages.{paged_row}
use Rattle.k_spage.proofs.shadow_pages.ShadowPagesShadow.enter.Goals as goal

pub enter-requires-clause-shallow : goal.enter-requires-clause-shallow
enter-requires-clause-shallow c =
    let s = c.args.self.now in
    omega (arith, depth_counted (paged_row s.pages.slots s.table.items) s.versions 4194304, c.requires.shallow)

pub invariant_of-self-clause-stamped : goal.invariant_of-self-clause-stamped
invariant_of-self-clause-stamped c = λ loc. omega (arith, c.args.self.now.stamped loc, ap (λ v. v.given) c.enter.ensures.entered)

pub returns-clause-content : goal.returns-clause-content
returns-clause-content c =
    let s = c.args.self.now in
    ap (λ v. content_of (paged_row s.pages.slots s.table.items) v 4194304) c.enter.ensures.entered ∙ content-entered (paged_row s.pages.slots s.table.items) s.versions 4194304 s.stamped
