use Rattle.std.proofs.Common.{◌∙◌, ap, refl, arith}
use Rattle.k_shadow.specs.Rows.{row_time}
use Rattle.k_shadow.proofs.Contents.{depth_counted, time_here}
use Rattle.k_spage.specs.Pages.{paged_row}
use Rattle.k_spage.proofs.shadow_pages.ShadowPagesShadow.read.Goals as goal

pub number-number-requires : goal.number-number-requires
number-number-requires g c =
    let s = c.args.self.now in
    omega (arith, depth_counted (paged_row s.pages.slots s.table.items) s.versions 4194304, c.requires.live)

pub returns-clause-time : goal.returns-clause-time
returns-clause-time g c =
    let s = c.args.self.now in
    let row = paged_row s.pages.slots c.deref.result.now c.args.loc in
    let here = ap (λ table. paged_row s.pages.slots table c.args.loc) c.deref.ensures.value in
    c.time_of.ensures.time
    ∙ ap (λ n. row_time row n c.args.level) c.number-number.ensures.number
    ∙ time_here (paged_row s.pages.slots s.table.items) s.versions 4194304 c.args.loc row s.versions.live here refl c.args.level c.requires.live
