use Rattle.std.proofs.Common.{◌∙◌, sym}
use Rattle.k_shadow.proofs.Contents.{depth_counted}
use Rattle.k_spage.specs.Pages.{paged_row}
use Rattle.k_spage.proofs.shadow_pages.ShadowPagesShadow.depth.Goals as goal

pub returns : goal.returns
returns c =
    let s = c.args.self.now in
    record { count = c.depth.ensures.count ∙ sym (depth_counted (paged_row s.pages.slots s.table.items) s.versions 4194304) }
