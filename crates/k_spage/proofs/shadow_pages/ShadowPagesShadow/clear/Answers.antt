use Rattle.std.proofs.Common.{ℕ, List, Option, subst}
use Rattle.k_shadow.proofs.Contents.{content-cleared}
use Rattle.k_shadow.proofs.Rows.{IsCleared}
use Rattle.k_spage.specs.Pages.{paged_row}
use Rattle.k_spage.proofs.shadow_pages.ShadowPagesShadow.clear.Goals as goal

pub returns-then-depth-gt0-clause-content : goal.returns-then-depth-gt0-clause-content
returns-then-depth-gt0-clause-content c =
    let s = c.args.self.now in
    let e = c.clear_locations.ensures in
    let old = s.pages.slots in
    let new = c.clear_locations.new.pages.slots in
    let P : List (Option ℕ) → Type 0 = λ table. IsCleared (paged_row old table) (paged_row new table) c.args.first c.args.count in
    let seen : IsCleared (paged_row old c.deref.result.now) (paged_row new c.deref.result.now) c.args.first c.args.count = record { among = e.among; before = e.before; behind = e.behind } in
    content-cleared (paged_row old s.table.items) (paged_row new s.table.items) s.versions 4194304 c.args.first c.args.count (subst P c.deref.ensures.value seen) c.depth.ensures.given
