use Rattle.std.proofs.Common.{◌≡◌, ℕ, ◌/◌, ◌≤◌, length, Option, Some, ◌∙◌, ap, sym, subst, arith}
use Rattle.k_shadow.proofs.Contents.{depth_counted, content-stamped}
use Rattle.k_spage.specs.Pages.{rows_under, key_of, page_width, paged_row}
use Rattle.k_spage.proofs.Paged.{given-paged}
use Rattle.k_spage.proofs.shadow_pages.ShadowPagesShadow.put_lanes.Goals as goal

pub put_lanes-requires-clause-few : goal.put_lanes-requires-clause-few
put_lanes-requires-clause-few g c =
    let s = c.args.self.now in
    let named : key_of s.table.items (c.args.loc / 256) ≡ Some c.key_of_page-key.result = sym (c.key_of_page-key.ensures ∙ ap (λ keys. key_of keys (c.args.loc / 256)) c.deref.ensures.value) in
    let P : Option ℕ → Type 0 = λ key. length s.versions.live ≤ page_width (rows_under s.pages.slots key) in
    omega (arith, c.depth-depth.ensures.count, subst P named c.requires.room.1)

pub put_lanes-requires-clause-depth : goal.put_lanes-requires-clause-depth
put_lanes-requires-clause-depth g c =
    let s = c.args.self.now in
    omega (arith, c.requires.shallow, c.depth-depth.ensures.count, depth_counted (paged_row s.pages.slots s.table.items) s.versions 4194304)

pub returns-clause-content : goal.returns-clause-content
returns-clause-content g c =
    let s = c.args.self.now in
    let old = s.pages.slots in
    let new = c.put_lanes.new.pages.slots in
    let table = s.table.items in
    let key = c.key_of_page-key.result in
    let loc = c.args.loc in
    let times = g.V.TimeLanes.time c.args.times in
    let stamp = c.last_given-stamp in
    let named : key_of table (loc / 256) ≡ Some key = sym (c.key_of_page-key.ensures ∙ ap (λ keys. key_of keys (loc / 256)) c.deref.ensures.value) in
    let is = given-paged times old new table loc key stamp.result c.depth-depth.result s.kept named c.put_lanes.ensures.page c.put_lanes.ensures.given in
    content-stamped (paged_row old table) (paged_row new table) s.versions 4194304 loc times stamp.ensures.given is.others (is.stamped ∙ stamp.ensures.last) (λ k lt. is.given k (omega (arith, lt, c.depth-depth.ensures.count)))
