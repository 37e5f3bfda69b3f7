use Rattle.std.proofs.Common.{◌≡◌, ℕ, ◌/◌, ◌≤◌, length, Option, Some, ◌∙◌, ap, sym, subst, arith}
use Rattle.std.specs.Prelude.{slice_index}
use Rattle.k_shadow.proofs.Contents.{depth_counted, content-written}
use Rattle.k_shadow.proofs.Rows.{IsWritten}
use Rattle.k_spage.specs.Pages.{rows_under, key_of, page_width, page_greatest, paged_row}
use Rattle.k_spage.proofs.Paged.{given-paged}
use Rattle.k_spage.proofs.shadow_pages.ShadowPagesShadow.put.Goals as goal

pub put-requires-clause-few : goal.put-requires-clause-few
put-requires-clause-few c =
    let s = c.args.self.now in
    let named : key_of s.table.items (c.args.loc / 256) ≡ Some c.key_of_page-key.result = sym (c.key_of_page-key.ensures ∙ ap (λ keys. key_of keys (c.args.loc / 256)) c.deref.ensures.value) in
    let P : Option ℕ → Type 0 = λ key. length s.versions.live ≤ page_width (rows_under s.pages.slots key) in
    omega (arith, c.requires.each, depth_counted (paged_row s.pages.slots s.table.items) s.versions 4194304, subst P named c.requires.room.there.1)

pub put-requires-clause-times : goal.put-requires-clause-times
put-requires-clause-times c =
    let s = c.args.self.now in
    let named : key_of s.table.items (c.args.loc / 256) ≡ Some c.key_of_page-key.result = sym (c.key_of_page-key.ensures ∙ ap (λ keys. key_of keys (c.args.loc / 256)) c.deref.ensures.value) in
    let room = c.requires.room in
    let P : Option ℕ → Type 0 = λ key. room.most ≤ page_greatest (rows_under s.pages.slots key) in
    let most = subst P named room.there.2 in
    λ k lt. omega (arith, most, room.within k (omega (arith, lt, c.requires.each)))

pub returns-clause-content : goal.returns-clause-content
returns-clause-content c =
    let s = c.args.self.now in
    let old = s.pages.slots in
    let new = c.put.new.pages.slots in
    let table = s.table.items in
    let key = c.key_of_page-key.result in
    let loc = c.args.loc in
    let times = c.args.times.now in
    let stamp = c.last_given-stamp in
    let named : key_of table (loc / 256) ≡ Some key = sym (c.key_of_page-key.ensures ∙ ap (λ keys. key_of keys (loc / 256)) c.deref.ensures.value) in
    let is = given-paged (slice_index times) old new table loc key stamp.result (length times) s.kept named c.put.ensures.page c.put.ensures.given in
    let w : IsWritten (paged_row old table) (paged_row new table) loc s.versions.given times = record { stamp = is.stamped ∙ stamp.ensures.last; each = is.given; rest = is.others } in
    content-written (paged_row old table) (paged_row new table) s.versions 4194304 loc times w stamp.ensures.given c.requires.each
